use Rattle.hub.proofs.session.HubSession.lone.Goals as goal

pub returns-clause-done : goal.returns-clause-done
returns-clause-done c = rw (← c.self.view_is) c.lone-done.ensures.done
