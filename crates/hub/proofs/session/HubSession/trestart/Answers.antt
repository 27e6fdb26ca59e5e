use Rattle.hub.proofs.session.HubSession.trestart.Goals as goal

pub returns-clause-done : goal.returns-clause-done
returns-clause-done c = rw (← c.self.view_is) c.restarted-done.ensures.done
