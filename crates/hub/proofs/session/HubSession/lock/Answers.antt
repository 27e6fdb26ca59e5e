use Rattle.hub.proofs.session.HubSession.lock.Goals as goal

pub returns-clause-tried : goal.returns-clause-tried
returns-clause-tried c = rw (← c.self.view_is) c.tried-done.ensures.tried
