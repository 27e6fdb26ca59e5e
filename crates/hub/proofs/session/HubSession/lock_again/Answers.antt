use Rattle.hub.proofs.session.HubSession.lock_again.Goals as goal

pub returns-clause-had : goal.returns-clause-had
returns-clause-had c = rw (← c.self.view_is) c.tried_again-done.ensures.had
