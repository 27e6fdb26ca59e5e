use Rattle.hub.proofs.session.HubSession.tcommit.Goals as goal

pub returns-clause-ended : goal.returns-clause-ended
returns-clause-ended c = rw (← c.self.view_is) c.committed-done.ensures.ended
