use Rattle.shared_engine.specs.laws.Quiet.{writes_commit}
use Rattle.shared_engine.specs.laws.Told.{ended_at, refused_at, cause_at}
use Rattle.hub.proofs.inside.committed.Goals as goal

pub returns-clause-ended : goal.returns-clause-ended
returns-clause-ended c = ended_at _ _ _ _ _ c.tcommit-done.ensures.journal c.tcommit-done.ensures.ended

pub returns-clause-writes : goal.returns-clause-writes
returns-clause-writes c = λ w. writes_commit _ _ _ _ _ w c.tcommit-done.ensures.ended

pub returns-clause-refused : goal.returns-clause-refused
returns-clause-refused c = let h = c.tcommit-done.ensures in refused_at _ _ _ c.args.session.now.held c.tcommit-done.new.session.held h.journal h.refused

pub returns-clause-cause : goal.returns-clause-cause
returns-clause-cause c = let h = c.tcommit-done.ensures in cause_at _ _ c.args.session.now.held.state _ c.args.session.now.held c.tcommit-done.new.session.held h.refused h.cause
