use Rattle.shared_engine.proofs.Alone.{cause_alone}
use Rattle.shared_engine.proofs.locked.Locked.commit_alone.Goals as goal

pub returns-in-Err-clause-done : goal.returns-in-Err-clause-done
returns-in-Err-clause-done c = let h = c.in-Err.ensures in (cause_alone _ _ _ c.requires.level c.requires.alone h.cause, h.refused)
