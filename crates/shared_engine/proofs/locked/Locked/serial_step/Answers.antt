use Rattle.shared_engine.proofs.Alone.{alone_lock}
use Rattle.shared_engine.proofs.locked.Locked.serial_step.Goals as goal

pub returns-in-Lock-clause-alone : goal.returns-in-Lock-clause-alone
returns-in-Lock-clause-alone c = alone_lock _ _ _ _ _ _ c.lock.ensures.units c.lock.ensures.receipt c.lock.ensures.refused c.requires.alone
