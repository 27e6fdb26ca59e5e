use Rattle.listing.specs.laws.Bytes.{WritesBeginning-all}
use Rattle.script_run.proofs.Stopped.{is_error, kept_all, begun_left}
use Rattle.script_run.proofs.run.run_whole.Goals as goal

-- what is gathered is written after a want of memory
pub returns-in-Ok-written-clause-unlost : goal.returns-in-Ok-written-clause-unlost
returns-in-Ok-written-clause-unlost g c = λ _. kept_all _ _ _ _ _ _ _ (c.in-Err-Memory.ensures.gathered (is_error _ _ c.in-Err-Memory.field-0-is)) c.in-Ok-written.ensures.ok

pub returns-in-Ok-written-clause-begun : goal.returns-in-Ok-written-clause-begun
returns-in-Ok-written-clause-begun g c = begun_left _ _ _ _ _ _ _ (c.in-Err-Memory.ensures.gathered (is_error _ _ c.in-Err-Memory.field-0-is)) (WritesBeginning-all _ _ _ c.in-Ok-written.ensures.ok)

pub returns-in-Err-written-clause-begun : goal.returns-in-Err-written-clause-begun
returns-in-Err-written-clause-begun g c = begun_left _ _ _ _ _ _ _ (c.in-Err-Memory.ensures.gathered (is_error _ _ c.in-Err-Memory.field-0-is)) c.in-Err-written.ensures.err
