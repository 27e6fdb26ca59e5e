use Rattle.std.proofs.Common.{inl}
use Rattle.session_calls.proofs.Looked.{if_ok}
use Rattle.session_calls.proofs.upkeep.collect.Goals as goal

pub returns-in-Ok-Ok-clause-done : goal.returns-in-Ok-Ok-clause-done
returns-in-Ok-Ok-clause-done c = inl (c.in-Ok-Ok.progress.visited, if_ok _ _ _ c.in-Ok-Ok.field-0-is c.in-Ok-Ok.ensures.few, c.turn_outcome.ensures)
