use Rattle.std.proofs.Common.{ap}
use Rattle.std.specs.Prelude.{is_some}
use Rattle.vorgushan_c.proofs.Spelled.{on_ok}
use Rattle.vorgushan_c.proofs.keys.spell_in.Goals as goal

pub returns-in-Ok-clause-draft : goal.returns-in-Ok-clause-draft
returns-in-Ok-clause-draft c = on_ok _ (ap is_some c.put.ensures)
