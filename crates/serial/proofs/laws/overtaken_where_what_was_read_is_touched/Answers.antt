use Rattle.std.specs.Prelude.{drop}
use Rattle.journal.specs.Touching.{has_read}
use Rattle.serial.specs.Machine.{state_at}
use Rattle.serial.specs.laws.Overtaken.{any_touched_tells}
use Rattle.serial.proofs.laws.overtaken_where_what_was_read_is_touched.Goals as goal

pub returns : goal.returns
returns c t units = any_touched_tells (has_read t.exchanges (state_at t.start units).map) (drop t.start units) (state_at t.start units)
