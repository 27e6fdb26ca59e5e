use Rattle.lock_table.proofs.Less.{none_above}
use Rattle.lock_table.proofs.row.Row.end.Goals as goal

pub hold_just-requires-clause-fewer : goal.hold_just-requires-clause-fewer
hold_just-requires-clause-fewer c = none_above c.new.result c.self.inside.held c.new.ensures
