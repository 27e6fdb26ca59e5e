use Rattle.lock_table.proofs.Rows.{within_outside}
use Rattle.lock_table.proofs.row.Row.go_back.Goals as goal

pub invariant_of-self : goal.invariant_of-self
invariant_of-self c = within_outside c.give_back.new.held c.take.new.self c.take.ensures.after
