use Rattle.lock_table.proofs.Below.{have_first, have_none}
use Rattle.lock_table.proofs.counts.Counts.have_below.Goals as goal

pub returns-in-Some : goal.returns-in-Some
returns-in-Some c =
    have_first c.args.name.now c.self.inside.map c.args.self.now (c.in-Some.had.now, c.in-Some.field-0-1.now) c.is_at_or_under.result c.self.view_is c.self.invariant (rw c.in-Some.is at c.first_from.ensures) c.is_at_or_under.ensures

pub returns-in-None : goal.returns-in-None
returns-in-None c = have_none c.args.name.now c.self.inside.map c.args.self.now c.self.view_is (rw c.in-None.is at c.first_from.ensures)
