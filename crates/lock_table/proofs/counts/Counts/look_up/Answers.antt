use Rattle.std.proofs.Common.{Some, None}
use Rattle.lock_table.proofs.Smalls.{counted, counted_small}
use Rattle.lock_table.proofs.counts.Counts.look_up.Goals as goal

pub returns-in-Some-clause-count : goal.returns-in-Some-clause-count
returns-in-Some-clause-count c = counted c.self.inside.map c.args.self.now c.args.name.now (Some c.in-Some.count.now) c.self.view_is (rw c.in-Some.is at c.look_up.ensures)

pub returns-in-Some-clause-small : goal.returns-in-Some-clause-small
returns-in-Some-clause-small c = counted_small c.self.inside.map c.args.name.now (Some c.in-Some.count.now) (rw c.in-Some.is at c.look_up.ensures) c.self.invariant

pub returns-in-None-clause-count : goal.returns-in-None-clause-count
returns-in-None-clause-count c = counted c.self.inside.map c.args.self.now c.args.name.now None c.self.view_is (rw c.in-None.is at c.look_up.ensures)
