use Rattle.std.proofs.Common.{arith, inr}
use Rattle.lock_name.specs.Locks.{count_of}
use Rattle.lock_table.specs.Counted.{less}
use Rattle.lock_table.proofs.Moving.{raised_first, raised_next, high_next, high_done}
use Rattle.lock_table.proofs.counts.Counts.raise_surplus.Goals as goal

pub loop-name-init : goal.loop-name-init
loop-name-init c = record { in_range = omega arith; raised = raised_first (count_of c.args.self.now) (count_of (less c.args.counts.now c.args.others.now)); left = λ x named. inr named }

pub loop-name-preserved : goal.loop-name-preserved
loop-name-preserved c = record {
  in_range = omega arith;
  raised = raised_next (count_of c.args.self.now) (count_of c.loop-name.self) (count_of c.raise.new.self) (count_of (less c.args.counts.now c.args.others.now)) c.name-item.result c.surplus.result c.surplus.ensures.count c.in_ok-raise.ensures.ok c.loop-name.invariant.raised;
  left = high_next (count_of c.loop-name.self) (count_of c.raise.new.self) (count_of (less c.args.counts.now c.args.others.now)) c.args.names.now c.loop-name.name-index _ c.name-item.result c.surplus.result (omega arith) c.loop-name-test.true c.name-item.is c.surplus.ensures.count c.in_ok-raise.ensures.ok c.loop-name.invariant.left;
}

pub returns-in_err-raise-clause-raised : goal.returns-in_err-raise-clause-raised
returns-in_err-raise-clause-raised c = rw c.in_err-raise.ensures.err c.loop-name.invariant.raised

pub returns-clause-ok : goal.returns-clause-ok
returns-clause-ok c = high_done (count_of c.loop-name.self) (count_of (less c.args.counts.now c.args.others.now)) c.args.names.now c.loop-name.name-index c.loop-name-test.false c.loop-name.invariant.left
