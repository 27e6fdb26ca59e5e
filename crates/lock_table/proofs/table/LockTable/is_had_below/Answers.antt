use Rattle.std.proofs.Common.{sym}
use Rattle.std.specs.Cmp.{nat_cmp_total}
use Rattle.std.specs.FinMap.{nat_cmp-IsAntisymmetric}
use Rattle.lock_trie.specs.laws.Conflicts.{left_first, decided_false}
use Rattle.lock_table.proofs.Below.{has_other_below, rows_found}
use Rattle.lock_table.proofs.table.LockTable.is_had_below.Goals as goal

pub loop-other-init : goal.loop-other-init
loop-other-init c = record {
  can = tt;
  finite = tt;
  left = rw (c.into_iter-other-iterator.ensures.into_iter_gives, c.iter-other-items.ensures.rest)
      (left_first nat_cmp_total nat_cmp-IsAntisymmetric (has_other_below c.args.job c.args.name.now) c.self.inside.rows.entries c.args.self.now c.self.view_is c.iter-other-items.ensures.found);
}

pub returns-then-has_below : goal.returns-then-has_below
returns-then-has_below c =
    rows_found c.args.job c.args.name.now c.args.self.now c.loop-other.other-iterator c.next.new.self (c.in-Some.other.now, c.in-Some.row.now) c.has_below.result c.in-Some.ensures.steps c.if-other-job.true c.has_below.ensures c.if-has_below.true c.loop-other.invariant.left

pub returns : goal.returns
returns c = sym (decided_false nat_cmp_total nat_cmp-IsAntisymmetric (has_other_below c.args.job c.args.name.now) c.loop-other.other-iterator c.args.self.now c.in-None.ensures.steps.0 c.loop-other.invariant.left)
