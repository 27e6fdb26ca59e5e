use Rattle.std.proofs.Common.{◌≡◌, ◌+◌, take, suc, subst, None, arith}
use Rattle.std.specs.Ordering.{nat_cmp}
use Rattle.std.specs.FinMap.Entries.{find}
use Rattle.lock_trie.proofs.Holding.{none_yet}
use Rattle.lock_trie.proofs.several.place.Goals as goal

pub loop-i-preserved : goal.loop-i-preserved
loop-i-preserved c = record {
  in_range = omega arith;
  none =
      let e : suc c.loop-i.i ≡ c.loop-i.i + 1 = omega arith in
      subst (λ k. find nat_cmp c.args.job (take k c.args.list.now) ≡ None) e (none_yet c.args.job c.loop-i.i c.args.list.now (0, 0) c.loop-i-test.true c.loop-i.invariant.none c.if-list-i.false);
}
