use Rattle.std.proofs.Common.{◌≡◌, true, false, add-one, sym, subst, ◌∙◌, arith}
use Rattle.btree.proofs.Order.{not_before_up}
use Rattle.btree.proofs.Parting.{rise_down, rise_up}
use Rattle.btree.proofs.search.kid_at_point.Goals as goal

pub loop-low-preserved-then-is_after : goal.loop-low-preserved-then-is_after
loop-low-preserved-then-is_after g c = record {
  low = omega arith;
  high = c.loop-low.invariant.high;
  before = rw add-one (rise_down g.K.Ord.cmp (λ s. g.P.Point.before c.args.point.now s ≡ true) (λ x y. g.met.P.Point.downward c.args.point.now x y) c.args.separators.now _ c.index-separators-middle.result c.requires (omega arith)
      (subst (λ s. g.P.Point.before c.args.point.now s ≡ true) c.index-separators-middle.is (sym c.is_after.ensures ∙ c.if-is_after.true)));
  after = c.loop-low.invariant.after;
}

pub loop-low-preserved : goal.loop-low-preserved
loop-low-preserved g c = record {
  low = omega arith;
  high = omega arith;
  before = c.loop-low.invariant.before;
  after = rise_up g.K.Ord.cmp (λ s. g.P.Point.before c.args.point.now s ≡ false) (λ x y. not_before_up g.K.Ord.cmp (g.P.Point.before c.args.point.now) (g.met.P.Point.downward c.args.point.now) x y) c.args.separators.now _ c.index-separators-middle.result c.requires (omega arith)
      (subst (λ s. g.P.Point.before c.args.point.now s ≡ false) c.index-separators-middle.is (sym c.is_after.ensures ∙ c.if-is_after.false));
}
