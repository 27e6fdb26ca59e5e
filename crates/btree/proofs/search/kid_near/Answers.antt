use Rattle.std.proofs.Common.{add-one, inl, inr, sym, subst, ◌≡◌, ◌∙◌, arith}
use Rattle.std.specs.declared.cmp.Ordering.TheVariants.{Less}
use Rattle.btree.specs.Parts.{IsFrom}
use Rattle.btree.proofs.Parting.{rise_down, rise_up, from_down}
use Rattle.btree.proofs.search.kid_near.Goals as goal

pub loop-low-preserved-in-Less : goal.loop-low-preserved-in-Less
loop-low-preserved-in-Less g c = record {
  low = omega (arith, c.probe-at.ensures.low, c.probe-at.ensures.high);
  high = omega (arith, c.probe-at.ensures.low, c.probe-at.ensures.high);
  from = c.loop-low.invariant.from;
  under = rise_up g.K.Ord.cmp (λ s. g.K.Ord.cmp c.args.key.now s ≡ Less) (λ x y h k. g.met.K.Ord.total.trans c.args.key.now x y k h) c.args.separators.now _ c.index-separators-at.result c.requires (omega (arith, c.probe-at.ensures.low, c.probe-at.ensures.high))
      (subst (λ s. g.K.Ord.cmp c.args.key.now s ≡ Less) c.index-separators-at.is (sym c.cmp.ensures ∙ c.in-Less.is));
}

pub loop-low-preserved-in-Equal : goal.loop-low-preserved-in-Equal
loop-low-preserved-in-Equal g c = record {
  low = omega (arith, c.probe-at.ensures.low, c.probe-at.ensures.high);
  high = c.loop-low.invariant.high;
  from = rw add-one (rise_down g.K.Ord.cmp (λ s. IsFrom g.K.Ord.cmp s c.args.key.now) (λ x y h k. from_down g.K.Ord.cmp g.met.K.Ord.total x y c.args.key.now h k) c.args.separators.now _ c.index-separators-at.result c.requires (omega (arith, c.probe-at.ensures.low, c.probe-at.ensures.high))
      (subst (λ s. IsFrom g.K.Ord.cmp s c.args.key.now) c.index-separators-at.is (inl (sym c.cmp.ensures ∙ c.in-Equal.is))));
  under = c.loop-low.invariant.under;
}

pub loop-low-preserved : goal.loop-low-preserved
loop-low-preserved g c = record {
  low = omega (arith, c.probe-at.ensures.low, c.probe-at.ensures.high);
  high = c.loop-low.invariant.high;
  from = rw add-one (rise_down g.K.Ord.cmp (λ s. IsFrom g.K.Ord.cmp s c.args.key.now) (λ x y h k. from_down g.K.Ord.cmp g.met.K.Ord.total x y c.args.key.now h k) c.args.separators.now _ c.index-separators-at.result c.requires (omega (arith, c.probe-at.ensures.low, c.probe-at.ensures.high))
      (subst (λ s. IsFrom g.K.Ord.cmp s c.args.key.now) c.index-separators-at.is (inr (sym c.cmp.ensures ∙ c.in-Greater.is))));
  under = c.loop-low.invariant.under;
}
