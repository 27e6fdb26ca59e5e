use Rattle.std.proofs.Common.{add-one, sym, ◌∙◌, arith}
use Rattle.btree.specs.Order.{IsBefore, IsAfter}
use Rattle.btree.proofs.Order.{taken_down, dropped_up, before_down, after_up}
use Rattle.btree.proofs.search.place_near.Goals as goal

pub loop-low-preserved-in-Less : goal.loop-low-preserved-in-Less
loop-low-preserved-in-Less g c = record {
  low = omega (arith, c.probe-at.ensures.low, c.probe-at.ensures.high);
  high = omega (arith, c.probe-at.ensures.low, c.probe-at.ensures.high);
  before = c.loop-low.invariant.before;
  after = dropped_up g.K.Ord.cmp (IsAfter g.K.Ord.cmp c.args.key.now) (after_up g.K.Ord.cmp g.met.K.Ord.total c.args.key.now) c.args.row.now _ c.index-row-at.result c.requires (omega (arith, c.probe-at.ensures.low, c.probe-at.ensures.high))
      (sym c.cmp.ensures ∙ c.in-Less.is);
}

pub loop-low-preserved : goal.loop-low-preserved
loop-low-preserved g c = record {
  low = omega (arith, c.probe-at.ensures.low, c.probe-at.ensures.high);
  high = c.loop-low.invariant.high;
  before = rw add-one (taken_down g.K.Ord.cmp (IsBefore g.K.Ord.cmp c.args.key.now) (before_down g.K.Ord.cmp g.met.K.Ord.total c.args.key.now) c.args.row.now _ c.index-row-at.result c.requires (omega (arith, c.probe-at.ensures.low, c.probe-at.ensures.high))
      (sym c.cmp.ensures ∙ c.in-Greater.is));
  after = c.loop-low.invariant.after;
}
