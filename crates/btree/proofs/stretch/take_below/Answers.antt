use Rattle.std.proofs.Common.{◌-◌, subst, sym, get_or}
use Rattle.btree.specs.Branch.{Branch}
use Rattle.btree.specs.Order.{Ascends}
use Rattle.btree.specs.Parts.{flat}
use Rattle.btree.specs.Stretch.{IsRun, IsStretch, lessened}
use Rattle.btree.proofs.Places.{kid_sorted}
use Rattle.btree.proofs.Stretches.{kid_stretch, leaf_stretch}
use Rattle.btree.proofs.stretch.take_below.Goals as goal

pub places-places-requires-clause-sorted : goal.places-places-requires-clause-sorted
places-places-requires-clause-sorted g c =
    subst (λ (b : Branch g.row.K.Denot g.row.V.Denot). Ascends g.K.Ord.cmp b.pairs) (sym c.index.ensures) (kid_sorted g.K.Ord.cmp g.met.K.Ord.total c.args.separators.now.items c.args.kids.now.items c.requires.node c.args.at c.index.result.now c.requires.in_range c.requires.sorted)

pub returns-clause-stretch : goal.returns-clause-stretch
returns-clause-stretch g c =
    let ks = c.args.kids.now.items in
    let from = g.P.Point.before c.args.from.now in
    let to = g.Q.Point.before c.args.to.now in
    let d = c.index.result.now in
    let b = get_or ks c.args.at d in
    let i = c.places-places.result.first in
    let j = c.places-places.result.end in
    let run = subst (λ (x : Branch g.row.K.Denot g.row.V.Denot). IsRun from to x.pairs i j) c.index.ensures c.places-places.ensures.run in
    let made = kid_stretch g.K.Ord.cmp from to (g.met.Q.Point.downward c.args.to.now) c.args.separators.now.items ks c.requires.node c.args.at d c.requires.in_range c.requires.sorted c.requires.ahead (λ p. c.requires.reaches p d) (j - i) (lessened b i j) (leaf_stretch from to b.pairs i j run) in
    subst (IsStretch from to (flat ks) (j - i)) (sym (c.in_ok-take_places.ensures.pairs d)) made
