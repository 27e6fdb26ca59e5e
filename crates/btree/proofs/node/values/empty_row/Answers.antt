use Rattle.std.proofs.Common.{get_or, slice_set, ap, ◌∙◌, add-one}
use Rattle.btree.specs.Values.{emptied}
use Rattle.btree.proofs.Values.{mapped_at, mapped_more}
use Rattle.btree.proofs.node.values.empty_row.Goals as goal

pub loop-pair-preserved : goal.loop-pair-preserved
loop-pair-preserved g c =
    let f = emptied g.V.Vacant.none (g.P.Point.before c.args.from.now) (g.Q.Point.before c.args.to.now) in
    let xs = c.args.row.now in
    let i = c.loop-pair.pair-index in
    let y = c.empty_pair.new.pair in
    let d = c.pair-item.result in
    let low = c.loop-pair-test.true in
    let now = c.loop-pair.invariant in
    let is = c.empty_pair.ensures ∙ ap (λ zs. f (get_or zs i d)) now ∙ ap f (mapped_at f xs i d low) in
    rw add-one (ap (λ zs. slice_set zs i y) now ∙ mapped_more f xs i y d low is)
