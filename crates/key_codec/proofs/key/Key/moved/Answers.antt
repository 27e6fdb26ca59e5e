use Rattle.std.proofs.Common.{◌≡◌, ◌∙◌, sym, inr, refl, true, false}
use Rattle.key_codec.proofs.Children.{apart}
use Rattle.key_codec.proofs.Moved.{IsMoved, is_moved, too_many}
use Rattle.key_codec.proofs.key.Key.moved.Goals as goal

pub unreachable-requires : goal.unreachable-requires
unreachable-requires c = let clash : true ≡ false = sym c.requires ∙ apart c.args.from.now c.args.self.now c.in_default.ensures.none in cc

pub returns-then-subscripts-gt-MOST_SUBSCRIPTS : goal.returns-then-subscripts-gt-MOST_SUBSCRIPTS
returns-then-subscripts-gt-MOST_SUBSCRIPTS c =
    inr (
      refl,
      too_many c.args.to.now c.args.from.now c.args.self.now c.in-Some.rest.now c.depth.result c.count_subscripts.result c.behind.ensures.root_form c.behind.ensures.form c.in-Some.ensures.some c.depth.ensures.depth c.count_subscripts.ensures.count c.if-subscripts-gt-MOST_SUBSCRIPTS.true,
    )

pub invariant_of-result : goal.invariant_of-result
invariant_of-result c =
    let is : IsMoved c.args.to.now c.args.from.now c.args.self.now c.in_ok-bytes.bytes = is_moved c.args.to.now c.args.from.now c.args.self.now c.as_slice.result.now c.in-Some.rest.now c.in_ok-bytes.bytes c.depth.result c.count_subscripts.result c.as_slice.ensures.form c.behind.ensures.root_form c.behind.ensures.form c.in-Some.ensures.some c.as_slice.ensures.value c.in_ok-bytes.ensures.bytes c.depth.ensures.depth c.count_subscripts.ensures.count c.if-subscripts-gt-MOST_SUBSCRIPTS.false in
    is.keeps

pub returns : goal.returns
returns c =
    let is : IsMoved c.args.to.now c.args.from.now c.args.self.now c.in_ok-bytes.bytes = is_moved c.args.to.now c.args.from.now c.args.self.now c.as_slice.result.now c.in-Some.rest.now c.in_ok-bytes.bytes c.depth.result c.count_subscripts.result c.as_slice.ensures.form c.behind.ensures.root_form c.behind.ensures.form c.in-Some.ensures.some c.as_slice.ensures.value c.in_ok-bytes.ensures.bytes c.depth.ensures.depth c.count_subscripts.ensures.count c.if-subscripts-gt-MOST_SUBSCRIPTS.false in
    (is.same, is.few)
