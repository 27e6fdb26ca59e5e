use Rattle.std.proofs.Common.{◌∙◌, ap, sym, arith, ◌-◌, ◌*◌, ◌/◌, ◌^◌}
use Rattle.std.specs.Ordering.{nat_cmp, is_le}
use Rattle.std.specs.Cmp.Lexicographic.{slice_cmp}
use Rattle.std.proofs.lemmas.List.{take_all}
use Rattle.key_codec.proofs.Past.{fronts}
use Rattle.key_codec.proofs.Spelled.{eight, are_bytes}
use Rattle.key_codec.proofs.order.eight_before_past.Goals as goal

pub returns-then-len-ge8 : goal.returns-then-len-ge8
returns-then-len-ge8 c =
    let many = c.if-len-ge8.true in
    let one = take_all c.args.len c.args.first.now (omega (arith, many, c.told-first)) in
    let two = take_all c.args.len c.args.second.now (omega (arith, many, c.told-second)) in
    c.is_le.ensures ∙ ap is_le (
    c.cmp.ensures ∙ (λ i. nat_cmp (c.from_be_bytes-here.ensures i) (c.from_be_bytes-there.ensures i))
    ∙ eight c.args.first.now c.args.second.now c.told-first c.told-second (are_bytes c.args.first.now c.fits-first) (are_bytes c.args.second.now c.fits-second)
    ∙ sym (λ i. slice_cmp nat_cmp (one i) (two i))
    )

pub returns : goal.returns
returns c =
    let few = c.if-len-ge8.false in
    c.is_le-2.ensures ∙ ap is_le (
    c.cmp-2.ensures ∙ (λ i. nat_cmp (c.from_be_bytes-here.ensures i / 2 ^ (64 - 8 * c.args.len)) (c.from_be_bytes-there.ensures i / 2 ^ (64 - 8 * c.args.len)))
    ∙ fronts c.args.len (64 - 8 * c.args.len) c.args.first.now c.args.second.now c.told-first c.told-second few (λ i. 64 - 8 * c.args.len) (are_bytes c.args.first.now c.fits-first) (are_bytes c.args.second.now c.fits-second)
    )
