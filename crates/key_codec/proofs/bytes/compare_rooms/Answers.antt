use Rattle.std.proofs.Common.{◌≡◌, ◌*◌, ◌+◌, sym, ◌∙◌, subst, arith, take}
use Rattle.std.specs.Ordering.{nat_cmp}
use Rattle.std.specs.Cmp.Lexicographic.{slice_cmp}
use Rattle.key_codec.proofs.Spelled.{eight_more, eight_decide, last_decide, fewer}
use Rattle.key_codec.proofs.bytes.compare_rooms.Goals as goal

pub loop-word-preserved : goal.loop-word-preserved
loop-word-preserved c =
    let level = (λ i. slice_cmp nat_cmp (sym c.eight_at.ensures i) (sym c.eight_at-in-loop-word.ensures i)) ∙ sym c.compare_eight.ensures ∙ c.in-Equal.is in
    let next : 8 * c.loop-word.word + 8 ≡ 8 * (c.loop-word.word + 1) = omega arith in
    let less = c.loop-word-test.true in
    record {
      few = omega (arith, less);
      same = subst (λ n. take n c.args.first.now ≡ take n c.args.second.now) next (eight_more (8 * c.loop-word.word) c.args.first.now c.args.second.now c.loop-word.invariant.same level);
    }

pub returns-in_default : goal.returns-in_default
returns-in_default c =
    let less = c.loop-word-test.true in
    eight_decide (8 * c.loop-word.word) c.args.first.now c.args.second.now c.compare_eight.result (omega (arith, less, c.told-first)) (omega (arith, less, c.told-second)) c.loop-word.invariant.same
    (c.compare_eight.ensures ∙ (λ i. slice_cmp nat_cmp (c.eight_at.ensures i) (c.eight_at-in-loop-word.ensures i))) c.in_default.not-Equal

pub returns : goal.returns
returns c =
    let few = c.loop-word.invariant.few in
    let done = c.loop-word-test.false in
    let all : 8 * c.loop-word.word ≡ 30 + 2 = omega (arith, few, done) in
    let same = subst (λ n. take n c.args.first.now ≡ take n c.args.second.now) all c.loop-word.invariant.same in
    last_decide 30 c.args.first.now c.args.second.now c.compare_eight-2.result c.told-first c.told-second
    (fewer 30 2 c.args.first.now c.args.second.now (omega (arith, c.told-first)) (omega (arith, c.told-second)) same)
    (c.compare_eight-2.ensures ∙ (λ i. slice_cmp nat_cmp (c.eight_at-2.ensures i) (c.eight_at-3.ensures i)))
