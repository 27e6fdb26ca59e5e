use Rattle.std.proofs.Common.{◌≡◌, ◌*◌, ◌+◌, sym, ◌∙◌, subst, arith, take, inl, inr}
use Rattle.std.specs.Ordering.{nat_cmp, is_le}
use Rattle.std.specs.Cmp.Lexicographic.{slice_cmp}
use Rattle.key_codec.proofs.Spelled.{eight_more, fewer}
use Rattle.key_codec.proofs.Past.{word_decides}
use Rattle.key_codec.proofs.bytes.room_before_past.Goals as goal

pub loop-word-preserved : goal.loop-word-preserved
loop-word-preserved c =
    let level = (λ i. slice_cmp nat_cmp (sym c.eight_at-here.ensures i) (sym c.eight_at-there.ensures i)) ∙ sym c.compare_eight.ensures ∙ c.in-Equal.is in
    let next : 8 * c.loop-word.word + 8 ≡ 8 * (c.loop-word.word + 1) = omega arith in
    let less = c.loop-word-test.true in
    record {
      few = omega (arith, less);
      same = subst (λ n. take n c.args.first.now ≡ take n c.args.second.now) next (eight_more (8 * c.loop-word.word) c.args.first.now c.args.second.now c.loop-word.invariant.same level);
    }

pub returns-in_default : goal.returns-in_default
returns-in_default c =
    let less = c.loop-word-test.true in
    word_decides (8 * c.loop-word.word) c.args.len c.args.first.now c.args.second.now c.eight_before_past.result (omega (arith, less, c.told-first)) (omega (arith, less, c.told-second)) c.loop-word.invariant.same
    (inr (λ h. c.in_default.not-Equal (c.compare_eight.ensures ∙ (λ i. slice_cmp nat_cmp (c.eight_at-here.ensures i) (c.eight_at-there.ensures i)) ∙ h)))
    (c.eight_before_past.ensures ∙ (λ i. is_le (slice_cmp nat_cmp (take (c.saturating_sub.ensures i) (c.eight_at-here.ensures i)) (take (c.saturating_sub.ensures i) (c.eight_at-there.ensures i)))))

pub returns : goal.returns
returns c =
    let few = c.loop-word.invariant.few in
    let done = c.loop-word-test.false in
    let all : 8 * c.loop-word.word ≡ 30 + 2 = omega (arith, few, done) in
    let same = subst (λ n. take n c.args.first.now ≡ take n c.args.second.now) all c.loop-word.invariant.same in
    word_decides 30 c.args.len c.args.first.now c.args.second.now c.eight_before_past-2.result (omega (arith, c.told-first)) (omega (arith, c.told-second))
    (fewer 30 2 c.args.first.now c.args.second.now (omega (arith, c.told-first)) (omega (arith, c.told-second)) same)
    (inl c.requires)
    (c.eight_before_past-2.ensures ∙ (λ i. is_le (slice_cmp nat_cmp (take (c.saturating_sub-2.ensures i) (c.eight_at.ensures i)) (take (c.saturating_sub-2.ensures i) (c.eight_at-2.ensures i)))))
