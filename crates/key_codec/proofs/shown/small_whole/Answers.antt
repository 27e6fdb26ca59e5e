use Rattle.std.proofs.Common.{◌≡◌, ◌<◌, ap, subst, ◌∙◌, arith, length, List, ℕ, IfOk, false}
use Rattle.std.specs.Prelude.{slice_set}
use Rattle.key_codec.specs.Reading.{digit_of}
use Rattle.key_codec.proofs.Wholes.{next_digit, whole_is}
use Rattle.key_codec.proofs.shown.small_whole.Goals as goal

pub loop-at-preserved : goal.loop-at-preserved
loop-at-preserved c =
    let within : c.loop-at.at < length c.args.digits.now = c.loop-at-test.true in
    ap (slice_set c.loop-at.room c.loop-at.at) c.digit_of.ensures
    ∙ next_digit (digit_of false) c.args.digits.now c.loop-at.room c.loop-at.at 0 within (omega (arith, within, c.requires.small, c.requires.all)) c.loop-at.invariant

pub returns : goal.returns
returns c =
    let done = c.loop-at-test.false in
    let end : c.loop-at.at ≡ length c.args.digits.now = omega (arith, done, c.loop-at.auto.at-end) in
    subst (λ (t : List ℕ). IfOk c.from_slice.result (λ text. text ≡ t))
    (whole_is (digit_of false) c.args.digits.now c.loop-at.room c.loop-at.at c.args.whole end c.requires.all c.requires.small c.loop-at.invariant)
    c.from_slice.ensures.ok
