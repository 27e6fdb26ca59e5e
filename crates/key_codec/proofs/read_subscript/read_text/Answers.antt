use Rattle.std.proofs.Common.{◌≡◌, sym, ap, ◌∙◌, true, false}
use Rattle.key_codec.specs.Key.{escaped}
use Rattle.key_codec.specs.Reading.{IsOtherText}
use Rattle.key_codec.proofs.Reading.{HasText, has_text, text_in_front, is_other}
use Rattle.key_codec.proofs.read_subscript.read_text.Goals as goal

pub returns-in_default-clause-none : goal.returns-in_default-clause-none
returns-in_default-clause-none c = λ s u bounds h.
    let has : HasText c.args.bytes.now s u = has_text c.args.bytes.now s u bounds h in
    c.in_default.ensures.none (escaped s) u has.behind

pub returns-in_default-2-clause-none : goal.returns-in_default-2-clause-none
returns-in_default-2-clause-none c = λ s u bounds h.
    let parted = c.in-Some.ensures.some in
    let none = rw c.in_default-2.is at c.in_ok-draft.ensures.none in
    none s (text_in_front c.args.bytes.now c.in-Some.front.now c.in-Some.rest.now s u bounds h parted.0 parted.1)

pub returns-then-not-is_text-clause-none : goal.returns-then-not-is_text-clause-none
returns-then-not-is_text-clause-none c = λ s u bounds h.
    let parted = c.in-Some.ensures.some in
    let found = rw c.in-Some-2.is at c.in_ok-draft.ensures.some in
    let text : escaped c.as_slice.result.now ≡ c.in-Some.front.now = ap escaped c.as_slice.ensures.value ∙ found in
    let other : IsOtherText c.as_slice.result.now = is_other c.args.bytes.now c.in-Some.front.now c.in-Some.rest.now c.as_slice.result.now s u bounds h parted.0 parted.1 text in
    let clash : true ≡ false = sym (c.is_text.ensures.1 other) ∙ c.if-not-is_text.true in
    cc
