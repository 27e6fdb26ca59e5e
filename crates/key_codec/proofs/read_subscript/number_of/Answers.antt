use Rattle.std.proofs.Common.{◌≡◌, ap, sym, ◌∙◌, subst, map, true, false}
use Rattle.std.specs.Prelude.{nat_le}
use Rattle.std.specs.List.{list_all}
use Rattle.canonic_number.specs.Number.{scale}
use Rattle.canonic_number.specs.Place.{point_at, signed, written_at}
use Rattle.key_codec.specs.Reading.{digit_of, IsNumberOf, IsNumberKey}
use Rattle.key_codec.proofs.Reading.{HasKeyParts, key_parts, digit_bytes, read_back, found_number}
use Rattle.key_codec.proofs.read_subscript.number_of.Goals as goal

pub returns-in_default-clause-none : goal.returns-in_default-clause-none
returns-in_default-clause-none c = λ s is.
    let has : HasKeyParts c.args.negative c.args.word c.args.front.now s = key_parts c.args.negative c.args.word c.args.front.now s c.requires is in
    c.in_default.ensures.none (point_at scale s) has.above has.within has.point

pub returns-then-not-are_digit_bytes-clause-none : goal.returns-then-not-are_digit_bytes-clause-none
returns-then-not-are_digit_bytes-clause-none c = λ s is.
    let has : HasKeyParts c.args.negative c.args.word c.args.front.now s = key_parts c.args.negative c.args.word c.args.front.now s c.requires is in
    let form = has.number.placed.form in
    let low : true ≡ false = sym (ap (list_all (λ b. nat_le b 10)) has.digits ∙ digit_bytes c.args.negative _ form.digits) ∙ sym c.are_digit_bytes.ensures ∙ c.if-not-are_digit_bytes.true in
    cc

pub returns-then-not-is_number_of-clause-none : goal.returns-then-not-is_number_of-clause-none
returns-then-not-is_number_of-clause-none c = λ s is.
    let digits : c.as_slice-2.result.now ≡ map (digit_of c.args.negative) c.args.front.now = c.as_slice-2.ensures.value ∙ c.in_ok-digits.ensures in
    let text : c.as_slice.result.now ≡ signed c.args.negative (written_at scale c.in-Some.place c.as_slice-2.result.now) =
    c.as_slice.ensures.value ∙ c.in_ok-draft.ensures ∙ ap (λ ds. signed c.args.negative (written_at scale c.in-Some.place ds)) (sym digits) in
    let number : IsNumberOf c.as_slice.result.now c.args.negative c.in-Some.place c.as_slice-2.result.now =
    read_back c.args.negative c.args.word c.in-Some.place c.args.front.now c.as_slice-2.result.now c.as_slice.result.now s c.requires is c.in-Some.ensures.some.0 c.in-Some.ensures.some.1 digits text in
    let clash : true ≡ false = sym (c.is_number_of.ensures.1 number) ∙ c.if-not-is_number_of.true in
    cc

pub returns-clause-some : goal.returns-clause-some
returns-clause-some c =
    let digits : c.as_slice-2.result.now ≡ map (digit_of c.args.negative) c.args.front.now = c.as_slice-2.ensures.value ∙ c.in_ok-digits.ensures in
    let low : list_all (λ b. nat_le b 10) c.args.front.now ≡ true = sym c.are_digit_bytes.ensures ∙ c.if-not-are_digit_bytes.false in
    let number : IsNumberOf c.as_slice.result.now c.args.negative c.in-Some.place c.as_slice-2.result.now = c.is_number_of.ensures.0 c.if-not-is_number_of.false in
    let same : c.as_slice.result.now ≡ c.in_ok-text.text = c.as_slice.ensures.value ∙ sym c.as_slice-3.ensures.value ∙ sym c.in_ok-text.ensures.ok in
    subst (IsNumberKey c.args.negative c.args.word c.args.front.now) same
    (found_number c.args.negative c.args.word c.in-Some.place c.args.front.now c.as_slice-2.result.now c.as_slice.result.now number c.in-Some.ensures.some.0 low digits)
