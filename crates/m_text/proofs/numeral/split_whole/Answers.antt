use Rattle.std.proofs.Common.{length, take, drop, refl, sym, ap, ◌∙◌}
use Rattle.std.specs.Prelude.{◌==◌}
use Rattle.std.specs.Char.{is_ascii_digit}
use Rattle.std.specs.List.{list_all}
use Rattle.m_text.specs.Reading.{begins_with_byte}
use Rattle.m_text.specs.Literal.{is_no_digit}
use Rattle.m_text.specs.laws.Front.{run_passes}
use Rattle.m_text.proofs.Wholes.{number_whole}
use Rattle.m_text.proofs.numeral.split_whole.Goals as goal

pub returns-in-None-clause-number : goal.returns-in-None-clause-number
returns-in-None-clause-number c =
    let some = ap (λ xs. length xs == 0) (sym c.split_digits.ensures.digits) ∙ sym c.is_empty.ensures ∙ c.if-is_empty.false in
    let other = ap (begins_with_byte 46) (sym c.split_digits.ensures.rest) ∙ c.in-None.ensures in
    c.split_digits.ensures.digits ∙ ap (λ n. take n c.args.text.now) (sym (number_whole c.args.text.now some other))

pub returns-in-None-clause-rest : goal.returns-in-None-clause-rest
returns-in-None-clause-rest c =
    let some = ap (λ xs. length xs == 0) (sym c.split_digits.ensures.digits) ∙ sym c.is_empty.ensures ∙ c.if-is_empty.false in
    let other = ap (begins_with_byte 46) (sym c.split_digits.ensures.rest) ∙ c.in-None.ensures in
    c.split_digits.ensures.rest ∙ ap (λ n. drop n c.args.text.now) (sym (number_whole c.args.text.now some other))

pub returns-in-None-clause-digits : goal.returns-in-None-clause-digits
returns-in-None-clause-digits c = ap (list_all is_ascii_digit) c.split_digits.ensures.digits ∙ run_passes is_no_digit is_ascii_digit (λ b. refl) c.args.text.now
