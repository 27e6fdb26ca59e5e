use Rattle.std.proofs.Common.{◌≡◌, ap, sym, ◌∙◌, subst, length, max, ◌-◌}
use Rattle.std.specs.List.{list_all}
use Rattle.std.specs.Char.{is_ascii_digit}
use Rattle.std.proofs.lemmas.Result.{IfOk-weaker}
use Rattle.canonic_number.specs.Parts.{unsigned_at}
use Rattle.decimal_sum.specs.Columns.{in_columns}
use Rattle.decimal_sum.specs.Front.{with_sign}
use Rattle.decimal_sum.specs.Sums.{IsTextOf, parted}
use Rattle.decimal_sum.proofs.Sides.{columns_digits, written_back, taken_text}
use Rattle.decimal_sum.proofs.summing.take_numerals.Goals as goal

pub take-borrowed-requires-clause-digits : goal.take-borrowed-requires-clause-digits
take-borrowed-requires-clause-digits c = ap (list_all is_ascii_digit) (c.deref_mut.ensures.value ∙ c.in_ok-digits.ensures.digits) ∙ columns_digits c.in_ok-whole.whole c.in_ok-whole.fraction c.args.a.now c.requires.first

pub returns-clause-value : goal.returns-clause-value
returns-clause-value c =
    let first : c.deref_mut.result.now ≡ in_columns c.in_ok-whole.whole c.in_ok-whole.fraction c.args.a.now = c.deref_mut.ensures.value ∙ c.in_ok-digits.ensures.digits in
    let size : length c.take-borrowed.new.digits ≡ length c.in_ok-digits.digits.items = c.take-borrowed.ensures.columns ∙ ap length c.deref_mut.ensures.value in
    let all : c.deref.result.now ≡ c.take-borrowed.new.digits = c.deref.ensures.value ∙ written_back c.take-borrowed.new.digits c.in_ok-digits.digits.items c.in_ok-digits.digits.len size (ap length (sym c.deref_mut.ensures.value) ∙ c.deref_mut.ensures.len) in
    let text = taken_text c.args.a.now.negative c.take-borrowed.result c.in_ok-whole.whole c.in_ok-whole.fraction c.args.a.now c.args.b.now c.take-borrowed.new.digits c.requires.first c.requires.second
    c.in_ok-whole.ensures.columns c.in_ok-whole.ensures.fraction (c.take-borrowed.ensures.columns ∙ ap length first) c.take-borrowed.ensures.digits (rw first at c.take-borrowed.ensures.value) c.requires.less in
    IfOk-weaker c.write_parted.result _ _
    (λ t e. subst (λ x. IsTextOf x (max (length c.args.a.now.fraction.now) (length c.args.b.now.fraction.now)) (λ k. with_sign c.args.a.now.negative (unsigned_at k c.args.a.now - unsigned_at k c.args.b.now)))
    (sym (e ∙ ap (parted c.args.a.now.negative c.in_ok-whole.whole) all)) text)
    c.write_parted.ensures.text
