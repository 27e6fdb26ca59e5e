use Rattle.std.proofs.Common.{◌≡◌, ap, sym, ◌∙◌, subst, length, max, ◌+◌}
use Rattle.std.specs.List.{list_all}
use Rattle.std.specs.Char.{is_ascii_digit}
use Rattle.std.proofs.lemmas.Result.{IfOk-weaker}
use Rattle.canonic_number.specs.Parts.{unsigned_at}
use Rattle.decimal_sum.specs.Columns.{in_columns}
use Rattle.decimal_sum.specs.Front.{with_sign}
use Rattle.decimal_sum.specs.Sums.{IsTextOf, parted}
use Rattle.decimal_sum.proofs.Sides.{columns_digits, written_back, added_text}
use Rattle.decimal_sum.proofs.summing.add_numerals.Goals as goal

pub add-carried-requires-clause-digits : goal.add-carried-requires-clause-digits
add-carried-requires-clause-digits c = ap (list_all is_ascii_digit) (c.deref_mut.ensures.value ∙ c.in_ok-digits.ensures.digits) ∙ columns_digits c.in_ok-whole.whole c.in_ok-whole.fraction c.args.a.now c.requires.first

pub returns-clause-value : goal.returns-clause-value
returns-clause-value c =
    let first : c.deref_mut.result.now ≡ in_columns c.in_ok-whole.whole c.in_ok-whole.fraction c.args.a.now = c.deref_mut.ensures.value ∙ c.in_ok-digits.ensures.digits in
    let size : length c.add-carried.new.digits ≡ length c.in_ok-digits.digits.items = c.add-carried.ensures.columns ∙ ap length c.deref_mut.ensures.value in
    let all : c.deref.result.now ≡ c.add-carried.new.digits = c.deref.ensures.value ∙ written_back c.add-carried.new.digits c.in_ok-digits.digits.items c.in_ok-digits.digits.len size (ap length (sym c.deref_mut.ensures.value) ∙ c.deref_mut.ensures.len) in
    let text = added_text c.args.a.now.negative c.add-carried.result c.in_ok-whole.whole c.in_ok-whole.fraction c.args.a.now c.args.b.now c.add-carried.new.digits c.requires.first c.requires.second
    c.in_ok-whole.ensures.columns c.in_ok-whole.ensures.fraction (c.add-carried.ensures.columns ∙ ap length first) c.add-carried.ensures.digits (rw first at c.add-carried.ensures.value) in
    IfOk-weaker c.write_parted.result _ _
    (λ t e. subst (λ x. IsTextOf x (max (length c.args.a.now.fraction.now) (length c.args.b.now.fraction.now)) (λ k. with_sign c.args.a.now.negative (unsigned_at k c.args.a.now + unsigned_at k c.args.b.now)))
    (sym (e ∙ ap (parted c.args.a.now.negative c.in_ok-whole.whole) all)) text)
    c.write_parted.ensures.text
