use Rattle.std.proofs.Common.{◌-◌, length, ap, ◌∙◌, arith}
use Rattle.decimal_sum.proofs.Places.{set_columns, set_digits, digit_at, column_added}
use Rattle.decimal_sum.proofs.Sides.{columns_length, columns_digits}
use Rattle.decimal_sum.specs.Columns.{in_columns}
use Rattle.std.specs.Char.{is_ascii_digit}
use Rattle.decimal_sum.proofs.columns.add.Goals as goal

pub add_column-digit-requires-clause-other : goal.add_column-digit-requires-clause-other
add_column-digit-requires-clause-other c =
    let all = columns_length c.args.whole (length c.args.digits.now - c.args.whole) c.args.number.now c.requires.before (omega arith) in
    ap is_ascii_digit (c.digit_in.ensures (length c.args.digits.now - c.args.whole) (omega (arith, c.columns.invariant.place, c.columns.invariant.columns)))
    ∙ digit_at (in_columns c.args.whole (length c.args.digits.now - c.args.whole) c.args.number.now) (c.columns.at - 1) 0 (omega (arith, c.columns.invariant.place, all))
    (columns_digits c.args.whole (length c.args.digits.now - c.args.whole) c.args.number.now c.requires.number)

pub columns-preserved : goal.columns-preserved
columns-preserved c =
    let i = c.columns.invariant in
    let all = columns_length c.args.whole (length c.args.digits.now - c.args.whole) c.args.number.now c.requires.before (omega arith) in
    let same = c.digit_in.ensures (length c.args.digits.now - c.args.whole) (omega (arith, i.place, i.columns)) in
    record {
      place = omega (arith, i.place);
      columns = set_columns c.columns.digits (c.columns.at - 1) c.add_column-digit.result.0 ∙ i.columns;
      digits = set_digits c.columns.digits (c.columns.at - 1) c.add_column-digit.result.0 i.digits c.add_column-digit.ensures.digit;
      value = λ n wide. column_added n c.columns.digits (in_columns c.args.whole (length c.args.digits.now - c.args.whole) c.args.number.now) c.args.digits.now c.columns.at c.add_column-digit.result.0 c.columns.carried c.add_column-digit.result.1
          (omega arith) (omega (arith, i.place, i.columns)) (omega (arith, i.columns)) (omega (arith, i.place, all))
          (rw same at c.add_column-digit.ensures.value) (i.value n wide);
    }
