use Rattle.std.proofs.Common.{length, max, ◌∙◌, arith}
use Rattle.std.proofs.Math.IntN.{+ℤ_comm}
use Rattle.std.proofs.lemmas.Result.{IfOk-weaker}
use Rattle.canonic_number.specs.Parts.{unsigned_at, numeral_at}
use Rattle.decimal_sum.proofs.Sides.{one_sign, two_signs, turned, retold}
use Rattle.decimal_sum.proofs.summing.sum_numerals.Goals as goal

pub returns-then-a-b-clause-value : goal.returns-then-a-b-clause-value
returns-then-a-b-clause-value c =
    IfOk-weaker c.add_numerals.result _ _
    (λ t is. retold t.items (max (length c.args.a.now.fraction.now) (length c.args.b.now.fraction.now)) (max (length c.args.a.now.fraction.now) (length c.args.b.now.fraction.now)) _ _ (omega arith)
    (λ k _. one_sign c.args.a.now.negative c.args.b.now.negative (unsigned_at k c.args.a.now) (unsigned_at k c.args.b.now) c.if-a-b.true) is) c.add_numerals.ensures.value

pub returns-then-is_less-clause-value : goal.returns-then-is_less-clause-value
returns-then-is_less-clause-value c =
    IfOk-weaker c.take_numerals.result _ _
    (λ t is. retold t.items (max (length c.args.b.now.fraction.now) (length c.args.a.now.fraction.now)) (max (length c.args.a.now.fraction.now) (length c.args.b.now.fraction.now)) _ _ (omega arith)
    (λ k h. two_signs c.args.b.now.negative c.args.a.now.negative (unsigned_at k c.args.b.now) (unsigned_at k c.args.a.now) (turned c.args.a.now.negative c.args.b.now.negative c.if-a-b.false) (c.is_less.ensures.less k (omega (arith, h)) (omega (arith, h)) c.if-is_less.true)
    ∙ +ℤ_comm (numeral_at k c.args.b.now) (numeral_at k c.args.a.now)) is) c.take_numerals.ensures.value

pub returns-else-is_less-clause-value : goal.returns-else-is_less-clause-value
returns-else-is_less-clause-value c =
    IfOk-weaker c.take_numerals-else-is_less.result _ _
    (λ t is. retold t.items (max (length c.args.a.now.fraction.now) (length c.args.b.now.fraction.now)) (max (length c.args.a.now.fraction.now) (length c.args.b.now.fraction.now)) _ _ (omega arith)
    (λ k h. two_signs c.args.a.now.negative c.args.b.now.negative (unsigned_at k c.args.a.now) (unsigned_at k c.args.b.now) c.if-a-b.false (c.is_less.ensures.other k (omega (arith, h)) (omega (arith, h)) c.if-is_less.false)) is) c.take_numerals-else-is_less.ensures.value
