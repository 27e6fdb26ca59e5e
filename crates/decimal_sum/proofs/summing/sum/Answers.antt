use Rattle.std.proofs.lemmas.Result.{IfOk-weaker}
use Rattle.decimal_sum.specs.laws.Sums.{one_sum}
use Rattle.decimal_sum.proofs.Ones.{sum_text}
use Rattle.decimal_sum.proofs.summing.sum.Goals as goal

pub returns-clause-value : goal.returns-clause-value
returns-clause-value c =
    IfOk-weaker c.sum_numerals.result _ _ (λ t is. sum_text c.args.a.now c.args.b.now t.items c.read_front-a.result c.read_front-b.result c.read_front-a.ensures c.read_front-b.ensures is) c.sum_numerals.ensures.value

pub returns-clause-text : goal.returns-clause-text
returns-clause-text c =
    IfOk-weaker c.sum_numerals.result _ _
    (λ t is. one_sum c.args.a.now c.args.b.now t.items (sum_text c.args.a.now c.args.b.now t.items c.read_front-a.result c.read_front-b.result c.read_front-a.ensures c.read_front-b.ensures is)) c.sum_numerals.ensures.value
