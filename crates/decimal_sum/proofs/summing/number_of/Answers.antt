use Rattle.std.proofs.Common.{subst, sym, ◌∙◌}
use Rattle.std.proofs.lemmas.Result.{IfOk-weaker}
use Rattle.decimal_sum.specs.Sums.{IsNumber}
use Rattle.decimal_sum.proofs.Ones.{number_text}
use Rattle.decimal_sum.specs.laws.Sums.{one_number}
use Rattle.decimal_sum.proofs.summing.number_of.Goals as goal

pub returns-clause-value : goal.returns-clause-value
returns-clause-value c = IfOk-weaker c.write_shortest.result _ _ (λ t e. subst (IsNumber c.args.text.now) (sym e) (number_text c.args.text.now c.read_front-number.result c.read_front-number.ensures)) c.write_shortest.ensures.text

pub returns-clause-text : goal.returns-clause-text
returns-clause-text c = IfOk-weaker c.write_shortest.result _ _ (λ t e. e ∙ one_number c.args.text.now _ (number_text c.args.text.now c.read_front-number.result c.read_front-number.ensures)) c.write_shortest.ensures.text
