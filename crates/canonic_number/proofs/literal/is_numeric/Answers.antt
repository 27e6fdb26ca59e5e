use Rattle.std.proofs.Common.{◌≡◌, sym, ◌∙◌, arith}
use Rattle.std.proofs.lemmas.Grind.{common_steps}
use Rattle.canonic_number.specs.Literal.{is_numeric}
use Rattle.canonic_number.specs.laws.Literal.{literal_is_spelled}
use Rattle.canonic_number.proofs.literal.is_numeric.Goals as goal

pub returns-clause-grammar : goal.returns-clause-grammar
returns-clause-grammar c =
    let same : c.is_unsigned_literal.result ≡ is_numeric c.args.text.now = grind (arith, common_steps) in
    (λ t. (literal_is_spelled c.args.text.now).0 (sym same ∙ t), λ is. same ∙ (literal_is_spelled c.args.text.now).1 is)
