use Rattle.std.proofs.Common.{◌≡◌, true, false, sym, refl, ◌∙◌, arith}
use Rattle.std.proofs.lemmas.Grind.{common_steps}
use Rattle.canonic_number.specs.Literal.{is_numeric}
use Rattle.canonic_number.specs.laws.Literal.{literal_is_spelled}
use Rattle.canonic_number.proofs.literal.canonic_of.Goals as goal

pub returns-then-not-is_unsigned_literal-clause-grammar : goal.returns-then-not-is_unsigned_literal-clause-grammar
returns-then-not-is_unsigned_literal-clause-grammar c =
    let test : is_numeric c.args.text.now ≡ false = grind (arith, common_steps) in
    (λ e. cc, λ is. sym test ∙ (literal_is_spelled c.args.text.now).1 is)

pub returns-clause-grammar : goal.returns-clause-grammar
returns-clause-grammar c =
    let test : is_numeric c.args.text.now ≡ true = grind (arith, common_steps) in
    (λ _. (literal_is_spelled c.args.text.now).0 test, λ _. refl)
