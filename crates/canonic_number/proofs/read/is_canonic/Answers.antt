use Rattle.std.proofs.Common.{◌≡◌, sym, ◌∙◌}
use Rattle.canonic_number.specs.Number.{is_canonic}
use Rattle.canonic_number.specs.laws.Grammar.{canonic_is_spelled}
use Rattle.canonic_number.proofs.read.is_canonic.Goals as goal

pub returns-clause-grammar : goal.returns-clause-grammar
returns-clause-grammar c =
    let same : c.is_some.result ≡ is_canonic c.args.text.now = c.is_some.ensures ∙ c.read_numeral.ensures.canonic in
    (λ t. (canonic_is_spelled c.args.text.now).0 (sym same ∙ t), λ is. same ∙ (canonic_is_spelled c.args.text.now).1 is)
