use Rattle.std.proofs.Common.{sym, ◌∙◌}
use Rattle.key_codec.proofs.Showing.{plain}
use Rattle.key_codec.proofs.shown.has_escapes.Goals as goal

pub returns : goal.returns
returns c = λ none. plain c.args.escaped.now (sym c.contains.ensures.value ∙ none)
