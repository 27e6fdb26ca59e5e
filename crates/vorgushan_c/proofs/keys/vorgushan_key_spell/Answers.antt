use Rattle.std.proofs.Common.{sym, ◌∙◌}
use Rattle.vorgushan_c.proofs.Spelled.{refusal_not_0}
use Rattle.vorgushan_c.proofs.keys.vorgushan_key_spell.Goals as goal

pub returns-in-Err-spelled-clause-kept : goal.returns-in-Err-spelled-clause-kept
returns-in-Err-spelled-clause-kept c =
    λ done. absurd (refusal_not_0 c.in-Err-spelled.refusal (sym c.number-in-Err-spelled.ensures ∙ done))
