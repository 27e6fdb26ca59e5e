use Rattle.std.specs.Prelude.{not}
use Rattle.std.proofs.Common.{ap, ◌∙◌}
use Rattle.stretches.proofs.left.Left.without.Goals as goal

pub returns-in-Ok : goal.returns-in-Ok
returns-in-Ok c = λ x h. ap not (c.in-Ok.ensures x ∙ h)
