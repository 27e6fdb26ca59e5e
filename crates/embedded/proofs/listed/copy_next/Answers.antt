use Rattle.std.proofs.Common.{inr, refl}
use Rattle.embedded.proofs.Nodes.{some_matches}
use Rattle.embedded.proofs.listed.copy_next.Goals as goal

pub returns-in-Err : goal.returns-in-Err
returns-in-Err g c = some_matches _ _ _ c.in-Err.ensures.err (λ node. inr (record { left = refl; told = refl; answered = refl }, refl))
