use Rattle.std.proofs.Common.{arith, refl}
use Rattle.std.specs.Prelude.{Ok}
use Rattle.session_calls.proofs.steps.begin.Goals as goal

pub returns-in-Ok-clause-done : goal.returns-in-Ok-clause-done
returns-in-Ok-clause-done c = (Ok 1, refl, (λ none. (refl, c.in-Ok.ensures.begun)), (λ there. absurd (omega arith)))
