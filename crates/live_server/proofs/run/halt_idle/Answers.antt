use Rattle.std.proofs.Common.{[], refl}
use Rattle.live_server.proofs.Steps.{Ran-none, Ran-so-far, Settled-then}
use Rattle.live_server.proofs.run.halt_idle.Goals as goal

pub jobs-init : goal.jobs-init
jobs-init c = λ text. Ran-so-far [] _ _ text text (Ran-none _ _ text refl refl refl refl refl)

pub jobs-preserved : goal.jobs-preserved
jobs-preserved c = λ text. Settled-then [] _ _ _ text text text (c.jobs.invariant text) (c.halt_one.ensures text)

pub returns-then-not-halt_one : goal.returns-then-not-halt_one
returns-then-not-halt_one c = λ text. Settled-then [] _ _ _ text text text (c.jobs.invariant text) (c.halt_one.ensures text)
