use Rattle.std.proofs.Common.{refl, ap}
use Rattle.listing.specs.laws.Bytes.{on_err}
use Rattle.script_run.specs.declared.answers.Script.{Script}
use Rattle.live_server.proofs.Steps.{nothing_begun, Ran-none, Ran-and-none, Broke-and-none, Broke-after}
use Rattle.live_server.proofs.run.try_all.Goals as goal

pub tries-init : goal.tries-init
tries-init g c = Ran-none _ _ _ refl refl refl refl refl

pub tries-preserved : goal.tries-preserved
tries-preserved g c = Ran-and-none _ _ _ _ _ _ _ (Ran-and-none _ _ _ _ _ _ _ c.tries.invariant c.in_ok-was_done.ensures.ran) (Ran-none _ _ _ (ap (λ (s : Script). s.core.machine) c.place_after-at.ensures.script) (ap (λ (s : Script). s.out.items) c.place_after-at.ensures.script) (ap (λ (s : Script). s.jobs) c.place_after-at.ensures.script) (ap (λ (s : Script). s.outcome) c.place_after-at.ensures.script) c.place_after-at.ensures.desks)

pub returns-in_err-was_done-clause-err : goal.returns-in_err-was_done-clause-err
returns-in_err-was_done-clause-err g c = on_err _ _ (Broke-and-none _ _ _ _ _ _ c.tries.invariant c.in_err-was_done.ensures.err)

pub returns-clause-err : goal.returns-clause-err
returns-clause-err g c = Broke-after _ _ _ _ _ _ c.tries.invariant (nothing_begun _ _)
