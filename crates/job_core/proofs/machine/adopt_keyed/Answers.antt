use Rattle.std.proofs.Common.{sym, subst}
use Rattle.std.specs.FinMap as finmap
use Rattle.version_store.specs.Versions.{content_now}
use Rattle.job_core.specs.AtWork.{AreKept}
use Rattle.job_core.specs.Joined.{machine_shown}
use Rattle.job_core.proofs.Adopting.{behind_adopted, taken_over}
use Rattle.job_core.proofs.AtWork.{kept_adopted}
use Rattle.job_core.proofs.machine.adopt_keyed.Goals as goal

pub invariant_of-result : goal.invariant_of-result
invariant_of-result c =
    let e = c.in-Ok.engine in
    let adopted = c.in-Ok.ensures.adopted in (
      c.in-Ok.ensures.whole,
      (
        behind_adopted c.args.store e.core (machine_shown e) adopted c.in-Ok.ensures.machine,
        subst (λ flags. AreKept flags e.core.ends (machine_shown e)) (sym c.new.ensures.items) (kept_adopted c.args.store.present e.core.ends (finmap.entries (content_now c.args.store)) e.core.units (machine_shown e) adopted.units c.in-Ok.ensures.machine),
      ),
    )

pub returns-in-Ok-clause-adopted : goal.returns-in-Ok-clause-adopted
returns-in-Ok-clause-adopted c = taken_over c.args.store c.in-Ok.engine.core (machine_shown c.in-Ok.engine) c.in-Ok.ensures.adopted c.in-Ok.ensures.machine
