use Rattle.std.proofs.Common.{refl, ap, ◌∙◌}
use Rattle.lock_name.specs.Locks.{locks_after_end}
use Rattle.journal.specs.declared.unit.Unit.TheVariants.{End}
use Rattle.job_core.specs.Common.{common_of, one_end_fewer}
use Rattle.job_core.proofs.Cores.{added_prepared, core_added}
use Rattle.job_core.proofs.kernel.Core.end_kept.Goals as goal

pub invariant_of-self : goal.invariant_of-self
invariant_of-self c =
    let old = common_of c.self.inside.store c.self.inside.journal in
    let new = common_of c.push_quiet.new.store c.push_quiet.new.journal in
    core_added (End c.args.job) c.push_quiet.result c.args.oldest (one_end_fewer old) new c.self.inside.locks c.end_job.new.self c.self.inside.passing c.self.invariant
    (added_prepared c.prepare_kept_end.new.self.prepared (End c.args.job) c.push_quiet.result c.args.oldest (one_end_fewer old) _ new c.in-Ok.ensures.prepared
    (λ i. record { store = c.self.inside.store; units = c.prepare_kept_end.ensures.units i; base = c.prepare_kept_end.ensures.base i; ends = c.in-Ok.ensures.ends i }) c.push_quiet.ensures)
    (c.end_job.ensures ∙ ap (locks_after_end c.args.job) c.self.invariant.locks) refl

pub returns-in-Ok-clause-added : goal.returns-in-Ok-clause-added
returns-in-Ok-clause-added c =
    rw (← c.self.view_is)
    (added_prepared c.prepare_kept_end.new.self.prepared (End c.args.job) c.push_quiet.result c.args.oldest (one_end_fewer (common_of c.self.inside.store c.self.inside.journal)) _ (common_of c.push_quiet.new.store c.push_quiet.new.journal) c.in-Ok.ensures.prepared
    (λ i. record { store = c.self.inside.store; units = c.prepare_kept_end.ensures.units i; base = c.prepare_kept_end.ensures.base i; ends = c.in-Ok.ensures.ends i }) c.push_quiet.ensures)
