use Rattle.std.proofs.Common.{ap, ◌∙◌}
use Rattle.std.specs.Prelude.{unwrap_or}
use Rattle.job_core.proofs.Bases.{kept_place, core_moved}
use Rattle.job_core.proofs.kernel.Core.checkpoint.Goals as goal

pub invariant_of-self : goal.invariant_of-self
invariant_of-self c =
    let at = kept_place c.args.oldest c.unwrap_or-number.result c.self.inside.store c.self.inside.journal.units c.self.invariant.agreed (rw (← c.self.view_is) at c.requires) (c.unwrap_or-number.ensures ∙ ap (unwrap_or c.args.oldest) c.now.ensures.present) in
    core_moved c.move_base.result c.self.inside.store c.self.inside.journal.units c.move_base.new.journal.units c.self.inside.journal.base c.move_base.new.journal.base c.unwrap_or-number.result c.self.inside.locks c.self.inside.passing c.self.invariant c.move_base.ensures.units at.to c.move_base.ensures.base c.move_base.ensures.refused
