use Rattle.std.proofs.Common.{ap, ◌∙◌}
use Rattle.std.specs.Prelude.{unwrap_or}
use Rattle.job_core.proofs.Bases.{ahead}
use Rattle.job_core.proofs.kernel.Core.checkpoint_pays.Goals as goal

pub returns : goal.returns
returns c _ =
    rw (← c.self.view_is)
    (ahead c.args.oldest c.unwrap_or-number.result c.number.result c.self.inside.journal.base c.self.inside.store c.self.inside.journal.units c.self.invariant.agreed (rw (← c.self.view_is) at c.requires)
    (c.unwrap_or-number.ensures ∙ ap (unwrap_or c.args.oldest) c.now.ensures.present) (c.number.ensures ∙ c.base-base.ensures.number) c.if-number.false)
