use Rattle.std.proofs.Common.{◌∙◌}
use Rattle.job_core.proofs.moving.changes_at.Goals as goal

pub changes_to-requires-clause-end : goal.changes_to-requires-clause-end
changes_to-requires-clause-end c = c.in-Ok.ensures.view ∙ c.requires.agreed.content c.args.number c.requires.kept c.requires.to
