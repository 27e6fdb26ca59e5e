use Rattle.std.proofs.Common.{subst}
use Rattle.lock_table.specs.Counted.{AreCounts}
use Rattle.lock_table.proofs.Lists.{none_over}
use Rattle.lock_table.proofs.command.bear.Goals as goal

pub returns-clause-allowed : goal.returns-clause-allowed
returns-clause-allowed c = none_over _ c.args.names.now (let a : AreCounts _ = subst AreCounts c.in-Ok.ensures.ok c.look.ensures in a.small)
