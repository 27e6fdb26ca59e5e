use Rattle.job_core.proofs.Bases.{behind_same}
use Rattle.job_core.proofs.AtWork.{kept_same}
use Rattle.job_core.proofs.Collecting.{counts_told}
use Rattle.job_core.proofs.machine.JobCore.collect.Goals as goal

pub invariant_of-self : goal.invariant_of-self
invariant_of-self c = (
  c.collect-turn.ensures.whole,
  (
    behind_same _ _ _ _ c.collect-turn.ensures.base c.collect-turn.ensures.machine c.self.invariant.1.0,
    kept_same _ _ _ _ _ c.self.invariant.1.1 c.collect-turn.ensures.ends c.collect-turn.ensures.machine,
  ),
)

pub returns-then-is_ok-clause-counts : goal.returns-then-is_ok-clause-counts
returns-then-is_ok-clause-counts c = counts_told c.collect-turn.result c.args.limit c.self.inside.engine c.collect-turn.new.self c.collect-turn.ensures.turn

pub returns-else-is_over_all-clause-counts : goal.returns-else-is_over_all-clause-counts
returns-else-is_over_all-clause-counts c = counts_told c.collect-turn.result c.args.limit c.self.inside.engine c.collect-turn.new.self c.collect-turn.ensures.turn
