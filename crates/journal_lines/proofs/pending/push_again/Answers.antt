use Rattle.journal_lines.specs.Journals.{again_steps}
use Rattle.journal_lines.proofs.Gathered.{all_lines}
use Rattle.journal_lines.proofs.pending.push_again.Goals as goal

pub returns : goal.returns
returns c = all_lines (again_steps c.args.job) _ _ c.args.pending.now c.locks.lock-index c.locks-test.false c.locks.invariant
