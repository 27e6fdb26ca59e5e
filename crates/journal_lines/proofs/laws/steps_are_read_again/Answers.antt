use Rattle.journal_lines.specs.laws.Askable.{read_again, journals_read}
use Rattle.journal_lines.proofs.laws.steps_are_read_again.Goals as goal

pub returns-clause-steps : goal.returns-clause-steps
returns-clause-steps c = read_again

pub returns-clause-journals : goal.returns-clause-journals
returns-clause-journals c = journals_read
