use Rattle.std.specs.Prelude.{[]}
use Rattle.journal.specs.declared.unit.Unit.TheVariants.{Whole}
use Rattle.journal.specs.laws.History.{after-unit, IsRight-inside, after-inside}
use Rattle.journal.proofs.laws.transactions_are_right_and_act.Goals as goal

pub returns-clause-right : goal.returns-clause-right
returns-clause-right c = IsRight-inside

pub returns-clause-nothing : goal.returns-clause-nothing
returns-clause-nothing c us s job = after-unit us (Whole job []) s

pub returns-clause-acts : goal.returns-clause-acts
returns-clause-acts c = after-inside
