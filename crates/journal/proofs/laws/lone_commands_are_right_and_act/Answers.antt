use Rattle.journal.specs.declared.unit.Unit.TheVariants.{Lone}
use Rattle.journal.specs.laws.History.{IsLegal-unit, after-unit}
use Rattle.journal.proofs.laws.lone_commands_are_right_and_act.Goals as goal

pub returns-clause-right : goal.returns-clause-right
returns-clause-right c us vs s job command answer = IsLegal-unit us vs (Lone job command answer) s

pub returns-clause-acts : goal.returns-clause-acts
returns-clause-acts c us s job command answer = after-unit us (Lone job command answer) s
