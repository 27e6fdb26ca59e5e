use Rattle.journal.specs.declared.unit.Unit.TheVariants.{Lock, Back, End}
use Rattle.journal.specs.laws.History.{IsLegal-unit, after-unit}
use Rattle.journal.proofs.laws.locks_are_right_and_act.Goals as goal

pub returns-clause-right : goal.returns-clause-right
returns-clause-right c us vs s job inside command had = IsLegal-unit us vs (Lock job inside command had) s

pub returns-clause-acts : goal.returns-clause-acts
returns-clause-acts c us s job inside command had = after-unit us (Lock job inside command had) s

pub returns-clause-back : goal.returns-clause-back
returns-clause-back c us s job = after-unit us (Back job) s

pub returns-clause-end : goal.returns-clause-end
returns-clause-end c us s job = after-unit us (End job) s
