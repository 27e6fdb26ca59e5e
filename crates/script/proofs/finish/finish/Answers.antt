use Rattle.script.proofs.Sentences.{names_due}
use Rattle.script.proofs.finish.finish.Goals as goal

pub returns-in-Err-take-clause-command : goal.returns-in-Err-take-clause-command
returns-in-Err-take-clause-command c = λ x said. names_due c.args.drafts.now c.args.sentence c.in-Lock.form c.in-Err-take.refusal x c.in-Lock.is c.in-Err-take.ensures.names said
