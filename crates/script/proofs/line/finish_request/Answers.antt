use Rattle.std.proofs.Common.{◌≡◌, sym, subst, ap, Result, Ok, Err, ◌∙◌, ℕ, None}
use Rattle.script.proofs.Judging.{read, faulty}
use Rattle.refusal.specs.declared.Refusal.{Refusal}
use Rattle.refusal.specs.declared.Refusal.TheVariants.{OutOfMemory}
use Rattle.command.specs.declared.request.Command.{Command}
use Rattle.command.specs.declared.request.Command.TheVariants.{Access}
use Rattle.command.specs.declared.access.DataCommand.TheVariants.{Set, Look}
use Rattle.command.specs.declared.access.Look.TheVariants.{Get}
use Rattle.script.specs.Line.{HasOperands, IsRefusalOf, IsReading, job_of_line}
use Rattle.script.specs.Sentence.{IsOfOperands}
use Rattle.script.specs.declared.line.LineFault.{LineFault}
use Rattle.script.proofs.line.finish_request.Goals as goal

pub returns-in-Ok-clause-command : goal.returns-in-Ok-clause-command
returns-in-Ok-clause-command c = λ line asked.
    (read line asked.command c.in-Ok.command c.args.job asked.read asked.owner (c.in-Ok.ensures.command asked.command asked.said), asked.owner)

pub returns-in-Err-clause-command : goal.returns-in-Err-clause-command
returns-in-Err-clause-command c = λ line asked.
    let operands : c.in-Err.refusal ≡ OutOfMemory → HasOperands line = λ e. asked.operands (c.in-Err.ensures.operands (ap {B = Result Command Refusal} (λ (r : Refusal). Err r) e)) in
    subst (λ (fault : LineFault). IsReading line (Err fault)) (sym c.refuse.ensures.fault)
    (faulty line asked.command c.args.job c.in-Err.refusal asked.read asked.owner (c.in-Err.ensures.command asked.command asked.said) operands, sym asked.owner)
