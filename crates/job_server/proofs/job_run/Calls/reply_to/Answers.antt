use Rattle.std.proofs.Common.{refl, sym, subst}
use Rattle.command.specs.declared.request.Command.{Command}
use Rattle.command.specs.declared.request.Command.TheVariants.{Access, Start}
use Rattle.command.specs.declared.request.Reply.TheVariants.{Answered, AtLevel, Count}
use Rattle.shared_engine.specs.Blocks.{said}
use Rattle.job_server.specs.Steps.{WasDoneBy}
use Rattle.job_server.proofs.Stepped.{done_as, level_stepped, restarts_stepped}
use Rattle.job_server.proofs.job_run.Calls.reply_to.Goals as goal

pub returns-in-Access-clause-done : goal.returns-in-Access-clause-done
returns-in-Access-clause-done g c =
    let old = c.args.session.now in
    let new = c.access.new.session in
    subst (λ (command : Command). WasDoneBy command c.answered.result old new) (sym c.in-Access.is)
    (done_as (Access c.in-Access.command) (said Answered c.access.result) c.answered.result old new c.access.ensures c.answered.ensures.told)

pub returns-in-Lock-clause-done : goal.returns-in-Lock-clause-done
returns-in-Lock-clause-done g c = subst (λ (command : Command). WasDoneBy command c.lock.result c.args.session.now c.lock.new.session) (sym c.in-Lock.is) c.lock.ensures.done

pub returns-in-Start-clause-done : goal.returns-in-Start-clause-done
returns-in-Start-clause-done g c =
    let old = c.args.session.now in
    let new = c.start.new.session in
    subst (λ (command : Command). WasDoneBy command c.at_level.result old new) (sym c.in-Start.is) (done_as Start (said AtLevel c.start.result) c.at_level.result old new c.start.ensures c.at_level.ensures.told)

pub returns-in-Level-clause-done : goal.returns-in-Level-clause-done
returns-in-Level-clause-done g c =
    let now = c.args.session.now in subst (λ (command : Command). WasDoneBy command (Count c.tlevel.result) now now) (sym c.in-Level.is) (level_stepped c.tlevel.result now now c.tlevel.ensures refl)

pub returns-in-Restarts-clause-done : goal.returns-in-Restarts-clause-done
returns-in-Restarts-clause-done g c =
    let now = c.args.session.now in subst (λ (command : Command). WasDoneBy command (Count c.trestarts.result) now now) (sym c.in-Restarts.is) (restarts_stepped c.trestarts.result now now c.trestarts.ensures refl)
