use Rattle.std.proofs.Common.{rules}
use Rattle.command.specs.declared.request.Command.TheVariants.{Lock as lock_command}
use Rattle.serial.specs.Machine.{told_had}
use Rattle.shared_engine.specs.Blocks.{said}
use Rattle.job_server.specs.Telling.{HasLocked}
use Rattle.job_server.proofs.Stepped.{done_as, locked_stepped}
use Rattle.job_server.proofs.job_run.Calls.lock.Goals as goal

pub returns-clause-done : goal.returns-clause-done
returns-clause-done g c =
    let command = c.args.command in
    let done = c.match-millis.done in
    let old = c.args.session.now in
    let new = c.match-millis.session in
    let tried : HasLocked command done old new = search rules in
    done_as (lock_command command) (said (told_had command) done) c.locked.result old new (locked_stepped command done old new tried) c.locked.ensures.told
