use Rattle.std.proofs.Common.{refl}
use Rattle.std.proofs.lemmas.Result.{on_ok_weaker, on_err_weaker}
use Rattle.command.specs.declared.access.Answer.TheVariants.{Done}
use Rattle.script_run.proofs.Replies.{lone_gathered, lone_lost}
use Rattle.script_run.proofs.gathering.gather_killed.Goals as goal

pub returns-in-Ok-clause-gathered : goal.returns-in-Ok-clause-gathered
returns-in-Ok-clause-gathered g c =
    let done = c.in-Ok.ensures in
    on_ok_weaker c.write_done.result (lone_gathered c.args.line.now c.args.job _ Done c.args.script.now.core.machine c.args.script.now.out.items c.args.script.now.outcome c.args.script.now.jobs _ c.requires.asked done.exact done.machine refl c.note_line.ensures) c.write_done.ensures.ok

pub returns-in-Ok-clause-lost : goal.returns-in-Ok-clause-lost
returns-in-Ok-clause-lost g c =
    let done = c.in-Ok.ensures in
    on_err_weaker c.write_done.result (lone_lost c.args.line.now c.args.job _ Done c.args.script.now.core.machine c.args.script.now.out.items _ c.requires.asked done.exact done.machine) c.write_done.ensures.err
