use Rattle.std.proofs.Common.{refl}
use Rattle.std.proofs.lemmas.Result.{on_ok_weaker, on_err_weaker}
use Rattle.command.specs.declared.access.Answer.TheVariants.{Value}
use Rattle.script_run.proofs.Replies.{got_gathered, lone_lost}
use Rattle.script_run.proofs.gathering.gather_ordered.Goals as goal

-- what is lent is what was answered
pub returns-in-Ok-clause-gathered : goal.returns-in-Ok-clause-gathered
returns-in-Ok-clause-gathered g c =
    let got = c.in-Ok.ensures in
    let lent = c.value_got-answer.ensures _ got.got got.size in
    on_ok_weaker c.write_got.result (got_gathered c.args.line.now c.args.job _ _ _ c.args.script.now.core.machine c.args.script.now.out.items c.args.script.now.outcome c.args.script.now.jobs _ lent c.requires.asked got.exact got.machine refl c.note_line.ensures) c.write_got.ensures.ok

pub returns-in-Ok-clause-lost : goal.returns-in-Ok-clause-lost
returns-in-Ok-clause-lost g c =
    let got = c.in-Ok.ensures in
    on_err_weaker c.write_got.result (lone_lost c.args.line.now c.args.job _ (Value _) c.args.script.now.core.machine c.args.script.now.out.items _ c.requires.asked got.exact got.machine) c.write_got.ensures.err
