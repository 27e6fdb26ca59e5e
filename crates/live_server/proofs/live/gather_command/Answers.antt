use Rattle.std.proofs.Common.{refl, sym, subst}
use Rattle.listing.specs.laws.Bytes.{on_err}
use Rattle.command.specs.declared.request.Reply.{Reply}
use Rattle.serial.specs.Machine.{IsReply}
use Rattle.live_server.proofs.Steps.{idle_of, Ran-answered, Lacked-answered, lost_as}
use Rattle.live_server.proofs.live.gather_command.Goals as goal

pub returns-clause-ran : goal.returns-clause-ran
returns-clause-ran g c = λ text. Ran-answered _ _ _ text (record { reply = _; fair = λ e. c.requires.had (subst (λ (r : Reply). IsReply c.args.job c.args.command r c.args.live.now.script.core.machine) e c.answer_command-accepted.ensures.exact); gathered = c.in_ok-gather_reply.ensures.gathered_as _ (c.answer_command-accepted.ensures.answered _ c.requires.asked) }) refl (idle_of _ _ _ (sym c.requires.asked.1) c.requires.idle)

pub returns-in_err-gather_reply-clause-err : goal.returns-in_err-gather_reply-clause-err
returns-in_err-gather_reply-clause-err g c = on_err _ _ (Lacked-answered _ _ _ (lost_as _ _ _ _ _ (c.in_err-gather_reply.ensures.lost_as _ (c.answer_command-accepted.ensures.answered _ c.requires.asked)) (λ e. c.requires.had (subst (λ (r : Reply). IsReply c.args.job c.args.command r c.args.live.now.script.core.machine) e c.answer_command-accepted.ensures.exact))) (idle_of _ _ _ (sym c.requires.asked.1) c.requires.idle))
