use Rattle.std.proofs.Common.{refl, subst}
use Rattle.listing.specs.laws.Bytes.{on_err}
use Rattle.command.specs.declared.request.Reply.{Reply}
use Rattle.serial.specs.Machine.{IsReply}
use Rattle.live_server.proofs.Steps.{lost_as}
use Rattle.live_server.proofs.live.try_command.Goals as goal

pub returns-then-still_waits-clause-done : goal.returns-then-still_waits-clause-done
returns-then-still_waits-clause-done g c = record { machine = refl; text = refl; outcome = refl; jobs = refl }

pub returns-clause-done : goal.returns-clause-done
returns-clause-done g c = record { reply = _; fair = λ e. c.requires.due (c.still_waits.ensures c.if-still_waits.false (subst (λ (r : Reply). IsReply c.args.job c.args.command r c.args.script.now.core.machine) e c.answer_command-accepted.ensures.exact)); gathered = c.in_ok-gather_reply.ensures.gathered_as _ (c.answer_command-accepted.ensures.answered _ c.requires.asked) }

pub returns-in_err-gather_reply-clause-err : goal.returns-in_err-gather_reply-clause-err
returns-in_err-gather_reply-clause-err g c = on_err _ _ (lost_as _ _ _ _ _ (c.in_err-gather_reply.ensures.lost_as _ (c.answer_command-accepted.ensures.answered _ c.requires.asked)) (λ e. c.requires.due (c.still_waits.ensures c.if-still_waits.false (subst (λ (r : Reply). IsReply c.args.job c.args.command r c.args.script.now.core.machine) e c.answer_command-accepted.ensures.exact))))
