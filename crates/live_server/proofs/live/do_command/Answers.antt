use Rattle.std.proofs.Common.{refl}
use Rattle.listing.specs.laws.Bytes.{on_err}
use Rattle.live_server.proofs.Steps.{kept_off_of, lost_as}
use Rattle.live_server.proofs.live.do_command.Goals as goal

pub returns-then-is_kept_off-clause-done : goal.returns-then-is_kept_off-clause-done
returns-then-is_kept_off-clause-done g c = kept_off_of _ _ _ _ _ _ _ _ _ _ (c.answer_command-accepted.ensures.answered _ c.requires.asked) (c.is_kept_off.ensures.kept c.if-is_kept_off.true) refl refl refl c.note_line.ensures

pub returns-clause-done : goal.returns-clause-done
returns-clause-done g c = record { reply = _; fair = c.is_kept_off.ensures.told c.if-is_kept_off.false; gathered = c.in_ok-gather_reply.ensures.gathered_as _ (c.answer_command-accepted.ensures.answered _ c.requires.asked) }

pub returns-in_err-gather_reply-clause-err : goal.returns-in_err-gather_reply-clause-err
returns-in_err-gather_reply-clause-err g c = on_err _ _ (lost_as _ _ _ _ _ (c.in_err-gather_reply.ensures.lost_as _ (c.answer_command-accepted.ensures.answered _ c.requires.asked)) (c.is_kept_off.ensures.told c.if-is_kept_off.false))
