use Rattle.command.specs.declared.request.Reply.TheVariants.{Refused}
use Rattle.listing.specs.laws.Bytes.{on_err}
use Rattle.live_server.proofs.Steps.{refused_fair, lost_as}
use Rattle.live_server.proofs.live.try_line.Goals as goal

pub returns-in_ok-gather_unread-in-Err-clause-done : goal.returns-in_ok-gather_unread-in-Err-clause-done
returns-in_ok-gather_unread-in-Err-clause-done g c = record { reply = Refused c.in-Err.fault.refusal; fair = refused_fair c.args.line.now c.in-Err.fault.refusal; gathered = c.in_ok-gather_unread-in-Err.ensures.gathered_as }

pub returns-in_err-gather_unread-in-Err-clause-err : goal.returns-in_err-gather_unread-in-Err-clause-err
returns-in_err-gather_unread-in-Err-clause-err g c = on_err _ _ (lost_as _ _ _ _ _ c.in_err-gather_unread-in-Err.ensures.lost_as (refused_fair c.args.line.now c.in-Err.fault.refusal))
