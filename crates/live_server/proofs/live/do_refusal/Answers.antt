use Rattle.command.specs.declared.request.Reply.TheVariants.{Refused}
use Rattle.listing.specs.laws.Bytes.{on_err}
use Rattle.live_server.proofs.Steps.{refused_fair, lost_as}
use Rattle.live_server.proofs.live.do_refusal.Goals as goal

pub returns-clause-done : goal.returns-clause-done
returns-clause-done g c = record { reply = Refused c.args.fault.refusal; fair = refused_fair c.args.line.now c.args.fault.refusal; gathered = c.in_ok-gather_unread.ensures.gathered_as }

pub returns-in_err-gather_unread-clause-err : goal.returns-in_err-gather_unread-clause-err
returns-in_err-gather_unread-clause-err g c = on_err _ _ (lost_as _ _ _ _ _ c.in_err-gather_unread.ensures.lost_as (refused_fair c.args.line.now c.args.fault.refusal))
