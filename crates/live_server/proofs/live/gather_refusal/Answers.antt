use Rattle.command.specs.declared.request.Reply.TheVariants.{Refused}
use Rattle.std.proofs.Common.{refl}
use Rattle.listing.specs.laws.Bytes.{on_err}
use Rattle.live_server.proofs.Steps.{refused_fair, idle_of, Ran-answered, Lacked-answered, lost_as}
use Rattle.live_server.proofs.live.gather_refusal.Goals as goal

pub returns-clause-ran : goal.returns-clause-ran
returns-clause-ran g c = λ text. Ran-answered _ _ _ text (record { reply = Refused c.args.fault.refusal; fair = refused_fair c.args.line.now c.args.fault.refusal; gathered = c.in_ok-gather_unread.ensures.gathered_as }) refl (idle_of _ _ _ c.requires.fault.1 c.requires.idle)

pub returns-in_err-gather_unread-clause-err : goal.returns-in_err-gather_unread-clause-err
returns-in_err-gather_unread-clause-err g c = on_err _ _ (Lacked-answered _ _ _ (lost_as _ _ _ _ _ c.in_err-gather_unread.ensures.lost_as (refused_fair c.args.line.now c.args.fault.refusal)) (idle_of _ _ _ c.requires.fault.1 c.requires.idle))
