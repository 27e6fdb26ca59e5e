use Rattle.command.specs.declared.request.Reply.TheVariants.{Refused}
use Rattle.refusal.specs.declared.Refusal.TheVariants.{OutOfMemory}
use Rattle.std.proofs.Common.{refl, sym}
use Rattle.listing.specs.laws.Bytes.{on_err}
use Rattle.live_server.proofs.Had.{wanting}
use Rattle.live_server.proofs.Steps.{refused_fair, idle_of, Ran-answered, Lacked-answered, lost_as}
use Rattle.live_server.proofs.live.gather_wanting.Goals as goal

pub returns-clause-ran : goal.returns-clause-ran
returns-clause-ran g c = λ text. Ran-answered _ _ _ text (record { reply = Refused OutOfMemory; fair = refused_fair c.args.line.now OutOfMemory; gathered = c.in_ok-gather_reply.ensures.gathered_as _ (wanting _ _ _ _ c.requires.asks.asks) }) refl (idle_of _ _ _ (sym c.requires.asks.asks.1) c.requires.idle)

pub returns-in_err-gather_reply-clause-err : goal.returns-in_err-gather_reply-clause-err
returns-in_err-gather_reply-clause-err g c = on_err _ _ (Lacked-answered _ _ _ (lost_as _ _ _ _ _ (c.in_err-gather_reply.ensures.lost_as _ (wanting _ _ _ _ c.requires.asks.asks)) (refused_fair c.args.line.now OutOfMemory)) (idle_of _ _ _ (sym c.requires.asks.asks.1) c.requires.idle))
