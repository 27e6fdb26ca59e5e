use Rattle.std.proofs.Common.{subst}
use Rattle.std.specs.Prelude.{Ok}
use Rattle.command.specs.declared.request.Command.{Command}
use Rattle.script.specs.Line.{IsReading}
use Rattle.live_server.proofs.live.take_command.Goals as goal

pub gather_command-requires-clause-had : goal.gather_command-requires-clause-had
gather_command-requires-clause-had g c = c.must_wait.ensures.told c.if-not-must_wait.true

pub take_lock-requires-clause-asks : goal.take_lock-requires-clause-asks
take_lock-requires-clause-asks g c = let lock = c.must_wait.ensures.waits c.if-not-must_wait.false in record { command = lock.0; asks = subst (λ (x : Command). IsReading c.args.line.now (Ok (c.args.job, x))) lock.1 c.requires.asked }
