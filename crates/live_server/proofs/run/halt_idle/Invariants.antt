use Rattle.std.proofs.Common.{ℕ, List, Option}
use Rattle.live_server.specs.Runs.{Settled}
use Rattle.live_server.proofs.run.halt_idle.Given as goal

abbrev pub invariant-jobs : goal.invariant-jobs
invariant-jobs l = (text : Option (List ℕ)) → Settled l.fn.live l.live text text
