use Rattle.journal.specs.Merging.{AreKept}
use Rattle.journal.proofs.merging.Merging.keep_each.Given as goal

abbrev pub invariant-loop : goal.invariant-loop
invariant-loop l = AreKept l.counter l.fn.self l.self
