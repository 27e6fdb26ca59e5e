use Rattle.std.proofs.Common.{◌-◌}
use Rattle.journal.proofs.Moves.{Passing}
use Rattle.journal.proofs.base.Moving.pass_over.Given as goal

abbrev pub invariant-loop : goal.invariant-loop
invariant-loop l = Passing (l.fn.count - l.counter) l.units l.self.locks l.self.tallies l.fn.count l.fn.units l.fn.self.locks l.fn.self.tallies
