use Rattle.std.proofs.Common.{arith, ◌-◌, ◌+◌}
use Rattle.journal.proofs.Moves.{passing_on}
use Rattle.journal.proofs.base.Moving.pass_over.Goals as goal

pub loop-preserved : goal.loop-preserved
loop-preserved c = passing_on (c.args.count - c.loop.counter) (c.args.count - (c.loop.counter + 1)) c.loop.units c.pass_next.new.units c.args.units.now c.loop.self.locks c.pass_next.new.self.locks c.args.self.now.locks c.loop.self.tallies c.pass_next.new.self.tallies c.args.self.now.tallies c.args.count (omega (arith, c.loop-test.true)) c.in_ok-pass_next.ensures c.loop.invariant
