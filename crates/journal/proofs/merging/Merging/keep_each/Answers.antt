use Rattle.std.proofs.Common.{arith}
use Rattle.journal.proofs.Rising.{keeps_none, keeps_more}
use Rattle.journal.proofs.merging.Merging.keep_each.Goals as goal

pub loop-init : goal.loop-init
loop-init c = keeps_none c.args.self.now

pub loop-preserved : goal.loop-preserved
loop-preserved c = keeps_more c.loop.counter c.args.self.now c.loop.self c.keep.new.self (omega (arith, c.loop-test.true, c.requires)) c.loop.invariant c.keep.ensures
