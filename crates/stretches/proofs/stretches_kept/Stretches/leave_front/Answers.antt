use Rattle.std.proofs.Common.{arith, ap, length}
use Rattle.stretches.proofs.Places.{left_front, left_without, one_at}
use Rattle.stretches.proofs.stretches_kept.Stretches.leave_front.Goals as goal

pub returns-in-Some : goal.returns-in-Some
returns-in-Some c = λ high fits.
    left_front c.args.first c.args.last c.args.low high c.args.self.now fits c.put.new.self c.index.result.now c.in-Some.front
    (one_at c.self.inside.list.items c.args.self.now c.args.first c.index.result.now c.self.view_is (omega (arith, c.requires.order, c.requires.within, ap length c.self.view_is)) c.index.ensures)
    c.in-Some.ensures c.put.ensures

pub returns-in-None : goal.returns-in-None
returns-in-None c = λ high fits. left_without c.args.first c.args.last c.args.low high c.args.self.now fits c.remove_between.new.self c.remove_between.ensures
