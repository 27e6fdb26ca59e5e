use Rattle.std.proofs.Common.{arith, ap, length, ◌-◌}
use Rattle.stretches.proofs.Places.{left_back, one_at}
use Rattle.stretches.proofs.stretches_kept.Stretches.part.Goals as goal

pub returns-in-Some : goal.returns-in-Some
returns-in-Some c =
    left_back c.args.first c.args.last c.args.low c.args.high c.args.self.now c.requires.fits c.leave_front.new.self c.put_back.new.self c.index.result.now c.in-Some.back
    (one_at c.self.inside.list.items c.args.self.now (c.args.last - 1) c.index.result.now c.self.view_is (omega (arith, c.requires.order, c.requires.fits.within, ap length c.self.view_is)) c.index.ensures)
    c.in-Some.ensures (c.leave_front.ensures c.args.high c.requires.fits) c.put_back.ensures

pub returns-in-None : goal.returns-in-None
returns-in-None c = c.leave_front.ensures c.args.high c.requires.fits
