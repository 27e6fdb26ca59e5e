use Rattle.std.proofs.Common.{arith}
use Rattle.stretches.proofs.Places.{left_all}
use Rattle.stretches.proofs.stretches_kept.Stretches.take_out.Goals as goal

pub returns-else-first-last : goal.returns-else-first-last
returns-else-first-last c =
    let fits = c.fits.ensures c.if-not-fits.false in
    left_all c.count_ended-first.result c.count_before-last.result c.args.low c.args.high c.args.self.now fits (omega (arith, c.if-first-last.false, fits.order))
