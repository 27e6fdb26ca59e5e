use Rattle.stretches.proofs.Places.{fits_in, right_way}
use Rattle.stretches.proofs.stretches_kept.Stretches.have_place.Goals as goal

pub returns-then-is_at_most-clause-right : goal.returns-then-is_at_most-clause-right
returns-then-is_at_most-clause-right c = λ _. right_way c.low-low.result c.high-high.result c.args.stretch.now c.low-low.ensures c.high-high.ensures (c.is_at_most.ensures.yes c.if-is_at_most.true)

pub returns-then-is_at_most-clause-fits : goal.returns-then-is_at_most-clause-fits
returns-then-is_at_most-clause-fits c = λ is.
    fits_in c.low-low.result c.high-high.result c.args.stretch.now c.low-low.ensures c.high-high.ensures c.args.first c.args.last c.args.self.now (c.fits.ensures is)
