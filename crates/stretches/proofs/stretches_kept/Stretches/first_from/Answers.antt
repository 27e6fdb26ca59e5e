use Rattle.stretches.proofs.Places.{not_earlier}
use Rattle.stretches.proofs.stretches_kept.Stretches.first_from.Goals as goal

pub returns-then-fits : goal.returns-then-fits
returns-then-fits c = λ x. not_earlier c.count_ended-place.result c.args.cut c.match-at.low c.args.self.now (c.fits.ensures c.if-fits.true) x
