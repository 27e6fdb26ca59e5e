use Rattle.globals.specs.declared.cut.Cut.TheVariants.{Before, After}
use Rattle.stretches.specs.laws.Entering.{at_itself}
use Rattle.stretches.proofs.Places.{none_between}
use Rattle.stretches.proofs.stretches_kept.Stretches.lie_beside.Goals as goal

pub returns : goal.returns
returns c = λ is. none_between c.count_ended-place.result (Before c.args.key) (After c.args.key) c.args.self.now (c.fits.ensures is) c.args.key.now (at_itself c.args.key.now)
