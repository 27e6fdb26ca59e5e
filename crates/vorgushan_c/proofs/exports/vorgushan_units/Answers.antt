use Rattle.std.proofs.Common.{refl, rules}
use Rattle.embedded.specs.declared.outcome.Outcome.TheVariants.{Done}
use Rattle.vorgushan_c.proofs.Called.{called}
use Rattle.vorgushan_c.proofs.exports.vorgushan_units.Goals as goal

pub returns : goal.returns
returns c =
    called _ _ _ _ _ c.deref.result.now c.deref.result.now Done (search rules) (search rules) (search rules) (refl, (c.units.ensures, refl))
