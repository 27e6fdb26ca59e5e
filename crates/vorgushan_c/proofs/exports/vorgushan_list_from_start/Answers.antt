use Rattle.std.proofs.Common.{rules, refl}
use Rattle.embedded.specs.declared.outcome.Outcome.TheVariants.{Done}
use Rattle.vorgushan_c.proofs.Called.{called}
use Rattle.vorgushan_c.proofs.exports.vorgushan_list_from_start.Goals as goal

pub returns : goal.returns
returns c =
    called _ _ _ _ _ c.deref_mut.result.now c.list_from_start.new.self Done (search rules) (search rules) (search rules) (c.list_from_start.ensures, refl)
