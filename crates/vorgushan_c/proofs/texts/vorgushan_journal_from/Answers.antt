use Rattle.std.proofs.Common.{rules, refl}
use Rattle.embedded.specs.declared.outcome.Outcome.TheVariants.{Done}
use Rattle.vorgushan_c.proofs.Called.{called}
use Rattle.vorgushan_c.proofs.texts.vorgushan_journal_from.Goals as goal

pub returns : goal.returns
returns c =
    called _ _ _ _ _ c.deref_mut.result.now c.journal_from.new.self Done (search rules) (search rules) (search rules) (c.journal_from.ensures, refl)
