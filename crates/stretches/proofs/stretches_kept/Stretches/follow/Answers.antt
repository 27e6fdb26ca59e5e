use Rattle.std.proofs.Common.{subst}
use Rattle.std.specs.Prelude.{Option, IfSome}
use Rattle.read_ranges.specs.declared.range.ReadRange.{ReadRange}
use Rattle.stretches.specs.Empty.{IsEmpty}
use Rattle.stretches.specs.laws.Entering.{stay_after_note}
use Rattle.stretches.proofs.stretches_kept.Stretches.follow.Goals as goal

pub returns-in-Some : goal.returns-in-Some
returns-in-Some c = λ m were came.
    stay_after_note c.in-Some.stretch c.leave.new.self c.note.new.self c.note.ensures m (c.leave.ensures m were) (subst (λ (o : Option ReadRange). IfSome o (λ s. IsEmpty s m)) c.in-Some.is came)
