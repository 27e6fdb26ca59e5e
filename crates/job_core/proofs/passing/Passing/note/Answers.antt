use Rattle.std.proofs.Common.{List, sym, subst}
use Rattle.read_ranges.specs.declared.range.ReadRange.{ReadRange}
use Rattle.stretches.specs.Empty.{AreEmpty}
use Rattle.job_core.proofs.passing.Passing.note.Goals as goal

pub returns : goal.returns
returns c = λ m were came. c.follow.ensures m (λ x inside _. subst (λ (rs : List ReadRange). AreEmpty rs m) (sym c.self.view_is) were x inside) came
