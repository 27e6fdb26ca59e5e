use Rattle.std.proofs.Common.{List, sym, subst}
use Rattle.read_ranges.specs.declared.range.ReadRange.{ReadRange}
use Rattle.stretches.specs.Empty.{AreEmpty}
use Rattle.job_core.proofs.passing.Passing.keep_killed.Goals as goal

pub returns-then-not-is_done : goal.returns-then-not-is_done
returns-then-not-is_done c = λ m were came. subst (λ (rs : List ReadRange). AreEmpty rs m) (sym c.self.view_is) were

pub returns : goal.returns
returns c = λ m were came. c.follow.ensures m (λ x inside _. subst (λ (rs : List ReadRange). AreEmpty rs m) (sym c.self.view_is) were x inside) (came c.if-not-is_done.false)
