use Rattle.std.proofs.Common.{List, sym, subst}
use Rattle.read_ranges.specs.declared.range.ReadRange.{ReadRange}
use Rattle.stretches.specs.Empty.{AreEmpty}
use Rattle.validate_commit.specs.laws.Agreement.{agreed_now}
use Rattle.job_core.proofs.kernel.Core.read.Goals as goal

pub new-requires : goal.new-requires
new-requires c =
    let now = subst (AreEmpty c.self.inside.passing) (sym (agreed_now c.self.inside.store c.self.inside.journal.units c.self.invariant.agreed)) c.self.invariant.empty in
    let there = c.hold_at.ensures c.if-not-hold_at.false c.in-Ok.ensures.kept.1 now in
    subst (λ (rs : List ReadRange). AreEmpty rs c.in-Ok.view) (sym c.stretches.ensures) (subst (AreEmpty c.self.inside.passing) (sym c.in-Ok.ensures.view) there)
