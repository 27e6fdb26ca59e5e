use Rattle.std.proofs.Common.{◌≡◌, ℕ, ◌-◌, List, arith, length, suc, sym, ap, subst, true, take, ◌∙◌}
use Rattle.read_ranges.specs.declared.range.ReadRange.{ReadRange}
use Rattle.read_ranges.specs.Ranges.{ends_after}
use Rattle.stretches.specs.Empty.{AreEndedBy}
use Rattle.stretches.proofs.Order.{ended_by}
use Rattle.stretches.proofs.stretches_kept.Stretches.ends_before.Goals as goal

pub returns-else-first-eq0 : goal.returns-else-first-eq0
returns-else-first-eq0 c = λ yes.
    let before : suc (c.args.first - 1) ≡ c.args.first = omega (arith, c.if-first-eq0.false) in
    subst (λ (rs : List ReadRange). AreEndedBy c.args.low (take c.args.first rs)) c.self.view_is
    (subst (λ (n : ℕ). AreEndedBy c.args.low (take n c.self.inside.list.items)) before
    (ended_by c.args.low c.self.inside.list.items (c.args.first - 1) c.index.result.now (omega (arith, before, c.requires, ap length c.self.view_is)) c.self.invariant.ordered
    (λ x h. c.is_at_most.ensures.yes yes x (c.high.ensures x ∙ subst (λ (r : ReadRange). ends_after r x ≡ true) (sym c.index.ensures) h))))
