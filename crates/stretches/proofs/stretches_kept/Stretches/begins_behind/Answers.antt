use Rattle.std.proofs.Common.{◌≡◌, List, arith, length, sym, ap, subst, true, drop, ◌∙◌}
use Rattle.read_ranges.specs.declared.range.ReadRange.{ReadRange}
use Rattle.read_ranges.specs.Ranges.{begins_after}
use Rattle.stretches.specs.Empty.{BeginFrom}
use Rattle.stretches.proofs.Order.{begin_from}
use Rattle.stretches.proofs.stretches_kept.Stretches.begins_behind.Goals as goal

pub returns-else-last-len : goal.returns-else-last-len
returns-else-last-len c = λ yes. subst (λ (rs : List ReadRange). BeginFrom c.args.high (drop c.args.last rs)) c.self.view_is
    (begin_from c.args.high c.self.inside.list.items c.args.last c.index.result.now (omega (arith, c.if-last-len.false, c.len.ensures, c.requires, c.self.inside.list.ok.0, ap length c.self.view_is)) c.self.invariant.ordered
    (λ x h. subst (λ (r : ReadRange). begins_after r x ≡ true) c.index.ensures (sym (c.low.ensures x) ∙ c.is_at_most.ensures.yes yes x h)))
