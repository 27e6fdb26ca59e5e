use Rattle.std.proofs.Common.{rules, of_calls, drop, ap, ◌∙◌}
use Rattle.std.specs.Ordering.{is_lt}
use Rattle.std.specs.FinMap.{is_sorted}
use Rattle.std.proofs.lemmas.List.{take_rest}
use Rattle.std.proofs.lemmas.Fn.{always_returns_same}
use Rattle.collation.specs.Order.{ref_cmp}
use Rattle.journal.specs.Merging.{Parted}
use Rattle.journal.proofs.Rising.{Node, parted_by, parted_at}
use Rattle.journal.proofs.merging.Merging.count_before.Goals as goal

pub returns-clause-before : goal.returns-clause-before
returns-clause-before c =
    let same = take_rest c.deref.result.now c.self.inside.next ∙ ap (drop c.self.inside.next) c.deref.ensures.value ∙ ap (λ (p : Parted). p.left) c.self.view_is in
    (parted_at c.args.key.now _ c.args.self.now.left c.partition_point.result same c.partition_point.ensures.bound
    (c.partition_point.ensures.partitioned (λ (e : Node). is_lt (ref_cmp e.0 c.args.key.now)) (always_returns_same _ _ _ (λ a r f k. search (rules, of_calls)))
    (parted_by c.args.key.now _ (ap (is_sorted ref_cmp) same ∙ c.requires)))).before

pub returns-clause-from : goal.returns-clause-from
returns-clause-from c =
    let same = take_rest c.deref.result.now c.self.inside.next ∙ ap (drop c.self.inside.next) c.deref.ensures.value ∙ ap (λ (p : Parted). p.left) c.self.view_is in
    (parted_at c.args.key.now _ c.args.self.now.left c.partition_point.result same c.partition_point.ensures.bound
    (c.partition_point.ensures.partitioned (λ (e : Node). is_lt (ref_cmp e.0 c.args.key.now)) (always_returns_same _ _ _ (λ a r f k. search (rules, of_calls)))
    (parted_by c.args.key.now _ (ap (is_sorted ref_cmp) same ∙ c.requires)))).from
