use Rattle.std.proofs.Common.{◌≡◌, ◌++◌, [], ◌∙◌, true, ap, sym, subst}
use Rattle.std.specs.FinMap.Entries.{is_sorted}
use Rattle.steady_map.specs.Shown.{shown}
use Rattle.steady_map.proofs.Shows.{sorted_front, sorted_back, shown_append}
use Rattle.steady_map.proofs.walk.Walk.next_row.Goals as goal

pub invariant_of-self : goal.invariant_of-self
invariant_of-self g c = sorted_back g.K.Ord.cmp c.next_row-row.result.now c.next_row-row.new.self (subst (λ es. is_sorted g.K.Ord.cmp es ≡ true) c.next_row-row.ensures.row c.rows.invariant.sorted)

pub returns-then-not-hides_all-clause-row : goal.returns-then-not-hides_all-clause-row
returns-then-not-hides_all-clause-row g c = sym c.rows.invariant.left ∙ ap shown c.next_row-row.ensures.row ∙ shown_append c.next_row-row.result.now c.next_row-row.new.self

pub returns-then-not-hides_all-clause-sorted : goal.returns-then-not-hides_all-clause-sorted
returns-then-not-hides_all-clause-sorted g c = sorted_front g.K.Ord.cmp c.next_row-row.result.now c.next_row-row.new.self (subst (λ es. is_sorted g.K.Ord.cmp es ≡ true) c.next_row-row.ensures.row c.rows.invariant.sorted)

pub rows-preserved : goal.rows-preserved
rows-preserved g c =
    let hidden : shown c.next_row-row.result.now ≡ [] = c.hides_all.ensures.hidden c.if-not-hides_all.false in
    record {
      left = sym (ap (λ es. es ++ shown c.next_row-row.new.self) hidden) ∙ sym (shown_append c.next_row-row.result.now c.next_row-row.new.self) ∙ sym (ap shown c.next_row-row.ensures.row) ∙ c.rows.invariant.left;
      sorted = sorted_back g.K.Ord.cmp c.next_row-row.result.now c.next_row-row.new.self (subst (λ es. is_sorted g.K.Ord.cmp es ≡ true) c.next_row-row.ensures.row c.rows.invariant.sorted);
    }
