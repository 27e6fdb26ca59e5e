use Rattle.std.proofs.Common.{◌≡◌, Some, length, ◌-◌, sym, ap, subst, ◌∙◌}
use Rattle.std.specs.List.{slice_get}
use Rattle.std.specs.FinMap.{is_sorted}
use Rattle.collation.specs.Order.{ref_cmp}
use Rattle.steady_map.specs.Shown.{shown}
use Rattle.version_store.specs.Tied.{AreOpen}
use Rattle.version_store.proofs.RowLemmas.{open_front, open_back, sorted_back, row_passed, row_ends}
use Rattle.version_store.proofs.range.newest_before.Goals as goal

pub newest_of_front-requires-clause-opened : goal.newest_of_front-requires-clause-opened
newest_of_front-requires-clause-opened c = open_front c.args.chains.now (shown c.next_row-row.result.now) c.next_row-row.new.self (subst (AreOpen c.args.chains.now) c.next_row-row.ensures.row c.loop-last.invariant.opened)

pub newest_left-requires-clause-opened : goal.newest_left-requires-clause-opened
newest_left-requires-clause-opened c = open_back c.args.chains.now (shown c.next_row-row.result.now) c.next_row-row.new.self (subst (AreOpen c.args.chains.now) c.next_row-row.ensures.row c.loop-last.invariant.opened)

pub newest_left-requires-clause-sorted : goal.newest_left-requires-clause-sorted
newest_left-requires-clause-sorted c = sorted_back (shown c.next_row-row.result.now) c.next_row-row.new.self (ap (is_sorted ref_cmp) (sym c.next_row-row.ensures.row) ∙ c.loop-last.invariant.sorted)

pub returns-then-not-stands_before : goal.returns-then-not-stands_before
returns-then-not-stands_before c =
    c.later.ensures
    ∙ rw (c.later-newest.ensures, c.newest_of_front.ensures, c.newest_left.ensures) (row_ends c.args.high c.args.chains.now c.loop-last.newest _ c.loop-last.walk c.next_row-row.new.self c.next_row-row.result.now c.next_row-row.ensures.row c.loop-last.invariant.same)

pub newest_of_row-requires : goal.newest_of_row-requires
newest_of_row-requires c = open_front c.args.chains.now (shown c.next_row-row.result.now) c.next_row-row.new.self (subst (AreOpen c.args.chains.now) c.next_row-row.ensures.row c.loop-last.invariant.opened)

pub loop-last-preserved : goal.loop-last-preserved
loop-last-preserved c =
    let last : slice_get c.next_row-row.result.now (length c.next_row-row.result.now - 1) ≡ Some (c.in-Some.field-0.now) = sym c.in-Some.ensures.value in
    record {
      opened = open_back c.args.chains.now (shown c.next_row-row.result.now) c.next_row-row.new.self (subst (AreOpen c.args.chains.now) c.next_row-row.ensures.row c.loop-last.invariant.opened);
      sorted = sorted_back (shown c.next_row-row.result.now) c.next_row-row.new.self (ap (is_sorted ref_cmp) (sym c.next_row-row.ensures.row) ∙ c.loop-last.invariant.sorted);
      same = rw (c.later-newest-in-loop-last.ensures, c.newest_of_row.ensures) (row_passed c.args.high c.args.chains.now c.in-Some.field-0.now c.loop-last.newest _ c.loop-last.walk c.next_row-row.new.self c.next_row-row.result.now c.next_row-row.ensures.row
          c.next_row-row.ensures.sorted last (sym c.stands_before.ensures ∙ c.if-not-stands_before.false) c.loop-last.invariant.same);
    }
