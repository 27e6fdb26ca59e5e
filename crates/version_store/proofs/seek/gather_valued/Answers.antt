use Rattle.std.proofs.Common.{◌≡◌, [], sym, ap, subst, ◌<◌, length, ◌∙◌, arith, rules}
use Rattle.std.specs.FinMap.{is_sorted}
use Rattle.collation.specs.Order.{ref_cmp}
use Rattle.steady_map.specs.Shown.{shown}
use Rattle.globals.specs.laws.Runs.{run_of_all}
use Rattle.version_store.specs.Tied.{seen_to, AreOpen}
use Rattle.version_store.proofs.RowLemmas.{open_front, open_back, sorted_back}
use Rattle.version_store.proofs.SeekLemmas.{none_of, sorted_front, row_fills, row_passes, row_ends}
use Rattle.version_store.proofs.seek.gather_valued.Goals as goal

pub returns-then-is_empty : goal.returns-then-is_empty
returns-then-is_empty c =
    let zero : length c.next_row-row.result.now ≡ 0 = search rules in
    let none : c.rows.walk ≡ [] = c.next_row-row.ensures.end (none_of c.next_row-row.result.now zero) in
    run_of_all c.args.most _ c.rows.run _ c.rows.invariant.all (ap (seen_to c.args.end c.args.stamp c.args.chains.now) none) (let few = c.rows.invariant.room in omega (arith, few))

pub gather_row-requires : goal.gather_row-requires
gather_row-requires c = record {
  room = c.rows.invariant.room;
  few = c.requires.few;
  opened = open_front c.args.chains.now (shown c.next_row-row.result.now) c.next_row-row.new.self (subst (AreOpen c.args.chains.now) c.next_row-row.ensures.row c.rows.invariant.opened);
  rises = sorted_front (shown c.next_row-row.result.now) c.next_row-row.new.self (ap (is_sorted ref_cmp) (sym c.next_row-row.ensures.row) ∙ c.rows.invariant.rises);
}

pub returns-then-gather_row : goal.returns-then-gather_row
returns-then-gather_row c =
    row_ends c.args.most c.args.end c.end_within-end_here.result c.args.stamp c.args.chains.now c.rows.walk c.next_row-row.new.self c.next_row-row.result.now c.next_row-row.ensures.row
    c.end_within-end_here.ensures.same _ c.rows.run c.gather_row.new.run c.rows.invariant.all c.gather_row.ensures.filled c.requires.some c.rows.invariant.rises
    (c.end_within-end_here.ensures.reached (c.gather_row.ensures.met c.if-gather_row.true))

pub returns-then-len-most : goal.returns-then-len-most
returns-then-len-most c =
    row_fills c.args.most c.args.end c.end_within-end_here.result c.args.stamp c.args.chains.now c.rows.walk c.next_row-row.new.self c.next_row-row.result.now c.next_row-row.ensures.row
    c.end_within-end_here.ensures.same _ c.rows.run c.gather_row.new.run c.rows.invariant.all c.gather_row.ensures.filled c.requires.some (sym c.len.ensures.length ∙ c.if-len-most.true)

pub rows-preserved : goal.rows-preserved
rows-preserved c =
    let few : length c.gather_row.new.run < c.args.most = (let most = c.gather_row.ensures.filled.bounded in let n = c.len.ensures.length in let other = c.if-len-most.false in omega (arith, most, n, other)) in
    record {
      opened = open_back c.args.chains.now (shown c.next_row-row.result.now) c.next_row-row.new.self (subst (AreOpen c.args.chains.now) c.next_row-row.ensures.row c.rows.invariant.opened);
      rises = sorted_back (shown c.next_row-row.result.now) c.next_row-row.new.self (ap (is_sorted ref_cmp) (sym c.next_row-row.ensures.row) ∙ c.rows.invariant.rises);
      room = few;
      all = row_passes c.args.most c.args.end c.end_within-end_here.result c.args.stamp c.args.chains.now c.rows.walk c.next_row-row.new.self c.next_row-row.result.now c.next_row-row.ensures.row
          c.end_within-end_here.ensures.same _ c.rows.run c.gather_row.new.run c.rows.invariant.all c.gather_row.ensures.filled few;
    }
