use Rattle.std.proofs.Common.{arith, sym, ap, ◌∙◌, Bor, Vec, Global, List, drop, ◌+◌}
use Rattle.std.specs.Prelude.{◌||◌}
use Rattle.std.specs.List.{list_any}
use Rattle.std.proofs.lemmas.List.Folds.{list_any-append}
use Rattle.std.proofs.lemmas.List.Sorted.{list_any-IsPermutation}
use Rattle.read_ranges.specs.declared.range.ReadRange.{ReadRange}
use Rattle.read_ranges.specs.Ranges.{is_in}
use Rattle.validate_commit.specs.Newer.{is_in_wide}
use Rattle.validate_commit.proofs.Ranges.{passed_single, listed_wide, all_listed}
use Rattle.validate_commit.proofs.newer.wide_in_order.Goals as goal
use Rattle.validate_commit.proofs.newer.wide_in_order.Goals.{in-One, in-Between+in_ok-push-in-Between}

pub loop-range-preserved : goal.loop-range-preserved
loop-range-preserved c =
    let rs = c.args.ranges.now in
    let i = c.loop-range.range-index in
    let range = c.range-item.result in
    record {
      listed = λ x. elim c.match-range.branch [
        | in-One w ↦ ap (λ (v : Vec (Bor ReadRange) Global). list_any (λ (r : Bor ReadRange). is_in r.now x) v.items || is_in_wide (drop (i + 1) rs) x) w.wide-is ∙ passed_single rs i (i + 1) range (omega arith) (omega arith) c.range-item.is x _ _ (c.loop-range.invariant.listed x) _ w.in-One.is
        | in-Between+in_ok-push-in-Between w ↦ ap (λ (v : Vec (Bor ReadRange) Global). list_any (λ (r : Bor ReadRange). is_in r.now x) v.items || is_in_wide (drop (i + 1) rs) x) w.wide-is
            ∙ ap (λ (l : List (Bor ReadRange)). list_any (λ (r : Bor ReadRange). is_in r.now x) l || is_in_wide (drop (i + 1) rs) x) w.in_ok-push-in-Between.ensures.items
            ∙ ap (λ b. b || is_in_wide (drop (i + 1) rs) x) (list_any-append (λ (r : Bor ReadRange). is_in r.now x) c.loop-range.wide.items _)
            ∙ listed_wide rs i (i + 1) range (omega arith) (omega arith) c.range-item.is x _ _ (c.loop-range.invariant.listed x) _ _ w.in-Between.is
      ];
    }

pub returns : goal.returns
returns c = λ x. sym (list_any-IsPermutation (λ (r : Bor ReadRange). is_in r.now x) _ _ c.sort_unstable_by.ensures.permutation) ∙ all_listed c.args.ranges.now c.loop-range.range-index (omega arith) x _ _ (c.loop-range.invariant.listed x)
