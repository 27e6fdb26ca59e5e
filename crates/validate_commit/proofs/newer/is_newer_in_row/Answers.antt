use Rattle.std.proofs.Common.{arith, refl, ap, ◌∙◌, Bor}
use Rattle.globals.specs.Cuts.{stands_before}
use Rattle.globals.specs.declared.cut.Cut.{Cut}
use Rattle.read_ranges.specs.declared.range.ReadRange.{ReadRange}
use Rattle.read_ranges.specs.Ranges.{is_in}
use Rattle.validate_commit.proofs.Ranges.{inside_next, none_next, none_left, none_at_start, none_of_range, none_alike}
use Rattle.validate_commit.proofs.newer.is_newer_in_row.Goals as goal
use Rattle.validate_commit.proofs.newer.is_newer_in_row.Goals.{then-is_at_most, else-is_at_most}

pub loop-range-init : goal.loop-range-init
loop-range-init c = record {
  inside = λ x there. there;
  left = λ none. none;
  clear = none_at_start c.args.store.now.versions c.args.stamp;
}

pub loop-range-preserved : goal.loop-range-preserved
loop-range-preserved c =
    let rs = c.args.ranges.now in
    let i = c.loop-range.range-index in
    let range = c.range-item.result in
    record {
      inside = inside_next rs i _ range (omega arith) (omega arith) c.range-item.is (λ (r : Bor ReadRange) x. is_in r.now x) c.loop-range.invariant.inside;
      left = none_next rs i _ range (omega arith) (omega arith) c.range-item.is (λ (r : Bor ReadRange) x. is_in r.now x) c.args.store.now.versions c.args.stamp (c.if-is_newer_past.ensures.none refl) c.loop-range.invariant.left;
      clear = elim c.if-is_at_most.branch [
        | then-is_at_most w ↦ none_of_range c.args.store.now.versions c.args.stamp c.if-is_at_most.low c.if-is_at_most.high range.now (λ x. ap (λ (d : Cut). stands_before d x) w.low-is ∙ w.low-low.ensures x) (λ x. ap (λ (d : Cut). stands_before d x) w.high-is ∙ w.high-high.ensures x) (c.if-is_newer_past.ensures.none refl)
        | else-is_at_most w ↦ none_alike c.args.store.now.versions c.args.stamp c.if-is_at_most.low c.if-is_at_most.high c.loop-range.low c.loop-range.high w.low-is w.high-is c.loop-range.invariant.clear
      ];
    }

pub returns-clause-none : goal.returns-clause-none
returns-clause-none c = λ h. c.loop-range.invariant.left (none_left c.args.ranges.now c.loop-range.range-index (omega arith) (λ (r : Bor ReadRange) x. is_in r.now x) c.args.store.now.versions c.args.stamp)
