use Rattle.std.proofs.Common.{◌≡◌, Bor, refl, ap, ◌∙◌}
use Rattle.std.specs.List.{list_any}
use Rattle.collation.specs.Reference.{Reference}
use Rattle.read_ranges.specs.declared.range.ReadRange.{ReadRange}
use Rattle.read_ranges.specs.Ranges.{is_in, is_in_one}
use Rattle.validate_commit.specs.Newer.{is_in_single, is_in_wide}
use Rattle.validate_commit.proofs.Ranges.{found_in, single_is_one, wide_found, both_none}
use Rattle.validate_commit.proofs.newer.is_newer_in_one.Goals as goal

pub returns-then-is_newer_in_single-clause-found : goal.returns-then-is_newer_in_single-clause-found
returns-then-is_newer_in_single-clause-found c = λ h. found_in c.args.store.now.versions c.args.stamp (is_in_single c.args.ranges.now) (is_in_one c.args.ranges.now) (single_is_one c.args.ranges.now) (c.if-is_newer_in_single.ensures.found refl)

pub returns-in-Ok-clause-found : goal.returns-in-Ok-clause-found
returns-in-Ok-clause-found c = λ h.
    let listed = λ (x : Reference). list_any (λ (r : Bor ReadRange). is_in r.now x) c.deref.result.now in
    let same : (x : Reference) → listed x ≡ is_in_wide c.args.ranges.now x = λ x. ap (list_any (λ (r : Bor ReadRange). is_in r.now x)) c.deref.ensures.value ∙ c.in-Ok.ensures x in
    wide_found c.args.store.now.versions c.args.stamp c.args.ranges.now listed same (c.is_newer_in_row.ensures.found h)

pub returns-in-Ok-clause-none : goal.returns-in-Ok-clause-none
returns-in-Ok-clause-none c = λ h.
    let listed = λ (x : Reference). list_any (λ (r : Bor ReadRange). is_in r.now x) c.deref.result.now in
    let same : (x : Reference) → listed x ≡ is_in_wide c.args.ranges.now x = λ x. ap (list_any (λ (r : Bor ReadRange). is_in r.now x)) c.deref.ensures.value ∙ c.in-Ok.ensures x in
    both_none c.args.store.now.versions c.args.stamp c.args.ranges.now listed same (c.if-is_newer_in_single.ensures.none refl) (c.is_newer_in_row.ensures.none h)
