use Rattle.std.proofs.Common.{◌≡◌, ◌-◌, Some, length, sym, ◌∙◌}
use Rattle.std.specs.List.{slice_get}
use Rattle.steady_map.specs.Shown.{shown}
use Rattle.version_store.proofs.SeekLemmas.{as_whole, never_met}
use Rattle.version_store.proofs.seek.end_within.Goals as goal

pub returns-then-stands_within-clause-same : goal.returns-then-stands_within-clause-same
returns-then-stands_within-clause-same c =
    let last : slice_get c.args.row.now (length c.args.row.now - 1) ≡ Some (c.in-Some.field-0.now) = sym c.in-Some.ensures.value in
    as_whole c.args.end c.in-Some.field-0.now c.args.row.now c.requires last (sym c.stands_within.ensures ∙ c.if-stands_within.true)

pub returns-then-stands_within-clause-reached : goal.returns-then-stands_within-clause-reached
returns-then-stands_within-clause-reached c = λ met. absurd (never_met (shown c.args.row.now) met)
