use Rattle.std.proofs.Common.{take, ap, ◌∙◌}
use Rattle.std.specs.FinMap.{is_sorted}
use Rattle.collation.specs.Changes.{changed}
use Rattle.collation.specs.Order.{ref_cmp}
use Rattle.journal.specs.Based.{map_in}
use Rattle.journal.specs.History.{State, initial, after}
use Rattle.job_core.proofs.Between.{values_rise, units_lead, if_ok_then}
use Rattle.job_core.proofs.noted.changes_to.Goals as goal

pub returns-clause-rising : goal.returns-clause-rising
returns-clause-rising g c =
    if_ok_then c.list_end_values.result c.list_end_values.ensures (λ changes is. ap (is_sorted ref_cmp) is ∙ values_rise c.note_units.new.noted (g.V.OrderedView.content c.args.end.now))

pub returns-clause-changes : goal.returns-clause-changes
returns-clause-changes g c =
    let j = c.args.journal.now in
    let end = g.V.OrderedView.content c.args.end.now in
    if_ok_then c.list_end_values.result c.list_end_values.ensures (λ changes is.
    ap (λ cs. changed cs (after (take j.base j.units) initial).map) is
    ∙ units_lead c.new-noted.result c.note_units.new.noted (map_in c.base-base.result.now) end c.args.number j.base c.number.result j.units c.units-units.result c.requires.from c.requires.to
    (ap (λ (s : State). s.map) c.base-base.ensures.state) c.requires.end (c.number.ensures ∙ c.base-base.ensures.number) c.units-units.ensures c.in_ok-note_units.ensures)
