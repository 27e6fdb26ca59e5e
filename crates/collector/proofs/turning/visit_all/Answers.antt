use Rattle.std.proofs.Common.{sym, ap, ◌∙◌}
use Rattle.std.specs.FinMap as finmap
use Rattle.version_store.specs.Versions.{next_in_turn, is_worth_a_cut}
use Rattle.collector.proofs.TurnLemmas.{itself}
use Rattle.collector.proofs.NextLemmas.{placed_next, distinct_next, distinct_filter}
use Rattle.collector.proofs.LoneLemmas.{row_worth, progress_worth, placed_filter, marked_some, marked_none}
use Rattle.collector.proofs.turning.visit_all.Goals as goal

pub visit_each-progress-requires-clause-placed : goal.visit_each-progress-requires-clause-placed
visit_each-progress-requires-clause-placed c =
    let s = c.args.store.now in
    rw c.requires.next.keys_are (placed_filter (is_worth_a_cut s.versions) s.versions (next_in_turn c.args.limit s) (placed_next c.args.limit s itself))

pub visit_each-progress-requires-clause-distinct : goal.visit_each-progress-requires-clause-distinct
visit_each-progress-requires-clause-distinct c =
    let s = c.args.store.now in
    rw c.requires.next.keys_are (distinct_filter (is_worth_a_cut s.versions) (next_in_turn c.args.limit s) (distinct_next c.args.limit s))

pub returns-in-Some-clause-rows : goal.returns-in-Some-clause-rows
returns-in-Some-clause-rows c = λ r.
    let s = c.args.store.now in
    let rows = rw c.requires.next.keys_are at c.visit_each-progress.ensures.rows in
    ap (λ t. finmap.get t.versions r) c.mark.ensures ∙ rows r ∙ row_worth c.args.horizon s.versions (next_in_turn c.args.limit s) r

pub returns-in-None-clause-rows : goal.returns-in-None-clause-rows
returns-in-None-clause-rows c = λ r.
    let s = c.args.store.now in
    let rows = rw c.requires.next.keys_are at c.visit_each-progress.ensures.rows in
    rows r ∙ row_worth c.args.horizon s.versions (next_in_turn c.args.limit s) r

pub returns-in-Some-clause-progress : goal.returns-in-Some-clause-progress
returns-in-Some-clause-progress c =
    let s = c.args.store.now in
    progress_worth c.args.horizon s.versions (next_in_turn c.args.limit s) _ _ _ c.requires.next.keys_are c.requires.next.visited_is c.visit_each-progress.ensures.progress

pub returns-in-None-clause-progress : goal.returns-in-None-clause-progress
returns-in-None-clause-progress c =
    let s = c.args.store.now in
    progress_worth c.args.horizon s.versions (next_in_turn c.args.limit s) _ _ _ c.requires.next.keys_are c.requires.next.visited_is c.visit_each-progress.ensures.progress

pub returns-in-Some-clause-mark : goal.returns-in-Some-clause-mark
returns-in-Some-clause-mark c =
    let s = c.args.store.now in
    ap (λ t. t.mark) c.mark.ensures ∙ sym (marked_some s.mark (next_in_turn c.args.limit s) c.in-Some.last (sym c.requires.next.last_is ∙ c.in-Some.is))

pub returns-in-None-clause-mark : goal.returns-in-None-clause-mark
returns-in-None-clause-mark c =
    let s = c.args.store.now in
    c.visit_each-progress.ensures.mark ∙ sym (marked_none s.mark (next_in_turn c.args.limit s) (sym c.requires.next.last_is ∙ c.in-None.is))
