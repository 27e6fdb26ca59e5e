use Rattle.std.proofs.Common.{◌≡◌, max, ap, ◌∙◌, arith}
use Rattle.version_store.specs.Versions.{next_in_turn, versions_of}
use Rattle.collector.proofs.NextLemmas.{length_next, among_all}
use Rattle.collector.proofs.RowLemmas.{content_turned, late_turned, row_all, row_settled}
use Rattle.collector.proofs.turning.turn.Goals as goal

pub visit_all-requires-clause-next : goal.visit_all-requires-clause-next
visit_all-requires-clause-next c = rw c.in-Ok-raise_cut.ensures.ok (record { keys_are = c.in-Ok.ensures.keys_are; visited_is = c.in-Ok.ensures.visited_is; last_is = c.in-Ok.ensures.last_is })

pub returns-in-Ok-raise_cut-clause-content : goal.returns-in-Ok-raise_cut-clause-content
returns-in-Ok-raise_cut-clause-content c = λ s from.
    let rows = rw c.in-Ok-raise_cut.ensures.ok at c.visit_all.ensures.rows in
    let raised : c.visit_all.new.store.cut ≡ max c.args.store.now.cut c.args.horizon = c.visit_all.ensures.cut ∙ ap (λ t. t.cut) c.in-Ok-raise_cut.ensures.ok in
    content_turned c.args.horizon (next_in_turn c.args.limit c.args.store.now) c.args.store.now.versions _ s rows (omega (arith, raised, from))

pub returns-in-Ok-raise_cut-clause-late : goal.returns-in-Ok-raise_cut-clause-late
returns-in-Ok-raise_cut-clause-late c = λ r.
    let rows = rw c.in-Ok-raise_cut.ensures.ok at c.visit_all.ensures.rows in
    late_turned c.args.horizon (next_in_turn c.args.limit c.args.store.now) c.args.store.now.versions _ r (rows r) (c.now.ensures.falls r)

pub returns-in-Ok-raise_cut-clause-all : goal.returns-in-Ok-raise_cut-clause-all
returns-in-Ok-raise_cut-clause-all c = λ few r.
    let rows = rw c.in-Ok-raise_cut.ensures.ok at c.visit_all.ensures.rows in
    row_all c.args.horizon (next_in_turn c.args.limit c.args.store.now) c.args.store.now.versions _ r (rows r) (among_all c.args.limit c.args.store.now r few)

pub returns-in-Ok-raise_cut-clause-settled : goal.returns-in-Ok-raise_cut-clause-settled
returns-in-Ok-raise_cut-clause-settled c = λ few at r vs there.
    let all = returns-in-Ok-raise_cut-clause-all c few r in
    row_settled c.args.store.now.present (versions_of c.args.store.now.versions r) vs _ (c.now.ensures.settled r) (rw at at all) there

pub returns-in-Ok-raise_cut-clause-visited : goal.returns-in-Ok-raise_cut-clause-visited
returns-in-Ok-raise_cut-clause-visited c =
    let progress = c.visit_all.ensures.progress in
    progress.visited ∙ rw c.in-Ok-raise_cut.ensures.ok (length_next c.args.limit c.args.store.now)
