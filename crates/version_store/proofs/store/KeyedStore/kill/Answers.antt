use Rattle.std.proofs.Common.{ap, ◌∙◌, arith}
use Rattle.version_store.specs.Versions.{content_at, versions_of, cells_in}
use Rattle.version_store.specs.Tied.{versions_in}
use Rattle.version_store.proofs.TiedLemmas.{tied_later, low_in, entries_in}
use Rattle.version_store.proofs.KillLemmas.{content_killed, rows_stay}
use Rattle.version_store.proofs.NotedLemmas.{noted_grown, noted_killed}
use Rattle.version_store.proofs.store.KeyedStore.kill.Goals as goal

pub close_and_take-requires : goal.close_and_take-requires
close_and_take-requires c = (c.self.inside.present, c.self.invariant.0)

pub invariant_of-self : goal.invariant_of-self
invariant_of-self c =
    let s = c.self.inside in
    let later = rw (← c.self.view_is) at c.requires in
    (tied_later c.close_and_take.new.chains c.close_and_take.new.tree.pairs s.present c.args.stamp (c.close_and_take.ensures.tied s.present c.self.invariant.0) (omega (arith, later)), omega arith, noted_killed c.args.stamp s.recent.stamps (versions_in s.chains s.tree.pairs) _ c.args.root.now (noted_grown s.cut c.args.stamp s.recent.stamps s.recent.stamps (versions_in s.chains s.tree.pairs) c.self.invariant.2 (omega (arith, later, c.self.invariant.1)) (λ r. omega arith)) c.close_and_take.ensures.versions)

pub returns-clause-versions : goal.returns-clause-versions
returns-clause-versions c = rw (← c.self.view_is) c.close_and_take.ensures.versions

pub returns-clause-content : goal.returns-clause-content
returns-clause-content c =
    let s = c.self.inside in
    let later = rw (← c.self.view_is) at c.requires in
    rw (← c.self.view_is) (ap (λ m. content_at m c.args.stamp) c.close_and_take.ensures.versions ∙ content_killed c.args.root.now (versions_in s.chains s.tree.pairs) s.present c.args.stamp (low_in s.chains s.tree.pairs s.present c.self.invariant.0) later)

pub returns-clause-rows : goal.returns-clause-rows
returns-clause-rows c = λ x.
    let s = c.self.inside in
    rw (← c.self.view_is) (ap (λ m. versions_of m x) c.close_and_take.ensures.versions ∙ rows_stay c.args.root.now (versions_in s.chains s.tree.pairs) x)

pub returns-clause-cells : goal.returns-clause-cells
returns-clause-cells c =
    let s = c.self.inside in
    let was = ap cells_in (entries_in s.chains s.tree.pairs c.self.invariant.0.sorted) in
    let sorted = (c.close_and_take.ensures.tied s.present c.self.invariant.0).sorted in
    let left = ap cells_in (entries_in c.close_and_take.new.chains c.close_and_take.new.tree.pairs sorted) in
    rw (← c.self.view_is) (omega (arith, was, left, c.close_and_take.ensures.cells))
