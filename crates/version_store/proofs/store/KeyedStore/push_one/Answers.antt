use Rattle.std.proofs.Common.{sym, subst, arith}
use Rattle.version_chain.specs.Versions.{IsAbove}
use Rattle.version_store.specs.Tied.{versions_in}
use Rattle.version_store.proofs.TiedLemmas.{row_in, not_placed, pushed, tied_update}
use Rattle.version_store.proofs.CellLemmas.{cells_in}
use Rattle.version_store.proofs.NotedLemmas.{noted_grown, noted_pushed}
use Rattle.version_store.proofs.store.KeyedStore.push_one.Goals as goal

pub push_reserved-requires-clause-newest : goal.push_reserved-requires-clause-newest
push_reserved-requires-clause-newest c =
    let s = c.self.inside in
    let at = rw c.in-Some.is at c.get.ensures.found in
    let newest = rw (← c.self.view_is) at c.requires.newest in
    subst (IsAbove c.args.stamp) (row_in s.chains s.tree.pairs c.args.key.now c.in-Some.id.now c.self.invariant.0.sorted at) newest

pub unreachable-requires : goal.unreachable-requires
unreachable-requires c =
    let s = c.self.inside in
    let at = rw c.in-None.is at c.get.ensures.found in
    not_placed s.chains s.tree.pairs c.args.key.now c.self.invariant.0.sorted at (rw (← c.self.view_is) at c.requires.placed)

pub invariant_of-self : goal.invariant_of-self
invariant_of-self c =
    let s = c.self.inside in
    let at = rw c.in-Some.is at c.get.ensures.found in
    let low = rw (← c.self.view_is) at c.requires.stamp in
    let newest = rw (← c.self.view_is) at c.requires.newest in
    let above = subst (IsAbove c.args.stamp) (row_in s.chains s.tree.pairs c.args.key.now c.in-Some.id.now c.self.invariant.0.sorted at) newest in
    (tied_update s.chains c.push_reserved.new.self s.tree.pairs s.present c.in-Some.id.now c.args.key.now _ c.self.invariant.0 (sym at) c.push_reserved.ensures.chains (omega (arith, low)) (λ z. absurd (omega (arith, c.requires.first, low, z))) (above, c.self.invariant.0.falls c.args.key.now c.in-Some.id.now (sym at)), c.self.invariant.1, noted_pushed s.cut c.note.new.self.stamps (versions_in s.chains s.tree.pairs) _ c.args.stamp c.args.key.now c.args.value (noted_grown s.cut s.cut s.recent.stamps c.note.new.self.stamps (versions_in s.chains s.tree.pairs) c.self.invariant.2 (omega arith) c.note.ensures.grows) c.note.ensures.noted (pushed s.chains c.push_reserved.new.self s.tree.pairs s.present c.in-Some.id.now c.args.stamp c.args.key.now c.args.value c.self.invariant.0 at c.push_reserved.ensures.chains))

pub returns-clause-versions : goal.returns-clause-versions
returns-clause-versions c =
    let s = c.self.inside in
    let at = rw c.in-Some.is at c.get.ensures.found in
    rw (← c.self.view_is) (pushed s.chains c.push_reserved.new.self s.tree.pairs s.present c.in-Some.id.now c.args.stamp c.args.key.now c.args.value c.self.invariant.0 at c.push_reserved.ensures.chains)

pub returns-clause-cells : goal.returns-clause-cells
returns-clause-cells c =
    let s = c.self.inside in
    let at = rw c.in-Some.is at c.get.ensures.found in
    let was = cells_in s.chains s.tree.pairs c.args.key.now c.in-Some.id.now c.self.invariant.0.sorted at in
    let is = cells_in c.push_reserved.new.self s.tree.pairs c.args.key.now c.in-Some.id.now c.self.invariant.0.sorted at in
    rw (← c.self.view_is) (omega (arith, was, is, c.push_reserved.ensures.spare))
