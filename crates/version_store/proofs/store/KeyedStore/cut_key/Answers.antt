use Rattle.std.proofs.Common.{◌+◌, length, sym, ap, ◌∙◌, arith}
use Rattle.version_chain.specs.Chains.{listed}
use Rattle.version_store.specs.Tied.{versions_in}
use Rattle.version_store.specs.laws.Content.{content_cut}
use Rattle.version_store.proofs.TiedLemmas.{row_in, not_placed, cut_row, tied_cut}
use Rattle.version_store.proofs.CellLemmas.{cells_in}
use Rattle.version_store.proofs.NotedLemmas.{noted_cut}
use Rattle.version_store.proofs.store.KeyedStore.cut_key.Goals as goal

pub invariant_of-self : goal.invariant_of-self
invariant_of-self c =
    let s = c.self.inside in
    let at = rw c.in-Some.is at c.get.ensures.found in
    (tied_cut s.chains c.cut.new.self s.tree.pairs s.present c.in-Some.id.now c.args.horizon c.args.key.now c.self.invariant.0 at c.cut.ensures.chains, c.self.invariant.1, noted_cut s.cut s.recent.stamps (versions_in s.chains s.tree.pairs) _ c.args.key.now c.args.horizon c.self.invariant.2 (cut_row s.chains c.cut.new.self s.tree.pairs s.present c.in-Some.id.now c.args.horizon c.args.key.now c.self.invariant.0 at c.cut.ensures.chains))

pub unreachable-requires : goal.unreachable-requires
unreachable-requires c =
    let s = c.self.inside in
    let at = rw c.in-None.is at c.get.ensures.found in
    not_placed s.chains s.tree.pairs c.args.key.now c.self.invariant.0.sorted at (rw (← c.self.view_is) at c.requires.placed)

pub returns-clause-versions : goal.returns-clause-versions
returns-clause-versions c =
    let s = c.self.inside in
    let at = rw c.in-Some.is at c.get.ensures.found in
    rw (← c.self.view_is) (cut_row s.chains c.cut.new.self s.tree.pairs s.present c.in-Some.id.now c.args.horizon c.args.key.now c.self.invariant.0 at c.cut.ensures.chains)

pub returns-clause-count : goal.returns-clause-count
returns-clause-count c =
    let s = c.self.inside in
    let at = rw c.in-Some.is at c.get.ensures.found in
    let row = row_in s.chains s.tree.pairs c.args.key.now c.in-Some.id.now c.self.invariant.0.sorted at in
    rw (← c.self.view_is, row) (ap (λ o. c.cut.result + length (listed o)) (sym c.cut.ensures.chains.changed) ∙ c.cut.ensures.count)

pub returns-clause-content : goal.returns-clause-content
returns-clause-content c = λ n le.
    let s = c.self.inside in
    let at = rw c.in-Some.is at c.get.ensures.found in
    let same = cut_row s.chains c.cut.new.self s.tree.pairs s.present c.in-Some.id.now c.args.horizon c.args.key.now c.self.invariant.0 at c.cut.ensures.chains in
    rw (← c.self.view_is, same) (content_cut (versions_in s.chains s.tree.pairs) c.args.key.now c.args.horizon n le)

pub returns-clause-cells : goal.returns-clause-cells
returns-clause-cells c =
    let s = c.self.inside in
    let at = rw c.in-Some.is at c.get.ensures.found in
    let was = cells_in s.chains s.tree.pairs c.args.key.now c.in-Some.id.now c.self.invariant.0.sorted at in
    let is = cells_in c.cut.new.self s.tree.pairs c.args.key.now c.in-Some.id.now c.self.invariant.0.sorted at in
    rw (← c.self.view_is) (omega (arith, was, is, c.cut.ensures.spare))
