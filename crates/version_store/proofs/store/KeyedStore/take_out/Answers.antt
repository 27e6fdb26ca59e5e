use Rattle.std.proofs.Common.{arith}
use Rattle.version_store.specs.Tied.{versions_in}
use Rattle.version_store.proofs.TiedLemmas.{not_placed, tied_without, versions_without}
use Rattle.version_store.proofs.CellLemmas.{cells_in, no_cells_left}
use Rattle.version_store.proofs.NotedLemmas.{noted_out}
use Rattle.version_store.proofs.store.KeyedStore.take_out.Goals as goal

pub unreachable-requires : goal.unreachable-requires
unreachable-requires c =
    let s = c.self.inside in
    let at = rw c.in-None.is at c.remove.ensures.value in
    not_placed s.chains s.tree.pairs c.args.key.now c.self.invariant.0.sorted at (rw (← c.self.view_is) at c.requires.placed)

pub invariant_of-self : goal.invariant_of-self
invariant_of-self c =
    let s = c.self.inside in
    let at = rw c.in-Some.is at c.remove.ensures.value in
    rw c.remove.ensures.pairs (tied_without s.chains c.close.new.self s.tree.pairs s.present c.in-Some.id c.args.key.now c.self.invariant.0 at c.close.ensures.chains, c.self.invariant.1, noted_out s.cut s.recent.stamps (versions_in s.chains s.tree.pairs) _ c.args.key.now c.self.invariant.2 (versions_without s.chains c.close.new.self s.tree.pairs s.present c.in-Some.id c.args.key.now c.self.invariant.0 at c.close.ensures.chains))

pub returns-clause-versions : goal.returns-clause-versions
returns-clause-versions c =
    let s = c.self.inside in
    let at = rw c.in-Some.is at c.remove.ensures.value in
    rw (← c.self.view_is, c.remove.ensures.pairs) (versions_without s.chains c.close.new.self s.tree.pairs s.present c.in-Some.id c.args.key.now c.self.invariant.0 at c.close.ensures.chains)

pub returns-clause-cells : goal.returns-clause-cells
returns-clause-cells c =
    let s = c.self.inside in
    let at = rw c.in-Some.is at c.remove.ensures.value in
    let was = cells_in s.chains s.tree.pairs c.args.key.now c.in-Some.id c.self.invariant.0.sorted at in
    let gone = no_cells_left s.chains c.close.new.self s.tree.pairs s.present c.in-Some.id c.args.key.now c.self.invariant.0 at c.close.ensures.chains in
    rw (← c.self.view_is, c.remove.ensures.pairs) (omega (arith, was, gone, c.close.ensures.spare))
