use Rattle.std.proofs.Common.{subst, arith}
use Rattle.version_chain.specs.Versions.{IsAbove}
use Rattle.version_store.specs.Tied.{versions_in}
use Rattle.version_store.proofs.TiedLemmas.{row_in, not_placed, versions_without}
use Rattle.version_store.proofs.CutLemmas.{cut_at_once, tied_bare, versions_bare, versions_left}
use Rattle.version_store.proofs.CellLemmas.{cells_in, no_cells_left}
use Rattle.version_store.proofs.NotedLemmas.{noted_grown, noted_out, noted_pushed_and_cut}
use Rattle.version_store.proofs.store.KeyedStore.push_and_cut.Goals as goal

pub push_and_cut-requires-clause-newest : goal.push_and_cut-requires-clause-newest
push_and_cut-requires-clause-newest c =
    let s = c.self.inside in
    let at = rw c.in-Some.is at c.get.ensures.found in
    let newest = rw (← c.self.view_is) at c.requires.newest in
    subst (IsAbove c.args.stamp) (row_in s.chains s.tree.pairs c.args.key.now c.in-Some.id.now c.self.invariant.0.sorted at) newest

pub unreachable-requires : goal.unreachable-requires
unreachable-requires c =
    let s = c.self.inside in
    let at = rw c.in-None.is at c.get.ensures.found in
    not_placed s.chains s.tree.pairs c.args.key.now c.self.invariant.0.sorted at (rw (← c.self.view_is) at c.requires.placed)

pub invariant_of-self : goal.invariant_of-self
invariant_of-self c =
    let s = c.self.inside in
    let at = rw c.in-Some.is at c.get.ensures.found in
    let low = rw (← c.self.view_is) at c.requires.stamp in
    let newest = rw (← c.self.view_is) at c.requires.newest in
    let is = cut_at_once s.chains c.push_and_cut.new.self s.tree.pairs s.present c.in-Some.id.now c.args.stamp c.args.horizon c.args.key.now c.args.value c.self.invariant.0 at c.push_and_cut.ensures.chains c.requires.first low newest in
    (is.tied, c.self.invariant.1, noted_pushed_and_cut s.cut c.note.new.self.stamps (versions_in s.chains s.tree.pairs) _ c.args.stamp c.args.horizon c.args.key.now c.args.value (noted_grown s.cut s.cut s.recent.stamps c.note.new.self.stamps (versions_in s.chains s.tree.pairs) c.self.invariant.2 (omega arith) c.note.ensures.grows) c.note.ensures.noted is.versions)

pub invariant_of-self-in-None-newest : goal.invariant_of-self-in-None-newest
invariant_of-self-in-None-newest c =
    let s = c.self.inside in
    let at = rw c.in-Some.is at c.get.ensures.found in
    let low = rw (← c.self.view_is) at c.requires.stamp in
    let newest = rw (← c.self.view_is) at c.requires.newest in
    let is = cut_at_once s.chains c.push_and_cut.new.self s.tree.pairs s.present c.in-Some.id.now c.args.stamp c.args.horizon c.args.key.now c.args.value c.self.invariant.0 at c.push_and_cut.ensures.chains c.requires.first low newest in
    rw c.remove.ensures.pairs (tied_bare s.chains c.push_and_cut.new.self s.tree.pairs s.present c.in-Some.id.now c.args.stamp c.args.horizon c.args.key.now c.args.value is at c.close.new.self c.close.ensures.chains, c.self.invariant.1, noted_out s.cut c.note.new.self.stamps (versions_in c.push_and_cut.new.self s.tree.pairs) _ c.args.key.now (noted_pushed_and_cut s.cut c.note.new.self.stamps (versions_in s.chains s.tree.pairs) _ c.args.stamp c.args.horizon c.args.key.now c.args.value (noted_grown s.cut s.cut s.recent.stamps c.note.new.self.stamps (versions_in s.chains s.tree.pairs) c.self.invariant.2 (omega arith) c.note.ensures.grows) c.note.ensures.noted is.versions) (versions_without c.push_and_cut.new.self c.close.new.self s.tree.pairs s.present c.in-Some.id.now c.args.key.now is.tied at c.close.ensures.chains))

pub returns-in-Some-newest-clause-versions : goal.returns-in-Some-newest-clause-versions
returns-in-Some-newest-clause-versions c =
    let s = c.self.inside in
    let at = rw c.in-Some.is at c.get.ensures.found in
    let low = rw (← c.self.view_is) at c.requires.stamp in
    let newest = rw (← c.self.view_is) at c.requires.newest in
    let is = cut_at_once s.chains c.push_and_cut.new.self s.tree.pairs s.present c.in-Some.id.now c.args.stamp c.args.horizon c.args.key.now c.args.value c.self.invariant.0 at c.push_and_cut.ensures.chains c.requires.first low newest in
    let some = rw c.in-Some-newest.is at c.newest.ensures.newest in
    rw (← c.self.view_is) (versions_left s.chains c.push_and_cut.new.self s.tree.pairs s.present c.in-Some.id.now c.args.stamp c.args.horizon c.args.key.now c.args.value is at _ some)

pub returns-in-None-newest-clause-versions : goal.returns-in-None-newest-clause-versions
returns-in-None-newest-clause-versions c =
    let s = c.self.inside in
    let at = rw c.in-Some.is at c.get.ensures.found in
    let low = rw (← c.self.view_is) at c.requires.stamp in
    let newest = rw (← c.self.view_is) at c.requires.newest in
    let is = cut_at_once s.chains c.push_and_cut.new.self s.tree.pairs s.present c.in-Some.id.now c.args.stamp c.args.horizon c.args.key.now c.args.value c.self.invariant.0 at c.push_and_cut.ensures.chains c.requires.first low newest in
    let none = rw c.in-None-newest.is at c.newest.ensures.newest in
    rw (← c.self.view_is, c.remove.ensures.pairs) (versions_bare s.chains c.push_and_cut.new.self s.tree.pairs s.present c.in-Some.id.now c.args.stamp c.args.horizon c.args.key.now c.args.value is at c.close.new.self c.close.ensures.chains none)

pub returns-in-Some-newest-clause-cells : goal.returns-in-Some-newest-clause-cells
returns-in-Some-newest-clause-cells c =
    let s = c.self.inside in
    let at = rw c.in-Some.is at c.get.ensures.found in
    let was = cells_in s.chains s.tree.pairs c.args.key.now c.in-Some.id.now c.self.invariant.0.sorted at in
    let is = cells_in c.push_and_cut.new.self s.tree.pairs c.args.key.now c.in-Some.id.now c.self.invariant.0.sorted at in
    rw (← c.self.view_is) (omega (arith, was, is, c.push_and_cut.ensures.spare))

pub returns-in-None-newest-clause-cells : goal.returns-in-None-newest-clause-cells
returns-in-None-newest-clause-cells c =
    let s = c.self.inside in
    let at = rw c.in-Some.is at c.get.ensures.found in
    let low = rw (← c.self.view_is) at c.requires.stamp in
    let newest = rw (← c.self.view_is) at c.requires.newest in
    let is = cut_at_once s.chains c.push_and_cut.new.self s.tree.pairs s.present c.in-Some.id.now c.args.stamp c.args.horizon c.args.key.now c.args.value c.self.invariant.0 at c.push_and_cut.ensures.chains c.requires.first low newest in
    let tied = is.tied in
    let was = cells_in s.chains s.tree.pairs c.args.key.now c.in-Some.id.now c.self.invariant.0.sorted at in
    let gone = no_cells_left c.push_and_cut.new.self c.close.new.self s.tree.pairs s.present c.in-Some.id.now c.args.key.now tied at c.close.ensures.chains in
    rw (← c.self.view_is, c.remove.ensures.pairs) (omega (arith, was, gone, c.push_and_cut.ensures.spare, c.close.ensures.spare))
