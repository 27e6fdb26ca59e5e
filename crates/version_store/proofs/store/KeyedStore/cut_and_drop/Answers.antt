use Rattle.std.proofs.Common.{arith}
use Rattle.version_store.specs.Tied.{versions_in}
use Rattle.version_store.proofs.TiedLemmas.{not_placed, cut_row, versions_without}
use Rattle.version_store.proofs.DropLemmas.{content_tidied, count_left, none_left, one_left, tied_left, tied_gone, versions_gone, versions_kept}
use Rattle.version_store.proofs.CellLemmas.{cells_in, no_cells_left}
use Rattle.version_store.proofs.NotedLemmas.{noted_cut, noted_out}
use Rattle.version_store.proofs.store.KeyedStore.cut_and_drop.Goals as goal

pub invariant_of-self : goal.invariant_of-self
invariant_of-self c =
    let s = c.self.inside in
    let at = rw c.in-Some.is at c.get.ensures.found in
    (tied_left s.chains c.cut-count.new.self s.tree.pairs s.present c.in-Some.id.now c.args.horizon c.args.key.now c.self.invariant.0 at c.cut-count.ensures.chains, c.self.invariant.1, noted_cut s.cut s.recent.stamps (versions_in s.chains s.tree.pairs) _ c.args.key.now c.args.horizon c.self.invariant.2 (cut_row s.chains c.cut-count.new.self s.tree.pairs s.present c.in-Some.id.now c.args.horizon c.args.key.now c.self.invariant.0 at c.cut-count.ensures.chains))

pub invariant_of-self-in-None-newest : goal.invariant_of-self-in-None-newest
invariant_of-self-in-None-newest c =
    let s = c.self.inside in
    let at = rw c.in-Some.is at c.get.ensures.found in
    rw c.remove.ensures.pairs (tied_gone s.chains c.cut-count.new.self s.tree.pairs s.present c.in-Some.id.now c.args.horizon c.args.key.now c.self.invariant.0 at c.cut-count.ensures.chains c.close.new.self c.close.ensures.chains, c.self.invariant.1, noted_out s.cut s.recent.stamps (versions_in c.cut-count.new.self s.tree.pairs) _ c.args.key.now (noted_cut s.cut s.recent.stamps (versions_in s.chains s.tree.pairs) _ c.args.key.now c.args.horizon c.self.invariant.2 (cut_row s.chains c.cut-count.new.self s.tree.pairs s.present c.in-Some.id.now c.args.horizon c.args.key.now c.self.invariant.0 at c.cut-count.ensures.chains)) (versions_without c.cut-count.new.self c.close.new.self s.tree.pairs s.present c.in-Some.id.now c.args.key.now (tied_left s.chains c.cut-count.new.self s.tree.pairs s.present c.in-Some.id.now c.args.horizon c.args.key.now c.self.invariant.0 at c.cut-count.ensures.chains) at c.close.ensures.chains))

pub unreachable-requires : goal.unreachable-requires
unreachable-requires c =
    let s = c.self.inside in
    let at = rw c.in-None.is at c.get.ensures.found in
    not_placed s.chains s.tree.pairs c.args.key.now c.self.invariant.0.sorted at (rw (← c.self.view_is) at c.requires.placed)

pub returns-in-Some-newest-clause-versions : goal.returns-in-Some-newest-clause-versions
returns-in-Some-newest-clause-versions c =
    let s = c.self.inside in
    let at = rw c.in-Some.is at c.get.ensures.found in
    let some = rw c.in-Some-newest.is at c.newest.ensures.newest in
    rw (← c.self.view_is) (versions_kept s.chains c.cut-count.new.self s.tree.pairs s.present c.in-Some.id.now c.args.horizon c.args.key.now c.self.invariant.0 at c.cut-count.ensures.chains _ some)

pub returns-in-Some-newest-clause-count : goal.returns-in-Some-newest-clause-count
returns-in-Some-newest-clause-count c =
    let s = c.self.inside in
    let at = rw c.in-Some.is at c.get.ensures.found in
    rw (← c.self.view_is) (count_left s.chains c.cut-count.new.self s.tree.pairs s.present c.in-Some.id.now c.args.horizon c.args.key.now c.self.invariant.0 at c.cut-count.ensures.chains _ c.cut-count.ensures.count)

pub returns-in-Some-newest-clause-bare : goal.returns-in-Some-newest-clause-bare
returns-in-Some-newest-clause-bare c =
    let s = c.self.inside in
    let at = rw c.in-Some.is at c.get.ensures.found in
    let some = rw c.in-Some-newest.is at c.newest.ensures.newest in
    rw (← c.self.view_is) (one_left s.chains c.cut-count.new.self s.tree.pairs s.present c.in-Some.id.now c.args.horizon c.args.key.now c.self.invariant.0 at c.cut-count.ensures.chains _ some)

pub returns-in-Some-newest-clause-content : goal.returns-in-Some-newest-clause-content
returns-in-Some-newest-clause-content c =
    let s = c.self.inside in
    let at = rw c.in-Some.is at c.get.ensures.found in
    let some = rw c.in-Some-newest.is at c.newest.ensures.newest in
    let same = versions_kept s.chains c.cut-count.new.self s.tree.pairs s.present c.in-Some.id.now c.args.horizon c.args.key.now c.self.invariant.0 at c.cut-count.ensures.chains _ some in
    rw (← c.self.view_is, same) (λ n le. content_tidied c.args.horizon n c.args.key.now (versions_in s.chains s.tree.pairs) le)

pub returns-in-None-newest-clause-versions : goal.returns-in-None-newest-clause-versions
returns-in-None-newest-clause-versions c =
    let s = c.self.inside in
    let at = rw c.in-Some.is at c.get.ensures.found in
    let none = rw c.in-None-newest.is at c.newest.ensures.newest in
    rw (← c.self.view_is, c.remove.ensures.pairs) (versions_gone s.chains c.cut-count.new.self s.tree.pairs s.present c.in-Some.id.now c.args.horizon c.args.key.now c.self.invariant.0 at c.cut-count.ensures.chains c.close.new.self c.close.ensures.chains none)

pub returns-in-None-newest-clause-count : goal.returns-in-None-newest-clause-count
returns-in-None-newest-clause-count c =
    let s = c.self.inside in
    let at = rw c.in-Some.is at c.get.ensures.found in
    rw (← c.self.view_is) (count_left s.chains c.cut-count.new.self s.tree.pairs s.present c.in-Some.id.now c.args.horizon c.args.key.now c.self.invariant.0 at c.cut-count.ensures.chains _ c.cut-count.ensures.count)

pub returns-in-None-newest-clause-bare : goal.returns-in-None-newest-clause-bare
returns-in-None-newest-clause-bare c =
    let s = c.self.inside in
    let at = rw c.in-Some.is at c.get.ensures.found in
    let none = rw c.in-None-newest.is at c.newest.ensures.newest in
    rw (← c.self.view_is) (none_left s.chains c.cut-count.new.self s.tree.pairs s.present c.in-Some.id.now c.args.horizon c.args.key.now c.self.invariant.0 at c.cut-count.ensures.chains none)

pub returns-in-None-newest-clause-content : goal.returns-in-None-newest-clause-content
returns-in-None-newest-clause-content c =
    let s = c.self.inside in
    let at = rw c.in-Some.is at c.get.ensures.found in
    let none = rw c.in-None-newest.is at c.newest.ensures.newest in
    let same = versions_gone s.chains c.cut-count.new.self s.tree.pairs s.present c.in-Some.id.now c.args.horizon c.args.key.now c.self.invariant.0 at c.cut-count.ensures.chains c.close.new.self c.close.ensures.chains none in
    rw (← c.self.view_is, c.remove.ensures.pairs, same) (λ n le. content_tidied c.args.horizon n c.args.key.now (versions_in s.chains s.tree.pairs) le)

pub returns-in-Some-newest-clause-cells : goal.returns-in-Some-newest-clause-cells
returns-in-Some-newest-clause-cells c =
    let s = c.self.inside in
    let at = rw c.in-Some.is at c.get.ensures.found in
    let was = cells_in s.chains s.tree.pairs c.args.key.now c.in-Some.id.now c.self.invariant.0.sorted at in
    let is = cells_in c.cut-count.new.self s.tree.pairs c.args.key.now c.in-Some.id.now c.self.invariant.0.sorted at in
    rw (← c.self.view_is) (omega (arith, was, is, c.cut-count.ensures.spare))

pub returns-in-None-newest-clause-cells : goal.returns-in-None-newest-clause-cells
returns-in-None-newest-clause-cells c =
    let s = c.self.inside in
    let at = rw c.in-Some.is at c.get.ensures.found in
    let tied = tied_left s.chains c.cut-count.new.self s.tree.pairs s.present c.in-Some.id.now c.args.horizon c.args.key.now c.self.invariant.0 at c.cut-count.ensures.chains in
    let was = cells_in s.chains s.tree.pairs c.args.key.now c.in-Some.id.now c.self.invariant.0.sorted at in
    let gone = no_cells_left c.cut-count.new.self c.close.new.self s.tree.pairs s.present c.in-Some.id.now c.args.key.now tied at c.close.ensures.chains in
    rw (← c.self.view_is, c.remove.ensures.pairs) (omega (arith, was, gone, c.cut-count.ensures.spare, c.close.ensures.spare))
