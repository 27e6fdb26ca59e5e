use Rattle.std.proofs.Common.{not, sym, subst}
use Rattle.globals.specs.Cuts.{stands_before}
use Rattle.version_store.specs.Versions.{IsNewestIn}
use Rattle.version_store.proofs.NewestLemmas.{newest_is}
use Rattle.version_store.proofs.SeekLemmas.{open_in, open_filter, sorted_filter}
use Rattle.version_store.proofs.RangeLemmas.{range_start}
use Rattle.version_store.proofs.store.KeyedStore.newest_in.Goals as goal

pub newest_before-requires-clause-opened : goal.newest_before-requires-clause-opened
newest_before-requires-clause-opened c =
    let s = c.self.inside in
    rw c.from-walk.ensures (open_filter s.chains (λ p. not (stands_before c.args.low p.0)) s.tree.pairs (open_in s.chains s.tree.pairs s.present c.self.invariant.0))

pub newest_before-requires-clause-sorted : goal.newest_before-requires-clause-sorted
newest_before-requires-clause-sorted c =
    let s = c.self.inside in
    rw c.from-walk.ensures (sorted_filter (λ x. not (stands_before c.args.low x)) s.tree.pairs c.self.invariant.0.sorted)

pub returns-clause-stamp : goal.returns-clause-stamp
returns-clause-stamp c =
    let s = c.self.inside in
    rw (c.newest_before.ensures, c.from-walk.ensures, ← c.self.view_is) (range_start c.args.low c.args.high s.chains s.tree.pairs c.self.invariant.0.sorted)

pub returns-clause-newest : goal.returns-clause-newest
returns-clause-newest c = subst (IsNewestIn c.args.low c.args.high c.args.self.now.versions) (sym (returns-clause-stamp c)) (newest_is c.args.low c.args.high c.args.self.now.versions)
