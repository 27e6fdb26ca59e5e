use Rattle.std.proofs.Common.{refl}
use Rattle.std.specs.Prelude.{not, Some}
use Rattle.version_store.specs.Versions.{is_behind}
use Rattle.version_store.proofs.TurnLemmas.{on_ok}
use Rattle.version_store.proofs.SeekLemmas.{open_in, open_filter}
use Rattle.version_store.proofs.SeenLemmas.{seen_unmarked, seen_marked}
use Rattle.version_store.proofs.store.KeyedStore.see_next.Goals as goal

pub add_all-requires : goal.add_all-requires
add_all-requires c = let s = c.self.inside in rw c.iter.ensures (open_in s.chains s.tree.pairs s.present c.self.invariant.0)

pub add_all-requires-in-Some : goal.add_all-requires-in-Some
add_all-requires-in-Some c =
    let s = c.self.inside in
    rw c.from.ensures (open_filter s.chains (λ p. not (not (is_behind (Some c.in-Some.mark) p.0))) s.tree.pairs (open_in s.chains s.tree.pairs s.present c.self.invariant.0))

pub add_before-requires-clause-open : goal.add_before-requires-clause-open
add_before-requires-clause-open c = let s = c.self.inside in rw c.iter-in-Some.ensures (open_in s.chains s.tree.pairs s.present c.self.invariant.0)

pub returns-in-None : goal.returns-in-None
returns-in-None c =
    let s = c.self.inside in
    let seen = rw c.iter.ensures at c.add_all.ensures in
    rw (← c.self.view_is) (on_ok c.add_all.result (seen_unmarked s.chains s.tree.pairs c.args.limit _ _ _ _ _ _ _ c.self.invariant.0.sorted refl c.in-None.is c.requires.keys c.requires.visited c.requires.last) seen)

pub returns-in_ok-add_all-in-Some : goal.returns-in_ok-add_all-in-Some
returns-in_ok-add_all-in-Some c =
    let s = c.self.inside in
    let first = rw c.from.ensures at c.in_ok-add_all-in-Some.ensures in
    let others = rw c.iter-in-Some.ensures at c.add_before.ensures in
    rw (← c.self.view_is) (on_ok c.add_before.result (seen_marked s.chains s.tree.pairs c.args.limit _ c.in-Some.mark _ _ _ _ _ _ _ _ _ c.self.invariant.0.sorted refl c.in-Some.is c.requires.keys c.requires.visited c.requires.last first) others)
