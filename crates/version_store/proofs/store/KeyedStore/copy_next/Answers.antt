use Rattle.version_store.proofs.TurnLemmas.{turn_unmarked, turn_marked, on_ok}
use Rattle.version_store.proofs.store.KeyedStore.copy_next.Goals as goal

pub returns-in-None : goal.returns-in-None
returns-in-None c =
    let s = c.self.inside in
    rw (← c.self.view_is, c.in-None.is) (on_ok c.copy_keys.result (turn_unmarked c.args.limit s.chains s.tree.pairs _ _ c.self.invariant.0.sorted c.requires) (rw c.iter.ensures at c.copy_keys.ensures))

pub returns-in_ok-copy_keys-in-Some : goal.returns-in_ok-copy_keys-in-Some
returns-in_ok-copy_keys-in-Some c =
    let s = c.self.inside in
    let first = rw c.from.ensures at c.in_ok-copy_keys-in-Some.ensures in
    let second = rw c.iter-in-Some.ensures at c.copy_keys_before.ensures in
    rw (← c.self.view_is, c.in-Some.is) (on_ok c.copy_keys_before.result (turn_marked c.in-Some.mark c.args.limit s.chains s.tree.pairs _ _ _ c.self.invariant.0.sorted c.requires first) second)
