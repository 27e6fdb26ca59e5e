use Rattle.version_store.proofs.SeekLemmas.{keys_walked}
use Rattle.version_store.proofs.store.KeyedStore.count_placed.Goals as goal

pub returns-clause-placed : goal.returns-clause-placed
returns-clause-placed c =
    let s = c.self.inside in
    rw (← c.self.view_is) (c.count_along.ensures.placed _ (rw c.from.ensures (keys_walked s.chains _ s.tree.pairs c.self.invariant.0.sorted)))
