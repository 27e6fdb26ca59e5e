use Rattle.version_store.proofs.TiedLemmas.{above_in}
use Rattle.version_store.proofs.store.KeyedStore.latest.Goals as goal

pub returns : goal.returns
returns c =
    let s = c.self.inside in
    rw (← c.self.view_is) (above_in s.chains s.tree.pairs c.latest.result c.self.invariant.0.sorted (λ q id at. c.latest.ensures id))
