use Rattle.std.proofs.Common.{refl, sym}
use Rattle.version_store.proofs.TiedLemmas.{none_in}
use Rattle.version_store.proofs.store.KeyedStore.place_beside.Goals as goal

pub returns-then-misses_beside-clause-missed : goal.returns-then-misses_beside-clause-missed
returns-then-misses_beside-clause-missed c = λ _.
    let s = c.self.inside in
    rw (← c.self.view_is) (none_in s.chains s.tree.pairs c.args.key.now c.self.invariant.0.sorted (sym (c.if-misses_beside.ensures.missed refl)))
