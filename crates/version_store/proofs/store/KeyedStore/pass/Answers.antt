use Rattle.std.proofs.Common.{◌<◌, arith}
use Rattle.version_store.specs.Tied.{versions_in}
use Rattle.version_store.proofs.TiedLemmas.{tied_later}
use Rattle.version_store.proofs.NotedLemmas.{noted_grown}
use Rattle.version_store.proofs.store.KeyedStore.pass.Goals as goal

pub invariant_of-self : goal.invariant_of-self
invariant_of-self c =
    let s = c.self.inside in
    let later : s.present < c.args.stamp = rw (← c.self.view_is) at c.requires.stamp in
    let low = c.self.invariant.1 in
    (tied_later s.chains s.tree.pairs s.present c.args.stamp c.self.invariant.0 (omega (arith, later)), omega (arith, later, low, c.requires.horizon, c.max-self-inside.ensures), noted_grown s.cut _ s.recent.stamps s.recent.stamps (versions_in s.chains s.tree.pairs) c.self.invariant.2 (omega (arith, c.max-self-inside.ensures)) (λ r. omega arith))
