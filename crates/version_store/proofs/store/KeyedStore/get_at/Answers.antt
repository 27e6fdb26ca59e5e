use Rattle.std.proofs.Common.{◌∙◌}
use Rattle.version_store.proofs.TiedLemmas.{value_in, no_value_in}
use Rattle.version_store.proofs.store.KeyedStore.get_at.Goals as goal

pub returns-in-Some : goal.returns-in-Some
returns-in-Some c =
    let s = c.self.inside in
    let at = rw c.in-Some.is at c.get.ensures.found in
    c.at.ensures ∙ rw (← c.self.view_is) (value_in s.chains s.tree.pairs c.args.key.now c.in-Some.id.now c.args.stamp c.self.invariant.0.sorted at)

pub returns-in-None : goal.returns-in-None
returns-in-None c =
    let s = c.self.inside in
    let at = rw c.in-None.is at c.get.ensures.found in
    rw (← c.self.view_is) (no_value_in s.chains s.tree.pairs c.args.key.now c.args.stamp c.self.invariant.0.sorted at)
