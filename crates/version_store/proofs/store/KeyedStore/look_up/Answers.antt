use Rattle.std.proofs.Common.{◌∙◌}
use Rattle.version_store.proofs.TiedLemmas.{placed_in}
use Rattle.version_store.proofs.store.KeyedStore.look_up.Goals as goal

pub returns : goal.returns
returns c =
    let s = c.self.inside in
    c.is_some.ensures ∙ rw (← c.self.view_is) (placed_in (λ v. v.now) c.look_up.result.0 s.chains s.tree.pairs c.args.key.now c.self.invariant.0.sorted c.look_up.ensures.found)
