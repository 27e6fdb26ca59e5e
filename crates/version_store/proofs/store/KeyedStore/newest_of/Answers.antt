use Rattle.std.proofs.Common.{sym, ap, ◌∙◌}
use Rattle.version_chain.specs.Chains.{listed}
use Rattle.version_chain.specs.Versions.{newest_of}
use Rattle.version_store.proofs.TiedLemmas.{row_in, none_in}
use Rattle.version_store.proofs.store.KeyedStore.newest_of.Goals as goal

pub returns-in-Some : goal.returns-in-Some
returns-in-Some c =
    let s = c.self.inside in
    let at = rw c.in-Some.is at c.get.ensures.found in
    c.newest.ensures.newest ∙ rw (← c.self.view_is) (sym (ap newest_of (row_in s.chains s.tree.pairs c.args.key.now c.in-Some.id.now c.self.invariant.0.sorted at)))

pub returns-in-None : goal.returns-in-None
returns-in-None c =
    let s = c.self.inside in
    let at = rw c.in-None.is at c.get.ensures.found in
    rw (← c.self.view_is) (sym (ap (λ o. newest_of (listed o)) (none_in s.chains s.tree.pairs c.args.key.now c.self.invariant.0.sorted at)))
