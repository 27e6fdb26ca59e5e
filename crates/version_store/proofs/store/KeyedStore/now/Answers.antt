use Rattle.version_store.proofs.TiedLemmas.{low_in, falls_in, nothing_in}
use Rattle.version_store.proofs.store.KeyedStore.now.Goals as goal

pub returns-clause-settled : goal.returns-clause-settled
returns-clause-settled c = rw (← c.self.view_is) (low_in c.self.inside.chains c.self.inside.tree.pairs c.self.inside.present c.self.invariant.0)

pub returns-clause-falls : goal.returns-clause-falls
returns-clause-falls c = rw (← c.self.view_is) (falls_in c.self.inside.chains c.self.inside.tree.pairs c.self.inside.present c.self.invariant.0)

pub returns-clause-nothing : goal.returns-clause-nothing
returns-clause-nothing c = rw (← c.self.view_is) (nothing_in c.self.inside.chains c.self.inside.tree.pairs c.self.inside.present c.self.invariant.0)
