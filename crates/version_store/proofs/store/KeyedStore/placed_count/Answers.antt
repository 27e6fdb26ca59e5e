use Rattle.std.proofs.Common.{sym, ◌∙◌}
use Rattle.version_store.proofs.TurnLemmas.{len_in}
use Rattle.version_store.proofs.store.KeyedStore.placed_count.Goals as goal

pub returns : goal.returns
returns c = rw (← c.self.view_is) (c.len.ensures.len ∙ sym (len_in c.self.inside.chains c.self.inside.tree.pairs c.self.invariant.0.sorted))
