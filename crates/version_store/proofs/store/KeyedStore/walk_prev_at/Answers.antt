use Rattle.std.proofs.Common.{◌∙◌}
use Rattle.std.specs.Prelude.{filter}
use Rattle.globals.specs.Cuts.{stands_before}
use Rattle.version_store.proofs.SeekLemmas.{open_in, open_filter, open_reverse, last_between}
use Rattle.version_store.proofs.store.KeyedStore.walk_prev_at.Goals as goal

pub last_valued-requires : goal.last_valued-requires
last_valued-requires c =
    let s = c.self.inside in
    rw c.back_from.ensures (open_reverse s.chains (filter (λ p. stands_before c.args.cut p.0) s.tree.pairs) (open_filter s.chains (λ p. stands_before c.args.cut p.0) s.tree.pairs (open_in s.chains s.tree.pairs s.present c.self.invariant.0)))

pub returns : goal.returns
returns c =
    let s = c.self.inside in
    c.last_valued.ensures ∙ rw (c.back_from.ensures, ← c.self.view_is) (last_between c.args.cut c.args.floor s.chains s.tree.pairs c.args.stamp c.self.invariant.0.sorted)
