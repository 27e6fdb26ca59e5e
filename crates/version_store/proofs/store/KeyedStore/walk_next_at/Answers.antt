use Rattle.std.proofs.Common.{not, ◌∙◌, ap}
use Rattle.std.specs.FinMap.{is_sorted}
use Rattle.collation.specs.Order.{ref_cmp}
use Rattle.globals.specs.Cuts.{stands_before}
use Rattle.version_store.proofs.SeekLemmas.{open_in, open_filter, sorted_filter, first_between}
use Rattle.version_store.proofs.store.KeyedStore.walk_next_at.Goals as goal

pub first_valued-requires : goal.first_valued-requires
first_valued-requires c =
    let s = c.self.inside in
    record {
      opened = rw c.from.ensures (open_filter s.chains (λ p. not (stands_before c.args.cut p.0)) s.tree.pairs (open_in s.chains s.tree.pairs s.present c.self.invariant.0));
      rises = ap (is_sorted ref_cmp) c.from.ensures ∙ sorted_filter (λ x. not (stands_before c.args.cut x)) s.tree.pairs c.self.invariant.0.sorted;
    }

pub returns : goal.returns
returns c =
    let s = c.self.inside in
    c.first_valued.ensures ∙ rw (c.from.ensures, ← c.self.view_is) (first_between c.args.cut c.args.end s.chains s.tree.pairs c.args.stamp c.self.invariant.0.sorted)
