use Rattle.std.proofs.Common.{not, subst, ◌∙◌, ap}
use Rattle.std.specs.FinMap.{is_sorted}
use Rattle.collation.specs.Order.{ref_cmp}
use Rattle.version_store.specs.Versions.{content_at}
use Rattle.version_store.specs.Tied.{seen_to}
use Rattle.globals.specs.Cuts.{stands_before, entries_from, up_to, IsRun}
use Rattle.version_store.proofs.SeekLemmas.{open_in, open_filter, sorted_filter, seen_between}
use Rattle.version_store.proofs.store.KeyedStore.gather_at.Goals as goal

pub gather_valued-requires : goal.gather_valued-requires
gather_valued-requires c =
    let s = c.self.inside in
    record {
      some = c.requires.some;
      few = c.requires.few;
      opened = rw c.from-walk.ensures (open_filter s.chains (λ p. not (stands_before c.args.cut p.0)) s.tree.pairs (open_in s.chains s.tree.pairs s.present c.self.invariant.0));
      rises = ap (is_sorted ref_cmp) c.from-walk.ensures ∙ sorted_filter (λ x. not (stands_before c.args.cut x)) s.tree.pairs c.self.invariant.0.sorted;
    }

pub returns : goal.returns
returns c =
    let s = c.self.inside in
    subst (IsRun c.args.most c.gather_valued.result)
    (ap (λ ps. seen_to c.args.end c.args.stamp s.chains ps) c.from-walk.ensures
    ∙ seen_between c.args.cut c.args.end s.chains s.tree.pairs c.args.stamp c.self.invariant.0.sorted
    ∙ ap (λ v. entries_from c.args.cut (up_to c.args.end (content_at v.versions c.args.stamp))) c.self.view_is) c.gather_valued.ensures
