use Rattle.std.proofs.Common.{◌≡◌, List, sym, ap, subst, ◌∙◌}
use Rattle.std.specs.FinMap as finmap
use Rattle.collation.specs.Reference.{Resource}
use Rattle.lock_trie.specs.Held.{AreHeld, HasNoShorter}
use Rattle.lock_trie.proofs.Holding.{Jobs}
use Rattle.lock_trie.proofs.Copying.{with_all, all_copied}
use Rattle.lock_trie.proofs.trie.LockTrie.copy.Goals as goal

pub loop-name-init : goal.loop-name-init
loop-name-init c = record {
  can = tt;
  finite = tt;
  all =
      ap (λ (es : List (Resource × Jobs)). with_all es c.new-map.result) (c.into_iter-name-iterator.ensures.into_iter_gives ∙ c.iter-name-items.ensures)
      ∙ ap (with_all (finmap.entries c.self.inside.map)) c.new-map.ensures ∙ all_copied c.self.inside.map ∙ c.self.view_is;
}

pub invariant_of-result : goal.invariant_of-result
invariant_of-result c =
    let same : c.loop-name.map ≡ c.args.self.now = sym (ap (λ (es : List (Resource × Jobs)). with_all es c.loop-name.map) c.in-None.ensures.steps.0) ∙ c.loop-name.invariant.all in
    (subst AreHeld (c.self.view_is ∙ sym same) c.self.invariant.0, subst (λ m. HasNoShorter m c.self.inside.least) (c.self.view_is ∙ sym same) c.self.invariant.1)
