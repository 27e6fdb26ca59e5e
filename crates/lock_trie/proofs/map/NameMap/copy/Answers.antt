use Rattle.std.proofs.Common.{sym, ap, ◌∙◌}
use Rattle.std.specs.FinMap as finmap
use Rattle.lock_trie.proofs.Copying.{with_all, all_copied}
use Rattle.lock_trie.proofs.map.NameMap.copy.Goals as goal

pub loop-name-init : goal.loop-name-init
loop-name-init g c = record {
  can = tt;
  finite = tt;
  all =
      ap (λ es. with_all es c.new-copy.result) (c.into_iter-name-iterator.ensures.into_iter_gives ∙ c.iter-name-items.ensures)
      ∙ ap (with_all (finmap.entries c.args.self.now)) c.new-copy.ensures ∙ all_copied c.args.self.now;
}

pub returns : goal.returns
returns g c = sym (ap (λ es. with_all es c.loop-name.copy) c.in-None.ensures.steps.0) ∙ c.loop-name.invariant.all
