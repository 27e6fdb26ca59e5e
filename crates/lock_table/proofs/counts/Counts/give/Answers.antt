use Rattle.std.proofs.Common.{sym, ap, subst, ◌∙◌}
use Rattle.std.specs.FinMap as finmap
use Rattle.lock_name.specs.Locks.{count_of}
use Rattle.lock_trie.specs.Held.{held_count}
use Rattle.lock_trie.specs.laws.Conflicts.{AreThere}
use Rattle.lock_table.proofs.Moving.{Sinking, entries_there, sinking_first, sinking_next, given_to, gives, gives_next, given_all}
use Rattle.lock_table.proofs.counts.Counts.give.Goals as goal

pub loop-name-init : goal.loop-name-init
loop-name-init c = record {
  can = tt;
  finite = tt;
  there = subst (AreThere c.args.others.now) (sym (c.into_iter-name-iterator.ensures.into_iter_gives ∙ c.iter-name-items.ensures ∙ ap finmap.entries c.others.view_is)) (entries_there c.args.others.now);
  sinking = subst (Sinking (count_of c.args.self.now) (count_of c.args.self.now) (given_to (held_count c.args.trie.now c.args.job) c.args.others.now) c.args.others.now) (sym (c.into_iter-name-iterator.ensures.into_iter_gives ∙ c.iter-name-items.ensures ∙ ap finmap.entries c.others.view_is)) (sinking_first (count_of c.args.self.now) (given_to (held_count c.args.trie.now c.args.job) c.args.others.now) c.args.others.now);
}

pub loop-name-preserved : goal.loop-name-preserved
loop-name-preserved c = record {
  can = tt;
  finite = tt;
  there = gives_next c.args.others.now (c.in-Some.name.now, c.in-Some.count.now) c.next.new.self c.loop-name.name-iterator c.in-Some.ensures.steps c.loop-name.invariant.there;
  sinking = sinking_next (count_of c.args.self.now) (count_of c.loop-name.self) (count_of c.lower.new.self) (given_to (held_count c.args.trie.now c.args.job) c.args.others.now) c.args.others.now (c.in-Some.name.now, c.in-Some.count.now) c.next.new.self c.loop-name.name-iterator
      c.saturating_sub.result c.in-Some.ensures.steps
      (gives (held_count c.args.trie.now c.args.job) c.args.others.now (c.in-Some.name.now, c.in-Some.count.now) c.next.new.self c.loop-name.name-iterator c.count.result c.saturating_sub.result c.in-Some.ensures.steps c.loop-name.invariant.there c.count.ensures.count c.saturating_sub.ensures)
      c.lower.ensures c.loop-name.invariant.sinking;
}

pub returns : goal.returns
returns c = given_all (held_count c.args.trie.now c.args.job) (count_of c.args.self.now) (count_of c.loop-name.self) c.args.others.now c.loop-name.name-iterator c.requires c.in-None.ensures.steps.0 c.loop-name.invariant.sinking
