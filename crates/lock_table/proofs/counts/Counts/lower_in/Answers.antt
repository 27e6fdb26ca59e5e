use Rattle.std.proofs.Common.{refl, sym, ap, subst, ◌∙◌}
use Rattle.std.specs.FinMap as finmap
use Rattle.lock_name.specs.Locks.{count_of}
use Rattle.lock_trie.specs.Held.{held_count}
use Rattle.lock_table.proofs.Moving.{Sinking, sinking_first, sinking_next, sunk}
use Rattle.lock_table.proofs.Trie.{at_job, at_other}
use Rattle.lock_table.proofs.counts.Counts.lower_in.Goals as goal

pub loop-name-init : goal.loop-name-init
loop-name-init c = record {
  can = tt;
  finite = tt;
  others = λ other x apart. refl;
  sinking = subst (Sinking (held_count c.args.trie.now c.args.job) (held_count c.args.trie.now c.args.job) (count_of c.args.held.now) c.args.self.now)
      (sym (c.into_iter-name-iterator.ensures.into_iter_gives ∙ c.iter-name-items.ensures ∙ ap finmap.entries c.self.view_is))
      (sinking_first (held_count c.args.trie.now c.args.job) (count_of c.args.held.now) c.args.self.now);
}

pub loop-name-preserved : goal.loop-name-preserved
loop-name-preserved c = record {
  can = tt;
  finite = tt;
  others = at_other c.args.trie.now c.loop-name.trie c.lower.new.trie c.args.job c.in-Some.name.now _ c.lower.ensures c.loop-name.invariant.others;
  sinking = sinking_next (held_count c.args.trie.now c.args.job) (held_count c.loop-name.trie c.args.job) (held_count c.lower.new.trie c.args.job) (count_of c.args.held.now) c.args.self.now (c.in-Some.name.now, c.in-Some.field-0-1.now) c.next.new.self c.loop-name.name-iterator
      c.count.result c.in-Some.ensures.steps c.count.ensures.count (at_job c.loop-name.trie c.lower.new.trie c.args.job c.in-Some.name.now _ c.lower.ensures) c.loop-name.invariant.sinking;
}

pub returns-clause-lowered : goal.returns-clause-lowered
returns-clause-lowered c = let s = c.loop-name.invariant.sinking in s.lowered

pub returns-clause-reached : goal.returns-clause-reached
returns-clause-reached c = sunk (held_count c.args.trie.now c.args.job) (held_count c.loop-name.trie c.args.job) (count_of c.args.held.now) c.args.self.now c.loop-name.name-iterator c.in-None.ensures.steps.0 c.loop-name.invariant.sinking
