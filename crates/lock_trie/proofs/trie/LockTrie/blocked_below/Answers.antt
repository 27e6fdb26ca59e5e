use Rattle.std.proofs.Common.{ap, subst, sym, ◌∙◌}
use Rattle.lock_trie.specs.Held.{AreHeld}
use Rattle.lock_trie.proofs.Conflicting.{front_other, front_ends, front_found, below_some, below_none, counted_below, where_below}
use Rattle.lock_trie.proofs.trie.LockTrie.blocked_below.Goals as goal

pub returns-then-not-is_at_or_under-clause-none : goal.returns-then-not-is_at_or_under-clause-none
returns-then-not-is_at_or_under-clause-none c _ w =
    below_none c.args.self.now c.args.name.now c.args.job
    (sym c.loop-held.invariant.rest ∙ front_ends c.args.name.now c.args.job c.loop-held.held-iterator c.next.new.self (c.in-Some.held.now, c.in-Some.holders.now) c.is_at_or_under.result c.in-Some.ensures.steps c.is_at_or_under.ensures c.if-not-is_at_or_under.true)
    (where_below c.args.self.now c.args.job c.args.name.now w)

pub returns-then-has_other-clause-some : goal.returns-then-has_other-clause-some
returns-then-has_other-clause-some c _ =
    counted_below c.args.self.now c.args.job c.args.name.now (subst AreHeld c.self.view_is c.self.invariant.0)
    (below_some c.args.self.now c.args.name.now c.args.job
    (sym c.loop-held.invariant.rest
    ∙ front_found c.args.name.now c.args.job c.loop-held.held-iterator c.next.new.self (c.in-Some.held.now, c.in-Some.holders.now) c.is_at_or_under.result c.has_other.result c.in-Some.ensures.steps c.is_at_or_under.ensures c.if-not-is_at_or_under.false
    c.has_other.ensures c.if-has_other.true))

pub returns-clause-none : goal.returns-clause-none
returns-clause-none c _ w =
    below_none c.args.self.now c.args.name.now c.args.job (sym c.loop-held.invariant.rest ∙ ap (front_other c.args.name.now c.args.job) c.in-None.ensures.steps.0)
    (where_below c.args.self.now c.args.job c.args.name.now w)
