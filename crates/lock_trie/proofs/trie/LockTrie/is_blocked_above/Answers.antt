use Rattle.std.proofs.Common.{◌≤◌, ap, sym, subst, ◌∙◌}
use Rattle.lock_trie.specs.Names.{is_at_or_under, HaveSameAbove}
use Rattle.lock_trie.specs.Held.{Held}
use Rattle.lock_trie.proofs.Conflicting.{none_above, none_further, above_found}
use Rattle.lock_trie.proofs.trie.LockTrie.is_blocked_above.Goals as goal

pub returns-then-not-begins-clause-none : goal.returns-then-not-begins-clause-none
returns-then-not-begins-clause-none c _ =
    none_further c.args.self.now c.args.name.now c.in-Some.before.now c.args.job c.loop-i.i (subst (λ (m : Held). HaveSameAbove m c.args.name.now c.in-Some.before.now) c.self.view_is c.in-Some.ensures.some)
    (ap (λ b. is_at_or_under b c.in-Some.before.now) (sym c.of-beginning.ensures) ∙ sym c.begins.ensures ∙ c.if-not-begins.true) c.loop-i.invariant

pub returns-in-loop-i-clause-some : goal.returns-in-loop-i-clause-some
returns-in-loop-i-clause-some c _ =
    above_found c.args.self.now c.self.inside.map c.args.name.now c.of-beginning.result c.args.job c.loop-i.i c.in-Some-at_beginning.holders.now c.has_other.result c.self.view_is c.of-beginning.ensures
    (rw c.in-Some-at_beginning.is at c.at_beginning.ensures) c.has_other.ensures c.if-has_other.true

pub returns-clause-none : goal.returns-clause-none
returns-clause-none c _ = none_above c.args.self.now c.args.name.now c.args.job c.loop-i.i (subst (λ n. n ≤ c.loop-i.i) c.depth-len.ensures c.loop-i-test.false) c.loop-i.invariant
