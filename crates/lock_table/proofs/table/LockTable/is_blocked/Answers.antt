use Rattle.std.proofs.Common.{◌≡◌, true, false, sym, subst, ◌∙◌}
use Rattle.lock_table.specs.Tables.{RowsMatchTrie}
use Rattle.lock_table.proofs.Below.{by_another, by_none}
use Rattle.lock_table.proofs.Tables.{blocked_is}
use Rattle.lock_table.proofs.table.LockTable.is_blocked.Goals as goal

pub returns-then-is_blocked_below : goal.returns-then-is_blocked_below
returns-then-is_blocked_below c =
    let joined = subst (RowsMatchTrie c.self.inside.trie) c.self.view_is c.self.invariant in
    blocked_is c.self.inside.trie c.args.self.now c.args.job c.args.name.now c.is_blocked_below.result joined
    (by_another c.self.inside.trie c.args.self.now c.args.job c.args.name.now c.is_blocked_below.result joined c.is_blocked_below.ensures) (λ e. let clash : true ≡ false = sym c.if-is_blocked_below.true ∙ e in absurd (cc))

pub returns-else-is_blocked_below : goal.returns-else-is_blocked_below
returns-else-is_blocked_below c =
    let joined = subst (RowsMatchTrie c.self.inside.trie) c.self.view_is c.self.invariant in
    blocked_is c.self.inside.trie c.args.self.now c.args.job c.args.name.now c.blocked_above.result joined c.blocked_above.ensures.some
    (λ e. c.blocked_above.ensures.none e (by_none c.self.inside.trie c.args.self.now c.args.job c.args.name.now c.is_blocked_below.result joined c.is_blocked_below.ensures c.if-is_blocked_below.false))
