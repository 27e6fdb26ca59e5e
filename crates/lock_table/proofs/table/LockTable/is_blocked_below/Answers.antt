use Rattle.std.proofs.Common.{subst}
use Rattle.lock_table.specs.Tables.{RowsMatchTrie}
use Rattle.lock_table.proofs.Below.{below_is}
use Rattle.lock_table.proofs.table.LockTable.is_blocked_below.Goals as goal

pub returns-in-Some : goal.returns-in-Some
returns-in-Some c = below_is c.self.inside.trie c.args.self.now c.args.job c.args.name.now c.in-Some.blocked (subst (RowsMatchTrie c.self.inside.trie) c.self.view_is c.self.invariant) (λ e. c.blocked_below.ensures.some cc) (λ e. c.blocked_below.ensures.none cc)
