use Rattle.std.proofs.Common.{subst}
use Rattle.lock_table.specs.Tables.{RowsMatchTrie}
use Rattle.lock_table.proofs.Numbers.{number_held}
use Rattle.lock_table.proofs.table.LockTable.names_held.Goals as goal

pub returns : goal.returns
returns c = number_held c.self.inside.trie c.args.self.now c.len.result (subst (RowsMatchTrie c.self.inside.trie) c.self.view_is c.self.invariant) c.len.ensures.held c.len.ensures.count
