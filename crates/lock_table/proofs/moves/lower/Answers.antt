use Rattle.std.proofs.Common.{arith}
use Rattle.lock_table.proofs.Trie.{recounted_same}
use Rattle.lock_table.proofs.moves.lower.Goals as goal

pub returns-else-held-n : goal.returns-else-held-n
returns-else-held-n c = recounted_same c.args.trie.now c.args.job c.args.name.now _ (omega arith)
