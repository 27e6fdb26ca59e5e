use Rattle.lock_table.proofs.Kept.{kept_fewer}
use Rattle.lock_table.proofs.moves.hold_fewer.Goals as goal

pub returns-clause-kept : goal.returns-clause-kept
returns-clause-kept c = kept_fewer c.args.trie.now c.take_names.new.trie c.args.job c.args.held.now c.take_all.new.self c.args.names.now c.take_all.ensures c.requires c.take_names.ensures.taken
