use Rattle.lock_trie.proofs.Pairs.{map_none}
use Rattle.lock_trie.proofs.map.NameMap.new.Goals as goal

pub returns : goal.returns
returns g c = rw c.new.ensures.empty map_none
