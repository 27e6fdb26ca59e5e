use Rattle.key_map.proofs.Pairs.{map_none}
use Rattle.key_map.proofs.map.KeyMap.clear.Goals as goal

pub returns : goal.returns
returns g c = rw c.clear.ensures.empty map_none
