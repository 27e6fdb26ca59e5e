use Rattle.std.proofs.Common.{sym, ap, ◌∙◌}
use Rattle.std.specs.FinMap as finmap
use Rattle.lock_trie.proofs.Pairs.{map_entries}
use Rattle.lock_trie.proofs.map.NameMap.iter.Goals as goal

pub returns : goal.returns
returns g c = c.iter.ensures ∙ sym (map_entries c.self.inside.tree.pairs c.self.invariant) ∙ ap finmap.entries c.self.view_is
