use Rattle.std.proofs.Common.{length, sym, ap, ◌∙◌}
use Rattle.std.specs.FinMap as finmap
use Rattle.lock_trie.proofs.Pairs.{map_entries}
use Rattle.lock_trie.proofs.map.NameMap.len.Goals as goal

pub returns : goal.returns
returns g c = c.len.ensures.len ∙ ap length (sym (map_entries c.self.inside.tree.pairs c.self.invariant) ∙ ap finmap.entries c.self.view_is)
