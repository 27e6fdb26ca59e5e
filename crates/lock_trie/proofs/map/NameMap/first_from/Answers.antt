use Rattle.std.proofs.Common.{sym, ap, ◌∙◌}
use Rattle.std.specs.FinMap as finmap
use Rattle.std.specs.Prelude.{not}
use Rattle.std.specs.List.{find}
use Rattle.std.specs.Ordering.{is_lt}
use Rattle.lock_name.specs.Locks.{resource_cmp}
use Rattle.lock_trie.proofs.Pairs.{map_entries}
use Rattle.lock_trie.proofs.map.NameMap.first_from.Goals as goal

pub returns : goal.returns
returns g c = c.first_from.ensures.found ∙ ap (find (λ e. not (is_lt (resource_cmp e.0 c.args.name.now)))) (sym (map_entries c.self.inside.tree.pairs c.self.invariant) ∙ ap finmap.entries c.self.view_is)
