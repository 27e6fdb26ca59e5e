use Rattle.std.proofs.Common.{◌≡◌}
use Rattle.std.specs.Prelude.{map}
use Rattle.std.specs.FinMap as finmap
use Rattle.listing.proofs.Gathered.{Stands}
use Rattle.listing.proofs.nodes.write_listing_after.Given as goal

-- the nodes so far were written or are gathered, and no call failed
abbrev pub invariant-nodes : goal.invariant-nodes
invariant-nodes g l = record {
  steps : (goal.iterator-nodes g).can_next l.key-iterator × (goal.iterator-nodes g).is_finite l.key-iterator;
  stands : Stands (g.W.Write.contents l.fn.writer.inner) (g.W.Write.contents l.writer.inner) l.fn.out.items (finmap.entries (g.V.OrderedView.content l.view)) (map (λ e. (e.0.now, e.1.now)) l.yielded) l.key-iterator l.out.items;
  kept : l.writer.failures ≡ l.fn.writer.failures;
}
