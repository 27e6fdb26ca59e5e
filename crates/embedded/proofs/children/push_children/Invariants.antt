use Rattle.std.proofs.Common.{◌≡◌, ◌≤◌, ◌-◌, length}
use Rattle.collation.specs.Levels.{parent_of}
use Rattle.collation.specs.Reference.{Spot}
use Rattle.embedded.specs.Followed.{IsUnderWay}
use Rattle.embedded.proofs.children.push_children.Given as goal

-- what was under way with the first is so with those that followed
abbrev pub invariant-children : goal.invariant-children
invariant-children g l = record {
  level : parent_of l.place ≡ l.level;
  low : length l.text.items ≤ l.room;
  goes : (p : Spot) → IsUnderWay l.level p (g.V.OrderedView.content l.view) l.fn.first l.fn.text.items → IsUnderWay l.level p (g.V.OrderedView.content l.view) l.place l.text.items;
}

abbrev pub decreases-children : goal.decreases-children
decreases-children g l = l.room - length l.text.items
