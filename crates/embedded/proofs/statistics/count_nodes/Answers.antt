use Rattle.std.proofs.Common.{◌≡◌, ◌∙◌, List, ℕ, ap, length, min, ◌+◌, ◌-◌, ◌^◌, arith}
use Rattle.collation.specs.Reference.{Reference}
use Rattle.embedded.specs.laws.Counts.{all_counted}
use Rattle.embedded.proofs.Starts.{from_start}
use Rattle.embedded.proofs.statistics.count_nodes.Goals as goal

zero_more : (n : ℕ) → 0 + n ≡ n
zero_more n = omega arith

pub nodes-init : goal.nodes-init
nodes-init g c = record {
  steps = (tt, tt);
  counted = ap (λ (n : ℕ). min n (2 ^ 64 - 1)) (zero_more (length c.into_iter-node-iterator.result)) ∙ ap (λ (es : List (Reference × List ℕ)). min (length es) (2 ^ 64 - 1)) (c.into_iter-node-iterator.ensures.into_iter_gives ∙ c.walk_from-node-items.ensures ∙ from_start _);
  low = omega arith;
}

pub returns : goal.returns
returns g c = all_counted _ _ _ c.in-None.ensures.steps.0 c.nodes.invariant.low c.nodes.invariant.counted
