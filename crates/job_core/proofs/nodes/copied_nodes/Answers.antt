use Rattle.std.proofs.Common.{ap, ◌∙◌, ◌++◌}
use Rattle.job_core.proofs.Bases.{from_start}
use Rattle.job_core.proofs.nodes.copied_nodes.Goals as goal

pub nodes-init : goal.nodes-init
nodes-init g c = record { all = ap (λ xs. xs ++ c.into_iter-key-iterator.result) c.in_ok-nodes.ensures.items ∙ c.into_iter-key-iterator.ensures.into_iter_gives ∙ c.walk_from-key-items.ensures ∙ from_start _ }
