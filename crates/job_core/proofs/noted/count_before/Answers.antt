use Rattle.std.proofs.Common.{rules, of_calls}
use Rattle.std.proofs.lemmas.Fn.{always_returns_same}
use Rattle.job_core.proofs.Between.{is_node_before, parted_before, from_point}
use Rattle.job_core.proofs.noted.count_before.Goals as goal

pub returns-clause-left : goal.returns-clause-left
returns-clause-left c =
    let es = c.args.nodes.now in
    let p = is_node_before c.args.root.now in
    let point = c.partition_point.ensures.partitioned p (always_returns_same _ _ _ (λ a r f k. search (rules, of_calls))) (parted_before c.args.root.now es c.requires) in
    from_point p es c.partition_point.result point c.partition_point.ensures.bound
