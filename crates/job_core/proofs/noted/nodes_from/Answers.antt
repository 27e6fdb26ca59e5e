use Rattle.std.proofs.Common.{ap, ◌∙◌}
use Rattle.std.specs.Prelude.{not, filter}
use Rattle.std.specs.Ordering.{is_lt}
use Rattle.std.specs.FinMap as finmap
use Rattle.std.specs.FinMap.{is_sorted}
use Rattle.std.proofs.lemmas.List.{take_rest}
use Rattle.collation.specs.Order.{ref_cmp}
use Rattle.globals.specs.laws.Nearest.{true_of}
use Rattle.journal.specs.Based.{map_in}
use Rattle.job_core.proofs.noted.nodes_from.Goals as goal

pub count_before-start-requires : goal.count_before-start-requires
count_before-start-requires c = ap (is_sorted ref_cmp) c.nodes-nodes.ensures ∙ true_of _ (finmap.entries_sorted (map_in c.args.base.now))

pub returns : goal.returns
returns c =
    take_rest c.nodes-nodes.result.now c.count_before-start.result ∙ c.count_before-start.ensures.left
    ∙ ap (filter (λ e. not (is_lt (ref_cmp e.0 c.args.root.now)))) c.nodes-nodes.ensures
