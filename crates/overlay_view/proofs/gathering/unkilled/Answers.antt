use Rattle.std.proofs.Common.{drop}
use Rattle.overlay_view.proofs.Nearness.{Node}
use Rattle.overlay_view.proofs.Runs.{kept_on, few_on}
use Rattle.overlay_view.proofs.gathering.unkilled.Goals as goal

pub loop-index-preserved : goal.loop-index-preserved
loop-index-preserved c =
    let ks = c.args.workspace.now.killed in
    let e : Node = (c.in-Some.key.now, c.in-Some.value.now) in
    record {
      all = kept_on ks c.args.found.now c.loop-index.left c.push_unkilled.new.left (drop c.loop-index.index c.args.found.now) _ e c.loop-index.invariant.all c.in-Some.ensures c.push_unkilled.ensures;
      few = few_on ks c.loop-index.left c.push_unkilled.new.left e c.loop-index.index c.loop-index.invariant.few c.push_unkilled.ensures;
    }
