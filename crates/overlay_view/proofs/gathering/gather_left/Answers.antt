use Rattle.std.proofs.Common.{◌∙◌}
use Rattle.globals.specs.Cuts.{up_to}
use Rattle.overlay_view.proofs.Runs.{passed_on, fewer_from, left_found, none_unkilled}
use Rattle.overlay_view.proofs.gathering.gather_left.Goals as goal

pub returns-then-len-gt0 : goal.returns-then-len-gt0
returns-then-len-gt0 g c =
    left_found c.args.workspace.now.killed c.args.most c.len.result c.gather-found.result c.unkilled-left.result _ _ c.gather-found.ensures c.unkilled-left.ensures c.len.ensures.length c.if-len-gt0.true c.loop-last.invariant

pub loop-last-smaller : goal.loop-last-smaller
loop-last-smaller g c =
    fewer_from c.loop-last.from (up_to c.args.end (g.V.OrderedView.content c.args.view.now)) c.args.most c.gather-found.result (c.in-Some.last.now, c.in-Some.field-0-1.now) c.gather-found.ensures c.in-Some.ensures
    c.args.workspace.now.killed c.behind-from.result c.behind-from.ensures

pub loop-last-preserved : goal.loop-last-preserved
loop-last-preserved g c =
    let ks = c.args.workspace.now.killed in
    let none = none_unkilled ks c.gather-found.result c.unkilled-left.result c.len.result c.unkilled-left.ensures c.len.ensures.length c.if-len-gt0.false in
    passed_on c.loop-last.from (up_to c.args.end (g.V.OrderedView.content c.args.view.now)) c.args.most c.gather-found.result (c.in-Some.last.now, c.in-Some.field-0-1.now) c.gather-found.ensures c.in-Some.ensures
    ks c.behind-from.result c.behind-from.ensures none ∙ c.loop-last.invariant
