use Rattle.std.proofs.Common.{refl, ◌∙◌}
use Rattle.stretches.proofs.Runs.{run_from, run_before, none_before}
use Rattle.stretches.proofs.skipping.gather_past.Goals as goal

pub loop-init : goal.loop-init
loop-init g c = λ x there. refl

pub returns-in-None : goal.returns-in-None
returns-in-None g c =
    let m = g.V.OrderedView.content c.args.view.now in
    run_from c.args.cut c.end_from-from.result c.args.end m (λ x there. c.loop.invariant x there ∙ c.end_from-from.ensures m c.requires.empty x there) c.args.most c.gather.result c.gather.ensures

pub returns-then-len-gt0 : goal.returns-then-len-gt0
returns-then-len-gt0 g c =
    let m = g.V.OrderedView.content c.args.view.now in
    run_before c.args.cut c.end_from-from.result c.args.end m (λ x there. c.loop.invariant x there ∙ c.end_from-from.ensures m c.requires.empty x there) c.args.most c.gather-run.result
    c.in-Some.start c.in-Some.ensures c.gather-run.ensures c.len.result c.len.ensures.length c.if-len-gt0.true

pub loop-preserved : goal.loop-preserved
loop-preserved g c =
    let m = g.V.OrderedView.content c.args.view.now in
    none_before c.args.cut c.end_from-from.result c.args.end m (λ x there. c.loop.invariant x there ∙ c.end_from-from.ensures m c.requires.empty x there) c.args.most c.gather-run.result
    c.in-Some.start c.in-Some.ensures c.gather-run.ensures c.len.result c.len.ensures.length c.if-len-gt0.false

pub returns : goal.returns
returns g c = run_from c.args.cut c.loop.from c.args.end (g.V.OrderedView.content c.args.view.now) c.loop.invariant c.args.most c.gather-2.result c.gather-2.ensures
