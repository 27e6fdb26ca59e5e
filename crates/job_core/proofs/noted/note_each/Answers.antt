use Rattle.std.proofs.Common.{arith, ◌+◌, ◌∷◌, drop, sym, ap, ◌∙◌}
use Rattle.std.proofs.lemmas.List.{drop_more}
use Rattle.journal.specs.Based.{map_in}
use Rattle.job_core.proofs.Between.{each_passed, each_passed_on}
use Rattle.job_core.proofs.noted.note_each.Goals as goal

pub loop-exchange-init : goal.loop-exchange-init
loop-exchange-init g c = each_passed c.args.noted.now (map_in c.args.base.now) (g.V.OrderedView.content c.args.end.now) c.args.exchanges.now

pub loop-exchange-preserved : goal.loop-exchange-preserved
loop-exchange-preserved g c =
    let all = c.args.exchanges.now in
    let at = c.loop-exchange.exchange-index in
    let e = c.exchange-item.result in
    each_passed_on c.loop-exchange.noted c.note_command.new.noted c.args.noted.now (map_in c.args.base.now) (g.V.OrderedView.content c.args.end.now) (drop at all) (drop (at + 1) all) all e
    (drop_more all at e (omega (arith, c.loop-exchange-test.true)) ∙ ap (λ x. x ∷ drop (at + 1) all) (sym c.exchange-item.is)) c.in_ok-note_command.ensures c.loop-exchange.invariant
