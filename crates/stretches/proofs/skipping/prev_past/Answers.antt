use Rattle.std.proofs.Common.{◌≡◌, ℕ, List, refl, sym, subst, ◌∙◌}
use Rattle.std.specs.Prelude.{Option, Some, None, MatchOption}
use Rattle.collation.specs.Reference.{Reference}
use Rattle.globals.specs.Cuts.{down_to}
use Rattle.stretches.proofs.Alike.{alike_down, last_alike}
use Rattle.stretches.proofs.Looks.{last_behind, none_down_to}
use Rattle.stretches.proofs.skipping.prev_past.Goals as goal

pub loop-init : goal.loop-init
loop-init g c = λ x there. refl

pub returns-in_default : goal.returns-in_default
returns-in_default g c =
    let m = g.V.OrderedView.content c.args.view.now in
    let to = c.start_before-to.result in
    subst (λ (o : Option (Reference × List ℕ)). MatchOption c.prev.result (o ≡ None) (λ e. o ≡ Some (e.0.now, e.1.now)))
    (sym (last_alike c.args.cut to (down_to c.args.floor m) (alike_down c.args.cut to c.args.floor m (λ x there. c.loop.invariant x there ∙ c.start_before-to.ensures m c.requires x there)))) c.prev.ensures

pub returns-in-Some-prev : goal.returns-in-Some-prev
returns-in-Some-prev g c =
    let m = g.V.OrderedView.content c.args.view.now in
    last_behind c.args.cut c.start_before-to.result c.args.floor m (λ x there. c.loop.invariant x there ∙ c.start_before-to.ensures m c.requires x there) c.in-Some.end c.in-Some.ensures _ c.in-Some-prev.ensures

pub loop-preserved : goal.loop-preserved
loop-preserved g c =
    let m = g.V.OrderedView.content c.args.view.now in
    none_down_to c.args.cut c.start_before-to.result c.args.floor m (λ x there. c.loop.invariant x there ∙ c.start_before-to.ensures m c.requires x there) c.in-Some.end c.in-Some.ensures c.in-None.ensures

pub returns : goal.returns
returns g c =
    let m = g.V.OrderedView.content c.args.view.now in
    subst (λ (o : Option (Reference × List ℕ)). MatchOption c.prev-2.result (o ≡ None) (λ e. o ≡ Some (e.0.now, e.1.now)))
    (sym (last_alike c.args.cut c.loop.to (down_to c.args.floor m) (alike_down c.args.cut c.loop.to c.args.floor m c.loop.invariant))) c.prev-2.ensures
