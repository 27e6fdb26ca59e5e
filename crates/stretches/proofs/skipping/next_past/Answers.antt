use Rattle.std.proofs.Common.{◌≡◌, ℕ, List, refl, sym, subst, ◌∙◌}
use Rattle.std.specs.Prelude.{Option, Some, None, MatchOption}
use Rattle.collation.specs.Reference.{Reference}
use Rattle.globals.specs.Cuts.{up_to}
use Rattle.stretches.proofs.Alike.{alike_to, first_alike}
use Rattle.stretches.proofs.Looks.{first_before, none_up_to}
use Rattle.stretches.proofs.skipping.next_past.Goals as goal

pub loop-init : goal.loop-init
loop-init g c = λ x there. refl

pub returns-in_default : goal.returns-in_default
returns-in_default g c =
    let m = g.V.OrderedView.content c.args.view.now in
    let from = c.end_from-from.result in
    subst (λ (o : Option (Reference × List ℕ)). MatchOption c.next.result (o ≡ None) (λ e. o ≡ Some (e.0.now, e.1.now)))
    (sym (first_alike c.args.cut from (up_to c.args.end m) (alike_to c.args.cut from c.args.end m (λ x there. c.loop.invariant x there ∙ c.end_from-from.ensures m c.requires x there)))) c.next.ensures

pub returns-in-Some-next : goal.returns-in-Some-next
returns-in-Some-next g c =
    let m = g.V.OrderedView.content c.args.view.now in
    first_before c.args.cut c.end_from-from.result c.args.end m (λ x there. c.loop.invariant x there ∙ c.end_from-from.ensures m c.requires x there) c.in-Some.start c.in-Some.ensures _ c.in-Some-next.ensures

pub loop-preserved : goal.loop-preserved
loop-preserved g c =
    let m = g.V.OrderedView.content c.args.view.now in
    none_up_to c.args.cut c.end_from-from.result c.args.end m (λ x there. c.loop.invariant x there ∙ c.end_from-from.ensures m c.requires x there) c.in-Some.start c.in-Some.ensures c.in-None.ensures

pub returns : goal.returns
returns g c =
    let m = g.V.OrderedView.content c.args.view.now in
    subst (λ (o : Option (Reference × List ℕ)). MatchOption c.next-2.result (o ≡ None) (λ e. o ≡ Some (e.0.now, e.1.now)))
    (sym (first_alike c.args.cut c.loop.from (up_to c.args.end m) (alike_to c.args.cut c.loop.from c.args.end m c.loop.invariant))) c.next-2.ensures
