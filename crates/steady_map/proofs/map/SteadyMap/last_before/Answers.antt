use Rattle.std.proofs.Common.{◌≡◌, ◌∙◌, Bool, ap, sym}
use Rattle.std.specs.Prelude.{true, is_some}
use Rattle.std.specs.Option.{option_map}
use Rattle.btree.specs.Order.{find_last}
use Rattle.steady_map.specs.Shown.{pair_of, Seen}
use Rattle.steady_map.proofs.Shows.{head_of, last_kept, none_before, seen_last, mapped_some, head_given}
use Rattle.steady_map.proofs.map.SteadyMap.last_before.Goals as goal

pub returns-in_default : goal.returns-in_default
returns-in_default g c =
    let q : g.row.K.Denot → Bool = λ k. g.P.Point.before c.args.point.now k in
    let none = sym c.last_before-visits.ensures.found ∙ ap (option_map (λ p. (p.0.now, p.1.now))) c.in_default.is in
    record { found = sym (ap (find_last (λ e. q e.0)) (sym (ap (λ (m : Seen g.row.K.Denot g.row.V.Denot). m.pairs) c.self.view_is)) ∙ none_before q c.self.inside.tree.pairs none) }

pub returns-then-is_some : goal.returns-then-is_some
returns-then-is_some g c =
    let q : g.row.K.Denot → Bool = λ k. g.P.Point.before c.args.point.now k in
    let found = sym c.last_before-visits.ensures.found ∙ ap (option_map (λ p. (p.0.now, p.1.now))) c.in-Some.is in
    let some : is_some (pair_of c.in-Some.key.now c.in-Some.held.now) ≡ true = ap is_some (sym c.pair_shown-pair.ensures) ∙ mapped_some (λ p. (p.0.now, p.1.now)) c.pair_shown-pair.result (sym c.if-is_some.ensures) in
    record { found = c.pair_shown-pair.ensures ∙ sym (ap (find_last (λ e. q e.0)) (sym (ap (λ (m : Seen g.row.K.Denot g.row.V.Denot). m.pairs) c.self.view_is)) ∙ seen_last q c.self.inside.tree.pairs c.in-Some.key.now c.in-Some.held.now found some) }

pub returns : goal.returns
returns g c = record {
  found = head_given (λ p. (p.0.now, p.1.now)) c.next.result c.back_from.result c.next.new.self c.next.ensures.steps ∙ ap head_of c.back_from.ensures ∙ sym (last_kept (λ e. g.P.Point.before c.args.point.now e.0) c.args.self.now.pairs);
}
