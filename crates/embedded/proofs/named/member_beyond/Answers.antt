use Rattle.std.proofs.Common.{ap, sym, refl, ◌∙◌}
use Rattle.collation.specs.Answers.{is_forward}
use Rattle.globals.specs.declared.cut.Cut.TheVariants.{Past, Before}
use Rattle.embedded.specs.Names.{name_next}
use Rattle.embedded.specs.laws.Names.{from_before, from_first, from_past, from_last}
use Rattle.embedded.proofs.named.member_beyond.Goals as goal

pub returns-then-is_empty : goal.returns-then-is_empty
returns-then-is_empty g c =
    from_first (g.V.OrderedView.content c.args.view.now) _ c.args.start.now (sym c.is_empty.ensures ∙ c.if-is_empty.true) c.first_from.ensures
    ∙ ap (λ d. name_next (is_forward d) c.args.start.now (g.V.OrderedView.content c.args.view.now)) (sym c.in-Forward.is)

pub returns-else-is_empty : goal.returns-else-is_empty
returns-else-is_empty g c =
    from_past (g.V.OrderedView.content c.args.view.now) _ c.args.start.now c.args.at.now (Past c.args.at) (sym c.is_empty.ensures ∙ c.if-is_empty.false) c.requires c.first_from-else-is_empty.ensures (λ x. refl)
    ∙ ap (λ d. name_next (is_forward d) c.args.start.now (g.V.OrderedView.content c.args.view.now)) (sym c.in-Forward.is)

pub returns-then-is_empty-2 : goal.returns-then-is_empty-2
returns-then-is_empty-2 g c =
    from_last (g.V.OrderedView.content c.args.view.now) _ c.args.start.now (sym c.is_empty-in-Backward.ensures ∙ c.if-is_empty-2.true) c.last_member.ensures
    ∙ ap (λ d. name_next (is_forward d) c.args.start.now (g.V.OrderedView.content c.args.view.now)) (sym c.in-Backward.is)

pub returns-else-is_empty-2 : goal.returns-else-is_empty-2
returns-else-is_empty-2 g c =
    from_before (g.V.OrderedView.content c.args.view.now) _ c.args.start.now c.args.at.now (Before c.args.at) (sym c.is_empty-in-Backward.ensures ∙ c.if-is_empty-2.false) c.requires c.last_before.ensures (λ x. refl)
    ∙ ap (λ d. name_next (is_forward d) c.args.start.now (g.V.OrderedView.content c.args.view.now)) (sym c.in-Backward.is)
