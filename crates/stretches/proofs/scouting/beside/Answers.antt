use Rattle.std.proofs.Common.{sym, ◌∙◌}
use Rattle.stretches.specs.laws.Entering.{empty_after_merge}
use Rattle.stretches.proofs.scouting.beside.Goals as goal

pub returns-in-Ok : goal.returns-in-Ok
returns-in-Ok g c =
    empty_after_merge c.in-Ok.stretch c.args.target.now c.args.source.now (g.V.OrderedView.content c.args.view.now)
    (λ x h. c.requires x (sym (c.in-Ok.ensures x) ∙ h)) (λ x h. c.lies_beside.ensures c.if-not-lies_beside.false x (sym (c.in-Ok.ensures x) ∙ h))
