use Rattle.std.proofs.Common.{sym, ap, subst, ◌∙◌}
use Rattle.workspace.specs.Layers.{Layer, is_killed, IsKiller}
use Rattle.workspace.specs.laws.Layering.{last_kills, none_killed, kills_all, last_there}
use Rattle.workspace.proofs.writes.Workspace.killed_over.Goals as goal

pub returns-then-is_taken : goal.returns-then-is_taken
returns-then-is_taken c =
    subst (λ (w : Layer). IsKiller w.killed c.args.key.now c.in-Some.killed.now c.in-Some.extent.now) c.self.view_is
    (kills_all c.self.inside.killed c.args.key.now c.in-Some.killed.now c.in-Some.extent.now c.self.invariant (last_there c.self.inside.killed c.args.key.now (c.in-Some.killed.now, c.in-Some.extent.now) (sym c.in-Some.ensures)) (sym c.is_taken.ensures ∙ c.if-is_taken.true))

pub returns-else-is_taken : goal.returns-else-is_taken
returns-else-is_taken c =
    ap (λ (w : Layer). is_killed w.killed c.args.key.now) (sym c.self.view_is)
    ∙ last_kills c.self.inside.killed c.args.key.now (c.in-Some.killed.now, c.in-Some.extent.now) c.self.invariant (sym c.in-Some.ensures)
    ∙ sym c.is_taken.ensures ∙ c.if-is_taken.false

pub returns-in-None : goal.returns-in-None
returns-in-None c = ap (λ (w : Layer). is_killed w.killed c.args.key.now) (sym c.self.view_is) ∙ none_killed c.self.inside.killed c.args.key.now (sym c.in-None.ensures)
