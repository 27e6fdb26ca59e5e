use Rattle.std.proofs.Common.{sym, ◌∙◌}
use Rattle.workspace.specs.laws.Layering.{apart_of, covers_beside, covers_same, free_killer, free_unkilled, same_of}
use Rattle.workspace.proofs.writes.Workspace.covers.Goals as goal

pub returns-then-ne-clause-yes : goal.returns-then-ne-clause-yes
returns-then-ne-clause-yes c = λ t.
    covers_beside c.args.self.now.killed c.args.key.now c.in-Some.killed.now c.args.extent c.in-Some.all c.in-Some.ensures (apart_of c.in-Some.killed.now c.args.key.now (sym c.ne.ensures ∙ c.if-ne.true))

pub returns-else-ne-clause-yes : goal.returns-else-ne-clause-yes
returns-else-ne-clause-yes c = λ t.
    covers_same c.args.self.now.killed c.args.key.now c.in-Some.killed.now c.args.extent c.in-Some.all c.in-Some.ensures (same_of c.in-Some.killed.now c.args.key.now (sym c.ne.ensures ∙ c.if-ne.false)) (sym c.includes.ensures ∙ t)

pub returns-else-ne-clause-no : goal.returns-else-ne-clause-no
returns-else-ne-clause-no c = λ f.
    free_killer c.args.self.now.killed c.args.key.now c.in-Some.killed.now c.in-Some.all c.in-Some.ensures (same_of c.in-Some.killed.now c.args.key.now (sym c.ne.ensures ∙ c.if-ne.false))

pub returns-in-None-clause-no : goal.returns-in-None-clause-no
returns-in-None-clause-no c = λ f. free_unkilled c.args.self.now.killed c.args.key.now c.in-None.ensures
