use Rattle.std.proofs.Common.{sym, ap, subst, ◌∙◌}
use Rattle.workspace.specs.Layers.{Layer, is_covered, NoneUnderAnother}
use Rattle.workspace.specs.laws.Layering.{apart_more, over_kill, decides_kill}
use Rattle.workspace.proofs.Layered.{kills_again, kills_more}
use Rattle.workspace.proofs.writes.Workspace.kill.Goals as goal

pub returns-then-covers-clause-over : goal.returns-then-covers-clause-over
returns-then-covers-clause-over c =
    over_kill c.args.key c.args.extent c.args.self.now _ (kills_again c.args.key c.args.extent c.args.self.now _ _ c.self.inside.killed c.self.view_is (c.covers.ensures.yes c.if-covers.true) c.remove_taken.ensures)

pub returns-then-covers-clause-decides : goal.returns-then-covers-clause-decides
returns-then-covers-clause-decides c =
    decides_kill c.args.key c.args.extent c.args.self.now _ (kills_again c.args.key c.args.extent c.args.self.now _ _ c.self.inside.killed c.self.view_is (c.covers.ensures.yes c.if-covers.true) c.remove_taken.ensures)

pub returns-then-covers-clause-killed : goal.returns-then-covers-clause-killed
returns-then-covers-clause-killed c =
    let kills = kills_again c.args.key c.args.extent c.args.self.now _ _ c.self.inside.killed c.self.view_is (c.covers.ensures.yes c.if-covers.true) c.remove_taken.ensures in
    kills.killed

pub invariant_of-self-2 : goal.invariant_of-self-2
invariant_of-self-2 c =
    let free = ap (λ (w : Layer). is_covered w.killed c.args.key) c.self.view_is ∙ c.covers.ensures.no c.if-covers.false in
    subst NoneUnderAnother (sym c.in_ok-kill_root.ensures.ok) (apart_more c.self.inside.killed c.args.key c.args.extent c.self.invariant free)

pub returns-clause-over : goal.returns-clause-over
returns-clause-over c =
    over_kill c.args.key c.args.extent c.args.self.now _ (kills_more c.args.key c.args.extent c.args.self.now _ _ c.self.inside.killed _ c.self.view_is c.remove_taken-2.ensures c.in_ok-kill_root.ensures.ok)

pub returns-clause-decides : goal.returns-clause-decides
returns-clause-decides c =
    decides_kill c.args.key c.args.extent c.args.self.now _ (kills_more c.args.key c.args.extent c.args.self.now _ _ c.self.inside.killed _ c.self.view_is c.remove_taken-2.ensures c.in_ok-kill_root.ensures.ok)

pub returns-clause-killed : goal.returns-clause-killed
returns-clause-killed c =
    let kills = kills_more c.args.key c.args.extent c.args.self.now _ _ c.self.inside.killed _ c.self.view_is c.remove_taken-2.ensures c.in_ok-kill_root.ensures.ok in
    kills.killed
