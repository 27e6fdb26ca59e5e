use Rattle.std.proofs.Common.{ap, ◌∙◌}
use Rattle.std.specs.FinMap as finmap
use Rattle.collation.specs.Database.{Database}
use Rattle.workspace.specs.Layers.{laid_over, decides}
use Rattle.workspace.specs.laws.Layering.{over_set, decides_set}
use Rattle.workspace.proofs.Layered.{put}
use Rattle.workspace.proofs.writes.Workspace.set.Goals as goal

pub returns-clause-over : goal.returns-clause-over
returns-clause-over c =
    let f = λ (m : Database). finmap.insert m c.args.key c.args.value in
    let is = put f c.args.self.now c.self.inside.written _ c.self.inside.killed c.self.view_is c.in_ok-set_one.ensures.ok in
    λ m. ap (λ w. laid_over w m) is ∙ over_set c.args.self.now m c.args.key c.args.value

pub returns-clause-decides : goal.returns-clause-decides
returns-clause-decides c =
    let f = λ (m : Database). finmap.insert m c.args.key c.args.value in
    let is = put f c.args.self.now c.self.inside.written _ c.self.inside.killed c.self.view_is c.in_ok-set_one.ensures.ok in
    λ x. ap (λ w. decides w x) is ∙ decides_set c.args.self.now c.args.key c.args.value x
