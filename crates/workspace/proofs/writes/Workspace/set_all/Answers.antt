use Rattle.std.proofs.Common.{ap, ◌∙◌}
use Rattle.collation.specs.Answers.{set_all}
use Rattle.collation.specs.Database.{Database}
use Rattle.workspace.specs.Layers.{laid_over, decides}
use Rattle.workspace.specs.laws.Layering.{over_set_all, decides_set_all}
use Rattle.workspace.proofs.Layered.{put}
use Rattle.workspace.proofs.writes.Workspace.set_all.Goals as goal

pub returns-clause-over : goal.returns-clause-over
returns-clause-over c =
    let f = λ (m : Database). set_all c.args.copies.items m in
    let is = put f c.args.self.now c.self.inside.written _ c.self.inside.killed c.self.view_is c.in_ok-set_copies.ensures.ok in
    λ m. ap (λ w. laid_over w m) is ∙ over_set_all c.args.copies.items c.args.self.now m

pub returns-clause-decides : goal.returns-clause-decides
returns-clause-decides c =
    let f = λ (m : Database). set_all c.args.copies.items m in
    let is = put f c.args.self.now c.self.inside.written _ c.self.inside.killed c.self.view_is c.in_ok-set_copies.ensures.ok in
    λ x. ap (λ w. decides w x) is ∙ decides_set_all c.args.copies.items c.args.self.now x
