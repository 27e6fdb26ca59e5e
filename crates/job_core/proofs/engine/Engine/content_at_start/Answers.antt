use Rattle.std.proofs.Common.{sym, subst, ◌≤◌, length}
use Rattle.job_core.proofs.Views.{begun_there, view_found, view_nowhere}
use Rattle.job_core.proofs.engine.Engine.content_at_start.Goals as goal

pub content_at-requires : goal.content_at-requires
content_at-requires c = subst (λ n. n ≤ length c.args.self.now.core.units) (sym c.start.ensures) (begun_there c.args.self.now c.args.job c.in-Some.session.now c.requires (sym c.in-Some.ensures))

pub returns-in-Some : goal.returns-in-Some
returns-in-Some c = view_found c.args.self.now c.args.job c.start.result c.in-Some.session.now c.content_at.result c.requires (sym c.in-Some.ensures) c.start.ensures c.content_at.ensures.view c.content_at.ensures.kept

pub returns-in-None : goal.returns-in-None
returns-in-None c = view_nowhere c.args.self.now c.args.job (sym c.in-None.ensures)
