use Rattle.std.proofs.Common.{refl, sym, ◌∙◌, rules}
use Rattle.command.specs.declared.request.Command.TheVariants.{Rollback}
use Rattle.command.specs.declared.request.Reply.TheVariants.{Finished}
use Rattle.shared_engine.specs.Blocks.{said}
use Rattle.job_server.proofs.Stepped.{done_as, rollback_stepped, no_rollback_stepped}
use Rattle.job_server.proofs.job_run.Calls.rollback.Goals as goal

pub returns-clause-done : goal.returns-clause-done
returns-clause-done g c =
    done_as Rollback (said (λ d. Finished) c.trollback.result) c.finished.result c.args.session.now c.trollback.new.session
    (rollback_stepped c.trollback.result c.args.session.now c.trollback.new.session (search rules) c.trollback.ensures.done) c.finished.ensures.told

pub returns-then-tlevel-eq0-clause-done : goal.returns-then-tlevel-eq0-clause-done
returns-then-tlevel-eq0-clause-done g c = no_rollback_stepped c.args.session.now c.args.session.now (sym c.tlevel.ensures ∙ c.if-tlevel-eq0.true) refl
