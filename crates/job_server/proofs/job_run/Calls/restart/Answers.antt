use Rattle.std.proofs.Common.{refl, sym, ◌∙◌, rules}
use Rattle.command.specs.declared.request.Command.TheVariants.{Restart}
use Rattle.command.specs.declared.request.Reply.TheVariants.{Restarted as restarted_reply}
use Rattle.shared_engine.specs.Blocks.{said}
use Rattle.job_server.proofs.Stepped.{done_as, restart_stepped, no_restart_stepped}
use Rattle.job_server.proofs.job_run.Calls.restart.Goals as goal

pub returns-clause-done : goal.returns-clause-done
returns-clause-done g c =
    done_as Restart (said restarted_reply c.trestart.result) c.restarted.result c.args.session.now c.trestart.new.session
    (restart_stepped c.trestart.result c.args.session.now c.trestart.new.session (search rules) c.trestart.ensures.done) c.restarted.ensures.told

pub returns-then-tlevel-eq0-clause-done : goal.returns-then-tlevel-eq0-clause-done
returns-then-tlevel-eq0-clause-done g c = no_restart_stepped c.args.session.now c.args.session.now (sym c.tlevel.ensures ∙ c.if-tlevel-eq0.true) refl
