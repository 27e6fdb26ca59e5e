use Rattle.std.proofs.Common.{refl, sym, ◌∙◌, rules}
use Rattle.command.specs.declared.request.Command.TheVariants.{Commit}
use Rattle.job_server.specs.Replying.{ended_as}
use Rattle.job_server.proofs.Stepped.{done_as, commit_stepped, lower_stepped, no_commit_stepped}
use Rattle.job_server.proofs.job_run.Calls.commit.Goals as goal

pub returns-in-1-clause-done : goal.returns-in-1-clause-done
returns-in-1-clause-done g c =
    done_as Commit (ended_as c.tcommit.result) c.ended.result c.args.session.now c.tcommit.new.session
    (commit_stepped c.tcommit.result c.args.session.now c.tcommit.new.session (sym c.tlevel.ensures ∙ c.in-1.is) c.tcommit.ensures.ended c.tcommit.ensures.refused c.tcommit.ensures.cause) c.ended.ensures.told

pub returns-in_default-clause-done : goal.returns-in_default-clause-done
returns-in_default-clause-done g c = lower_stepped c.tcommit_inner.result c.args.session.now c.tcommit_inner.new.self (search rules) c.tcommit_inner.ensures.level c.tcommit_inner.ensures.session

pub returns-in-0-clause-done : goal.returns-in-0-clause-done
returns-in-0-clause-done g c = no_commit_stepped c.args.session.now c.args.session.now (sym c.tlevel.ensures ∙ c.in-0.is) refl
