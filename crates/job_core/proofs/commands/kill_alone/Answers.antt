use Rattle.std.proofs.Common.{◌≡◌, length, max, sym, ap, ◌∙◌}
use Rattle.std.specs.Prelude.{unwrap_or}
use Rattle.version_store.specs.Versions.{content_now}
use Rattle.command.specs.declared.access.Answer.TheVariants.{Done}
use Rattle.job_core.specs.Changes.{row_done}
use Rattle.job_core.proofs.ChangeLemmas.{left_lone}
use Rattle.job_core.proofs.KillCommands.{kill_reply, kill_accepted, kill_early, kill_none, kill_cause}
use Rattle.job_core.proofs.commands.kill_alone.Goals as goal

pub kill_by-done-requires-clause-kill : goal.kill_by-done-requires-clause-kill
kill_by-done-requires-clause-kill c = rw (← kill_none c.args.command c.args.oldest c.requires.kill) c.requires.kill

pub returns-in-Ok-clause-answer : goal.returns-in-Ok-clause-answer
returns-in-Ok-clause-answer c = kill_reply c.args.command c.args.oldest (content_now c.args.store.now) c.requires.kill

pub returns-in-Ok-clause-accepted : goal.returns-in-Ok-clause-accepted
returns-in-Ok-clause-accepted c = kill_accepted c.args.command c.args.oldest (content_now c.args.store.now) c.requires.kill

pub returns-in-Ok-clause-database : goal.returns-in-Ok-clause-database
returns-in-Ok-clause-database c = left_lone c.args.store.now c.kill_by-done.new.store c.args.journal.now.units c.kill_by-done.new.journal.units c.args.job c.args.command Done c.requires.agreed c.kill_by-done.ensures.agreed c.in-Ok.ensures.unit

pub returns-in-Ok-clause-left : goal.returns-in-Ok-clause-left
returns-in-Ok-clause-left c = c.in-Ok.ensures.left ∙ ap (λ o. max c.args.store.now.cut (unwrap_or o (length c.kill_by-done.new.journal.units))) (sym (kill_none c.args.command c.args.oldest c.requires.kill))

pub returns-in-Ok-clause-written : goal.returns-in-Ok-clause-written
returns-in-Ok-clause-written c = λ x. c.in-Ok.ensures.written x ∙ ap (λ o. row_done c.args.command o (length c.kill_by-done.new.journal.units) c.kill_by-done.new.store.cut c.args.store.now x) (sym (kill_none c.args.command c.args.oldest c.requires.kill))

pub returns-in-Err-clause-early : goal.returns-in-Err-clause-early
returns-in-Err-clause-early c = λ refusal early. let none = kill_early c.args.command c.args.oldest c.requires.kill in absurd (cc)

pub returns-in-Err-clause-cause : goal.returns-in-Err-clause-cause
returns-in-Err-clause-cause c = kill_cause c.in-Err.refusal c.args.command (content_now c.args.store.now) (length c.args.journal.now.units) (kill_accepted c.args.command c.args.oldest (content_now c.args.store.now) c.requires.kill) c.in-Err.ensures.cause
