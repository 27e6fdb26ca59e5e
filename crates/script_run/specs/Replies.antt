-- What a line does: its answer, and its reply, which is gathered.
use Rattle.std.specs.Prelude.{◌≡◌, ℕ, Bool, List, ◌++◌, Option}
use Rattle.command.specs.declared.request.Reply.{Reply}
use Rattle.journal.specs.Story.{Machine}
use Rattle.serial.specs.Answers.{told_by}
use Rattle.script.specs.Line.{reading_of, job_of_line}
use Rattle.script.specs.Text.{reply_text}
use Rattle.script_run.specs.OpenJobs.{open_after}
use Rattle.script_run.specs.Output.{IsAnswer, accepted_job, ends_session, with_reply}
use Rattle.script_run.specs.declared.answers.Script.{Script}
use Rattle.script_run.specs.declared.outcome.Outcome.{Outcome}

-- this is the reply to a line, with the job if the line is accepted, and whether the session ended
pub record IsAnswered (line : List ℕ) (old new : Machine) (accepted : Option ℕ) (ended : Bool) (reply : Reply) : Type 0 where
  pub joins : accepted ≡ accepted_job (reading_of line) reply
  pub session : ended ≡ ends_session line reply
  pub answer : IsAnswer old line reply
  pub machine : new ≡ told_by (reading_of line) reply old

-- a line was answered, and its reply gathered; so the machine, the text, the script's outcome and the open jobs were before
pub record IsGathered (line : List ℕ) (start : Machine) (out : List ℕ) (before : Outcome) (were : List ℕ) (new : Script) : Type 0 where
  pub reply : Reply
  pub answer : IsAnswer start line reply
  pub machine : new.core.machine ≡ told_by (reading_of line) reply start
  pub text : new.out.items ≡ out ++ reply_text (job_of_line line) reply
  pub outcome : new.outcome ≡ with_reply reply before
  pub jobs : new.jobs ≡ open_after (accepted_job (reading_of line) reply) (ends_session line reply) were

-- the same with just this reply
pub record IsGatheredAs (reply : Reply) (line : List ℕ) (start : Machine) (out : List ℕ) (before : Outcome) (were : List ℕ) (new : Script) : Type 0 where
  pub answer : IsAnswer start line reply
  pub machine : new.core.machine ≡ told_by (reading_of line) reply start
  pub text : new.out.items ≡ out ++ reply_text (job_of_line line) reply
  pub outcome : new.outcome ≡ with_reply reply before
  pub jobs : new.jobs ≡ open_after (accepted_job (reading_of line) reply) (ends_session line reply) were

-- a line was answered, but its reply found no memory
pub record IsLost (line : List ℕ) (start : Machine) (out : List ℕ) (new : Script) : Type 0 where
  pub reply : Reply
  pub answer : IsAnswer start line reply
  pub machine : new.core.machine ≡ told_by (reading_of line) reply start
  pub text : new.out.items ≡ out

-- the same with just this reply
pub record IsLostAs (reply : Reply) (line : List ℕ) (start : Machine) (out : List ℕ) (new : Script) : Type 0 where
  pub answer : IsAnswer start line reply
  pub machine : new.core.machine ≡ told_by (reading_of line) reply start
  pub text : new.out.items ≡ out
