-- Lines that were answered, and their replies gathered.
use Rattle.std.proofs.Common.{◌≡◌, inl, ℕ, Bool, true, false, not, ◌&&◌, ◌||◌, List, ◌++◌, Option, None, Some, Ok, Err, Result, refl, sym, ap, subst, ◌∙◌}
use Rattle.std.specs.Prelude.{if◌then◌else◌}
use Rattle.std.proofs.Math.Bool.{and-false, or-false}
use Rattle.refusal.specs.declared.Refusal.{Refusal}
use Rattle.command.specs.declared.access.DataCommand.{DataCommand}
use Rattle.command.specs.declared.access.Answer.{Answer}
use Rattle.command.specs.declared.access.Answer.TheVariants.{Value}
use Rattle.command.specs.declared.request.Command.{Command}
use Rattle.command.specs.declared.request.Command.TheVariants.{Access}
use Rattle.command.specs.declared.request.Reply.{Reply}
use Rattle.command.specs.declared.request.Reply.TheVariants.{Answered, Refused}
use Rattle.journal.specs.Story.{Machine, told}
use Rattle.serial.specs.Machine.{IsReply}
use Rattle.serial.specs.Memory.{is_out_of_memory}
use Rattle.script.specs.Line.{IsReading, IsRefusalOf, reading_of, job_of_line}
use Rattle.script.specs.Text.{reply_text}
use Rattle.script_run.specs.OpenJobs.{open_after}
use Rattle.command.specs.Replies.{is_refused}
use Rattle.serial.specs.Answers.{IsReplyDue, told_by}
use Rattle.script_run.specs.Output.{accepted_job, asks_halt, ends_session, is_halt, with_reply}
use Rattle.script_run.specs.Replies.{IsAnswered, IsGathered, IsGatheredAs, IsLost, IsLostAs}
use Rattle.script_run.specs.declared.answers.Script.{Script}
use Rattle.script_run.specs.declared.outcome.Outcome.{Outcome}
use Rattle.script_run.specs.laws.Outcomes.{outcome_is}
use Rattle.script_run.proofs.Refused.{refused_answer, none_accepted}

-- a step's reply answers the line that asks for it
pub of_step : (line : List ℕ) (job : ℕ) (command : Command) (reply : Reply) (s t : Machine) → IsReading line (Ok (job, command)) → IsReply job command reply s → t ≡ told job command reply s
    → IsAnswered line s t (if is_out_of_memory reply then None else Some job) (is_halt command && not (is_refused reply)) reply
of_step line job command reply s t read exact left =
    let asks : (Ok (job, command)) ≡ reading_of line = sym read.0 in
    record {
      joins = ap (λ (r : Result (ℕ × Command) Refusal). accepted_job r reply) asks;
      session = ap (λ (r : Result (ℕ × Command) Refusal). asks_halt r && not (is_refused reply)) asks;
      answer = inl (subst (λ (r : Result (ℕ × Command) Refusal). IsReplyDue s r reply) asks exact);
      machine = left ∙ ap (λ (r : Result (ℕ × Command) Refusal). told_by r reply s) asks;
    }

-- a refusal changes nothing
none_told : (read : Result (ℕ × Command) Refusal) (refusal : Refusal) (s : Machine) → s ≡ told_by read (Refused refusal) s
none_told (Ok step) refusal s = refl
none_told (Err fault) refusal s = refl

-- a line's refusal answers it
pub of_fault : (line : List ℕ) (refusal : Refusal) (s : Machine) → IsRefusalOf line refusal → IsAnswered line s s None false (Refused refusal)
of_fault line refusal s is = record {
  joins = none_accepted line refusal is;
  session = sym (and-false _);
  answer = refused_answer s line refusal is;
  machine = none_told (reading_of line) refusal s;
}

-- an answer whose text was gathered
pub gathered : (line : List ℕ) (start now : Machine) (accepted : Option ℕ) (ended : Bool) (reply : Reply) (job : Option ℕ) (out : List ℕ) (before : Outcome) (were : List ℕ) (new : Script)
    → IsAnswered line start now accepted ended reply → new.core.machine ≡ now → job ≡ job_of_line line → new.out.items ≡ out ++ reply_text job reply → new.outcome ≡ with_reply reply before → new.jobs ≡ open_after accepted ended were
    → IsGathered line start out before were new
gathered line start now accepted ended reply job out before were new said core owner text outcome jobs = record {
  reply = reply;
  answer = said.answer;
  machine = core ∙ said.machine;
  text = text ∙ ap (λ (j : Option ℕ). out ++ reply_text j reply) owner;
  outcome = outcome;
  jobs = jobs ∙ ap (λ (j : Option ℕ). open_after j ended were) said.joins ∙ ap (λ (e : Bool). open_after (accepted_job (reading_of line) reply) e were) said.session;
}

pub lost : (line : List ℕ) (start now : Machine) (accepted : Option ℕ) (ended : Bool) (reply : Reply) (out : List ℕ) (new : Script)
    → IsAnswered line start now accepted ended reply → new.core.machine ≡ now → new.out.items ≡ out → IsLost line start out new
lost line start now accepted ended reply out new said core text = record {
  reply = reply;
  answer = said.answer;
  machine = core ∙ said.machine;
  text = text;
}

pub gathered_as : (line : List ℕ) (start now : Machine) (accepted : Option ℕ) (ended : Bool) (reply : Reply) (job : Option ℕ) (out : List ℕ) (before : Outcome) (were : List ℕ) (new : Script)
    → IsAnswered line start now accepted ended reply → new.core.machine ≡ now → job ≡ job_of_line line → new.out.items ≡ out ++ reply_text job reply → new.outcome ≡ with_reply reply before → new.jobs ≡ open_after accepted ended were
    → IsGatheredAs reply line start out before were new
gathered_as line start now accepted ended reply job out before were new said core owner text outcome jobs = record {
  answer = said.answer;
  machine = core ∙ said.machine;
  text = text ∙ ap (λ (j : Option ℕ). out ++ reply_text j reply) owner;
  outcome = outcome;
  jobs = jobs ∙ ap (λ (j : Option ℕ). open_after j ended were) said.joins ∙ ap (λ (e : Bool). open_after (accepted_job (reading_of line) reply) e were) said.session;
}

pub lost_as : (line : List ℕ) (start now : Machine) (accepted : Option ℕ) (ended : Bool) (reply : Reply) (out : List ℕ) (new : Script)
    → IsAnswered line start now accepted ended reply → new.core.machine ≡ now → new.out.items ≡ out → IsLostAs reply line start out new
lost_as line start now accepted ended reply out new said core text = record { answer = said.answer; machine = core ∙ said.machine; text = text }

-- an answer is no refusal, so the script goes as before
answered_alike : (answer : Answer) (before : Outcome) → before ≡ with_reply (Answered answer) before
answered_alike answer before = outcome_is before (with_reply (Answered answer) before) (sym (or-false before.refused)) (sym (or-false before.wanting))

-- a data command that the machine answered
pub lone_gathered : (line : List ℕ) (job : ℕ) (c : DataCommand) (answer : Answer) (s : Machine) (out : List ℕ) (before : Outcome) (were : List ℕ) (new : Script)
    → IsReading line (Ok (job, Access c)) → IsReply job (Access c) (Answered answer) s → new.core.machine ≡ told job (Access c) (Answered answer) s → new.outcome ≡ before → new.jobs ≡ open_after (Some job) false were
    → new.out.items ≡ out ++ reply_text (Some job) (Answered answer) → IsGathered line s out before were new
lone_gathered line job c answer s out before were new read exact left outcome jobs text =
    gathered line s _ (Some job) false (Answered answer) (Some job) out before were new (of_step line job (Access c) (Answered answer) s _ read exact left) refl (sym read.1) text (outcome ∙ answered_alike answer before) jobs

pub lone_lost : (line : List ℕ) (job : ℕ) (c : DataCommand) (answer : Answer) (s : Machine) (out : List ℕ) (new : Script)
    → IsReading line (Ok (job, Access c)) → IsReply job (Access c) (Answered answer) s → new.core.machine ≡ told job (Access c) (Answered answer) s → new.out.items ≡ out → IsLost line s out new
lone_lost line job c answer s out new read exact left text =
    lost line s _ (Some job) false (Answered answer) out new (of_step line job (Access c) (Answered answer) s _ read exact left) refl text

-- a value that the machine answered, and what is lent as it
pub got_gathered : (line : List ℕ) (job : ℕ) (c : DataCommand) (value lent : List ℕ) (s : Machine) (out : List ℕ) (before : Outcome) (were : List ℕ) (new : Script)
    → lent ≡ value → IsReading line (Ok (job, Access c)) → IsReply job (Access c) (Answered (Value value)) s → new.core.machine ≡ told job (Access c) (Answered (Value value)) s → new.outcome ≡ before → new.jobs ≡ open_after (Some job) false were
    → new.out.items ≡ out ++ reply_text (Some job) (Answered (Value lent)) → IsGathered line s out before were new
got_gathered line job c value lent s out before were new same read exact left outcome jobs text =
    lone_gathered line job c (Value value) s out before were new read exact left outcome jobs (text ∙ ap (λ (v : List ℕ). out ++ reply_text (Some job) (Answered (Value v))) same)
