-- What a script writes.
-- Read IsOutput, output_of, Wrote, IsBegun, HasAnsweredLines and HasKept; the contract of run_script cites these.
use Rattle.std.specs.Prelude.{◌≡◌, ◌⊎◌, ⊤, ℕ, Bool, true, false, not, ◌&&◌, ◌||◌, List, [], ◌∷◌, ◌++◌, map, Option, None, Some, Result, Ok, Err, codes, if◌then◌else◌}
use Rattle.std.specs.List.{flat_map, list_any}
use Rattle.std.specs.Io.KnownBytes.{Appends}
use Rattle.refusal.specs.declared.Refusal.{Refusal}
use Rattle.collation.specs.Database.{Database}
use Rattle.command.specs.declared.request.Command.{Command}
use Rattle.command.specs.declared.request.Command.TheVariants.{Access, Lock, Start, Commit, Rollback, Restart, Level, Restarts, Halt}
use Rattle.command.specs.declared.request.Reply.{Reply}
use Rattle.command.specs.declared.request.Reply.TheVariants.{Refused}
use Rattle.command.specs.Replies.{is_refused}
use Rattle.journal.specs.History.{initial, after, IsLegal}
use Rattle.journal.specs.Story.{Machine}
use Rattle.serial.specs.Answers.{IsReplyOrMemory, told_by}
use Rattle.serial.specs.Machine.{reply_of, step_of, run_of}
use Rattle.serial.specs.Memory.{is_out_of_memory}
use Rattle.job_core.specs.AtWork.{is_at_work}
use Rattle.script.specs.Line.{reading_of, job_of_line, HasOperands}
use Rattle.script.specs.Text.{reply_text}
use Rattle.listing.specs.Listing.{listing_text, IsListedFront}
use Rattle.listing.specs.Bytes.{WritesBeginning}
use Rattle.script_run.specs.Lines.{lines_of, has_no_end, AreLinesBefore}
use Rattle.script_run.specs.OpenJobs.{open_after}
use Rattle.script_run.specs.declared.outcome.Outcome.{Outcome}

-- a line and its reply
abbrev pub Answer : Type 0
Answer = List ℕ × Reply

-- the reply to a line, as it was read; where it has operands, memory to read them may be refused
abbrev pub IsAnswer : Machine → List ℕ → Reply → Type 0
IsAnswer s line reply = IsReplyOrMemory (HasOperands line) s (reading_of line) reply

-- what lines and their replies leave, each in its turn
abbrev pub left_by : List Answer → Machine → Machine
left_by [] s = s
left_by (a ∷ answers) s = left_by answers (told_by (reading_of a.0) a.1 s)

-- each line has its answer at its place
abbrev pub AreAnswers : Machine → List Answer → Type 0
AreAnswers s [] = ⊤
AreAnswers s (a ∷ answers) = IsAnswer s a.0 a.1 × AreAnswers (told_by (reading_of a.0) a.1 s) answers

abbrev pub text_of : List Answer → List ℕ
text_of answers = flat_map (λ a. reply_text (job_of_line a.0) a.1) answers

abbrev pub some_refused : List Answer → Bool
some_refused answers = list_any (λ a. is_refused a.1) answers

-- a reply tells that memory was wanting
abbrev pub some_wanting : List Answer → Bool
some_wanting answers = list_any (λ a. is_out_of_memory a.1) answers

-- how a script goes with one reply more
abbrev pub with_reply : Reply → Outcome → Outcome
with_reply reply before = record { refused = before.refused || is_refused reply; wanting = before.wanting || is_out_of_memory reply }

-- and with these answers more
abbrev pub noted : List Answer → Outcome → Outcome
noted answers before = record { refused = before.refused || some_refused answers; wanting = before.wanting || some_wanting answers }

-- how a script went that has these answers
abbrev pub outcome_of : List Answer → Outcome
outcome_of answers = record { refused = some_refused answers; wanting = some_wanting answers }

-- ---- the end of input

-- the command is HALT
abbrev pub is_halt : Command → Bool
is_halt (Access command) = false
is_halt (Lock command) = false
is_halt Start = false
is_halt Commit = false
is_halt Rollback = false
is_halt Restart = false
is_halt Level = false
is_halt Restarts = false
is_halt Halt = true

-- the line asks for HALT
abbrev pub asks_halt : Result (ℕ × Command) Refusal → Bool
asks_halt (Ok step) = is_halt step.1
asks_halt (Err refusal) = false

-- the session of a line's job ended with it: HALT was done
abbrev pub ends_session : List ℕ → Reply → Bool
ends_session line reply = asks_halt (reading_of line) && not (is_refused reply)

-- the job of an accepted line: it is read as a command, for which memory wasn't refused
abbrev pub accepted_job : Result (ℕ × Command) Refusal → Reply → Option ℕ
accepted_job (Ok step) reply = if is_out_of_memory reply then None else Some step.0
accepted_job (Err refusal) reply = None

-- the jobs that are open after lines and their replies, those before them given
abbrev pub left_open : List Answer → List ℕ → List ℕ
left_open [] jobs = jobs
left_open (a ∷ answers) jobs = left_open answers (open_after (accepted_job (reading_of a.0) a.1) (ends_session a.0 a.1) jobs)

-- each job's HALT, in order
abbrev pub halts_of : List ℕ → List (ℕ × Command)
halts_of jobs = map (λ job. (job, Halt)) jobs

-- these jobs were halted in order, as far as the journal wasn't full; only one that wasn't at work may have been passed over
abbrev pub AreHalted : List ℕ → Machine → Machine → Type 0
AreHalted [] s t = t ≡ s
AreHalted (job ∷ jobs) s t = AreHalted jobs (step_of job Halt s) t ⊎ ((is_at_work job s ≡ false) × AreHalted jobs s t)

-- what is left at the end of input: after the last line each open job was halted
abbrev pub left_at_end : List Answer → List ℕ → Machine → Machine
left_at_end answers jobs s = run_of (halts_of (left_open answers jobs)) (left_by answers s)

-- what follows the replies: "--" and the listing, or nothing where no listing is asked for
abbrev pub ending : Bool → Database → List ℕ
ending true m = codes "--\n" ++ listing_text m
ending false m = []

-- the text of a script's output, with or without the listing, and how the script went
pub record IsOutput (start : Machine) (listed : Bool) (bytes text : List ℕ) (outcome : Outcome) : Type 0 where
  pub answers : List Answer
  pub of_lines : map (λ a. a.0) answers ≡ lines_of bytes
  pub each : AreAnswers start answers
  pub legal : IsLegal (left_at_end answers [] start).units initial
  pub written : text ≡ text_of answers ++ ending listed (after (left_at_end answers [] start).units initial).map
  pub told : outcome ≡ outcome_of answers

-- ---- where memory is never wanting

-- the reply to a line
abbrev pub exact_reply : Result (ℕ × Command) Refusal → Machine → Reply
exact_reply (Ok step) s = reply_of step.0 step.1 s
exact_reply (Err refusal) s = Refused refusal

-- each line with its reply, in its turn
abbrev pub exact_answers : List (List ℕ) → Machine → List Answer
exact_answers [] s = []
exact_answers (line ∷ lines) s = (line, exact_reply (reading_of line) s) ∷ exact_answers lines (told_by (reading_of line) (exact_reply (reading_of line) s) s)

-- these answers, and what follows them
abbrev pub text_with_ending : Machine → Bool → List Answer → List ℕ
text_with_ending start listed answers = text_of answers ++ ending listed (after (left_at_end answers [] start).units initial).map

-- the text of a script's output: a function of the bytes read
abbrev pub output_of : Machine → Bool → List ℕ → List ℕ
output_of start listed bytes = text_with_ending start listed (exact_answers (lines_of bytes) start)

-- ---- what was written

-- such a text was written; where no reply tells of a want of memory, just that of the bytes read
pub record Wrote (start : Machine) (listed : Bool) (bytes : List ℕ) (outcome : Outcome) (old new : Option (List ℕ)) : Type 0 where
  pub text : List ℕ
  pub output : IsOutput start listed bytes text outcome
  pub exact : outcome.wanting ≡ false → text ≡ output_of start listed bytes
  pub written : Appends old new text

-- a beginning of such a text was written
pub record IsBegun (start : Machine) (listed : Bool) (bytes : List ℕ) (old new : Option (List ℕ)) : Type 0 where
  pub text : List ℕ
  pub outcome : Outcome
  pub output : IsOutput start listed bytes text outcome
  pub written : WritesBeginning old new text

-- the whole lines before the one that had begun, and what is left, were answered, and just their replies were written
pub record HasAnsweredLines (start : Machine) (bytes more : List ℕ) (old new : Option (List ℕ)) : Type 0 where
  pub answers : List Answer
  pub begun : List ℕ
  pub each : AreAnswers start answers
  pub cut : AreLinesBefore (begun ++ more) bytes
  pub split : lines_of bytes ≡ map (λ a. a.0) answers ++ lines_of (begun ++ more)
  pub whole : has_no_end begun ≡ true
  pub written : Appends old new (text_of answers)

-- "--" and the whole lines of some nodes, in order from the first: the front of what follows the replies, where no line is unanswered
pub record IsEndingFront (listed : Bool) (unanswered : List (List ℕ)) (m : Database) (text : List ℕ) : Type 0 where
  pub asked : listed ≡ true
  pub none_left : unanswered ≡ []
  pub nodes : List ℕ
  pub front : IsListedFront m nodes
  pub headed : text ≡ codes "--\n" ++ nodes

-- the first lines were answered, each of their replies was written, and none in part; where they are all, a front of what follows may stand after
pub record HasKept (start : Machine) (listed : Bool) (bytes : List ℕ) (old new : Option (List ℕ)) : Type 0 where
  pub answers : List Answer
  pub unanswered : List (List ℕ)
  pub behind : List ℕ
  pub each : AreAnswers start answers
  pub split : lines_of bytes ≡ map (λ a. a.0) answers ++ unanswered
  pub front : (behind ≡ []) ⊎ IsEndingFront listed unanswered (after (left_at_end answers [] start).units initial).map behind
  pub written : Appends old new (text_of answers ++ behind)
