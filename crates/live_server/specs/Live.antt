-- What a live run writes. Source: docs/PROGRAMS.md, "mjobs --live".
-- Read Act, AreActs, AreInTurn, AreLast, then IsLive, Wrote, IsBegun, HasAnswered and HasRead; the contract of run_live cites these.
use Rattle.std.specs.Prelude.{◌≡◌, ◌⊎◌, ⊤, ℕ, ◌==◌, Bool, true, false, List, [], ◌∷◌, ◌++◌, map, Option, None, Some, if◌then◌else◌}
use Rattle.std.specs.List.{filter}
use Rattle.std.specs.Io.KnownBytes.{Appends}
use Rattle.command.specs.declared.request.Command.TheVariants.{Halt}
use Rattle.command.specs.declared.request.Reply.{Reply}
use Rattle.command.specs.declared.request.Reply.TheVariants.{Finished, Had}
use Rattle.journal.specs.History.{initial, after, IsLegal}
use Rattle.journal.specs.Story.{Machine, told}
use Rattle.serial.specs.Answers.{told_by}
use Rattle.serial.specs.Machine.{IsReply, run_of}
use Rattle.script.specs.Line.{reading_of, job_of_line}
use Rattle.job_scripts.specs.Timeouts.{has_timeout}
use Rattle.script_run.specs.Lines.{lines_of, has_no_end}
use Rattle.script_run.specs.OpenJobs.{is_open, open_after, without_job}
use Rattle.script_run.specs.Output.{Answer, IsAnswer, accepted_job, ends_session, halts_of, text_of, outcome_of, ending}
use Rattle.script_run.specs.declared.outcome.Outcome.{Outcome}
use Rattle.listing.specs.Bytes.{WritesBeginning}
use Rattle.live_server.specs.Desks.{DeskShown, first_of, queued, waiting_at}

-- ---- what the machine did, in order

-- a line, with its reply; the first try of a LOCK line that then waits, which no reply tells; a job's HALT behind its last line
pub data Act : Type 0 where
  answered : List ℕ → Reply → Act
  kept_off : List ℕ → Act
  over : ℕ → Act

-- what an act leaves: a LOCK that is kept off leaves what a reply 0 tells
abbrev pub left_by : Act → Machine → Machine
left_by (answered line reply) s = told_by (reading_of line) reply s
left_by (kept_off line) s = told_by (reading_of line) (Had false) s
left_by (over job) s = told job Halt Finished s

abbrev pub all_left_by : List Act → Machine → Machine
all_left_by [] s = s
all_left_by (act ∷ acts) s = all_left_by acts (left_by act s)

-- a step of the exact machine: a line has its reply, which is 0 only of a LOCK with a timeout; a LOCK is kept off where its reply would be 0; a HALT is done
abbrev pub IsAct : Machine → Act → Type 0
IsAct s (answered line reply) = IsAnswer s line reply × (reply ≡ Had false → has_timeout line ≡ true)
IsAct s (kept_off line) = IsAnswer s line (Had false)
IsAct s (over job) = IsReply job Halt Finished s

-- each in its turn
abbrev pub AreActs : Machine → List Act → Type 0
AreActs s [] = ⊤
AreActs s (act ∷ acts) = IsAct s act × AreActs (left_by act s) acts

-- ---- job by job

-- the same job, or none twice
abbrev pub is_same : Option ℕ → Option ℕ → Bool
is_same None None = true
is_same None (Some job) = false
is_same (Some job) None = false
is_same (Some job) (Some other) = job == other

abbrev pub lines_with : Option ℕ → List (List ℕ) → List (List ℕ)
lines_with who lines = filter (λ line. is_same who (job_of_line line)) lines

abbrev pub answers_with : Option ℕ → List Answer → List Answer
answers_with who answers = filter (λ a. is_same who (job_of_line a.0)) answers

-- the lines with their replies, in the order of the acts
abbrev pub answers_in : List Act → List Answer
answers_in [] = []
answers_in (answered line reply ∷ acts) = (line, reply) ∷ answers_in acts
answers_in (kept_off line ∷ acts) = answers_in acts
answers_in (over job ∷ acts) = answers_in acts

-- the lines of this job that were answered
abbrev pub answered_of : Option ℕ → List Act → List (List ℕ)
answered_of who acts = map (λ a. a.0) (answers_with who (answers_in acts))

-- the line of this job that waits after an act: the one that was kept off last, until it is answered
abbrev pub waiting_after : Option ℕ → Option (List ℕ) → Act → Option (List ℕ)
waiting_after who waiting (answered line reply) = if is_same who (job_of_line line) then None else waiting
waiting_after who waiting (kept_off line) = if is_same who (job_of_line line) then Some line else waiting
waiting_after who waiting (over job) = waiting

abbrev pub waiting_in : Option ℕ → Option (List ℕ) → List Act → Option (List ℕ)
waiting_in who waiting [] = waiting
waiting_in who waiting (act ∷ acts) = waiting_in who (waiting_after who waiting act) acts

-- while a line of this job waits, no other of its lines is answered, none is kept off, and it isn't halted
abbrev pub IsInTurn : Option ℕ → Option (List ℕ) → Act → Type 0
IsInTurn who waiting (answered line reply) = is_same who (job_of_line line) ≡ true → (waiting ≡ None) ⊎ (waiting ≡ Some line)
IsInTurn who waiting (kept_off line) = is_same who (job_of_line line) ≡ true → waiting ≡ None
IsInTurn who waiting (over job) = is_same who (Some job) ≡ true → waiting ≡ None

abbrev pub AreInTurn : Option ℕ → Option (List ℕ) → List Act → Type 0
AreInTurn who waiting [] = ⊤
AreInTurn who waiting (act ∷ acts) = IsInTurn who waiting act × AreInTurn who (waiting_after who waiting act) acts

-- what waits is none of these lines, or the first
abbrev pub IsNext : Option (List ℕ) → List (List ℕ) → Type 0
IsNext waiting lines = (waiting ≡ None) ⊎ (waiting ≡ first_of lines)

-- ---- the end of input

-- the jobs that are open after an act, those before it given
abbrev pub open_past : Act → List ℕ → List ℕ
open_past (answered line reply) jobs = open_after (accepted_job (reading_of line) reply) (ends_session line reply) jobs
open_past (kept_off line) jobs = open_after (accepted_job (reading_of line) (Had false)) (ends_session line (Had false)) jobs
open_past (over job) jobs = without_job job jobs

-- and after acts
abbrev pub open_by : List Act → List ℕ → List ℕ
open_by [] jobs = jobs
open_by (act ∷ acts) jobs = open_by acts (open_past act jobs)

-- a HALT is of a job that is open then, none of whose lines is answered behind it or left
abbrev pub IsLast : (Option ℕ → List (List ℕ)) → List ℕ → Act → List Act → Type 0
IsLast left jobs (answered line reply) behind = ⊤
IsLast left jobs (kept_off line) behind = ⊤
IsLast left jobs (over job) behind = (is_open job jobs ≡ true) × (answered_of (Some job) behind ++ left (Some job) ≡ [])

-- each of the acts so; these jobs are open before them, and these lines are left
abbrev pub AreLast : (Option ℕ → List (List ℕ)) → List ℕ → List Act → Type 0
AreLast left jobs [] = ⊤
AreLast left jobs (act ∷ acts) = IsLast left jobs act acts × AreLast left (open_past act jobs) acts

-- what is left at the end: after the last act each job that is still open was halted
abbrev pub left_at_end : List Act → List ℕ → Machine → Machine
left_at_end acts jobs s = run_of (halts_of (open_by acts jobs)) (all_left_by acts s)

-- ---- what is written

-- the text of a live run's output, with or without the listing, and how it went: the replies to one interleaving of the jobs' lines, in its order
pub record IsLive (start : Machine) (listed : Bool) (bytes text : List ℕ) (outcome : Outcome) : Type 0 where
  pub acts : List Act
  pub each : AreActs start acts
  pub in_turn : (who : Option ℕ) → AreInTurn who None acts
  pub none_waits : (who : Option ℕ) → waiting_in who None acts ≡ None
  pub last : AreLast (λ who. []) [] acts
  pub of_lines : (who : Option ℕ) → answered_of who acts ≡ lines_with who (lines_of bytes)
  pub legal : IsLegal (left_at_end acts [] start).units initial
  pub written : text ≡ text_of (answers_in acts) ++ ending listed (after (left_at_end acts [] start).units initial).map
  pub told : outcome ≡ outcome_of (answers_in acts)

-- such a text was written
pub record Wrote (start : Machine) (listed : Bool) (bytes : List ℕ) (outcome : Outcome) (old new : Option (List ℕ)) : Type 0 where
  pub text : List ℕ
  pub output : IsLive start listed bytes text outcome
  pub written : Appends old new text

-- the machine did such acts, for the first lines of each job, and a beginning of their replies was written; where none of the lines is left, it may be one of the whole text
pub record IsBegun (start : Machine) (listed : Bool) (bytes : List ℕ) (old new : Option (List ℕ)) : Type 0 where
  pub acts : List Act
  pub left : Option ℕ → List (List ℕ)
  pub behind : List ℕ
  pub each : AreActs start acts
  pub in_turn : (who : Option ℕ) → AreInTurn who None acts
  pub waits : (who : Option ℕ) → IsNext (waiting_in who None acts) (left who)
  pub last : AreLast left [] acts
  pub of_lines : (who : Option ℕ) → answered_of who acts ++ left who ≡ lines_with who (lines_of bytes)
  pub front : (behind ≡ []) ⊎ (((who : Option ℕ) → left who ≡ []) × (behind ≡ ending listed (after (left_at_end acts [] start).units initial).map))
  pub written : WritesBeginning old new (text_of (answers_in acts) ++ behind)

-- these lines came: each was answered or lies on its job's desk, the machine is as the acts leave it, and just the whole replies were written
pub record HasAnswered (start now : Machine) (desks : List DeskShown) (lines : List (List ℕ)) (old new : Option (List ℕ)) : Type 0 where
  pub acts : List Act
  pub each : AreActs start acts
  pub in_turn : (who : Option ℕ) → AreInTurn who None acts
  pub waits : (who : Option ℕ) → waiting_in who None acts ≡ waiting_at who desks
  pub last : AreLast (λ who. queued who desks) [] acts
  pub of_lines : (who : Option ℕ) → answered_of who acts ++ queued who desks ≡ lines_with who lines
  pub machine : now ≡ all_left_by acts start
  pub written : Appends old new (text_of (answers_in acts))

-- the lines that had ended in these bytes came so: those of the bytes, whatever would follow them, before the one that had begun
pub record HasRead (start now : Machine) (desks : List DeskShown) (bytes : List ℕ) (old new : Option (List ℕ)) : Type 0 where
  pub lines : List (List ℕ)
  pub begun : List ℕ
  pub split : (more : List ℕ) → lines_of (bytes ++ more) ≡ lines ++ lines_of (begun ++ more)
  pub whole : has_no_end begun ≡ true
  pub answered : HasAnswered start now desks lines old new

-- ---- what follows from this

-- a job that is halted at the end of input is open then, and none of its lines is answered behind its HALT
abbrev pub HaltsAreLast : Type 0
HaltsAreLast = (start : Machine) (listed : Bool) (bytes text : List ℕ) (outcome : Outcome) (live : IsLive start listed bytes text outcome) (before behind : List Act) (job : ℕ) → live.acts ≡ before ++ over job ∷ behind
    → (is_open job (open_by before []) ≡ true) × (answered_of (Some job) behind ≡ [])

-- a LOCK that waits after a fault is the first of its job's lines that wasn't answered
abbrev pub WaitingIsNext : Type 0
WaitingIsNext = (start : Machine) (listed : Bool) (bytes : List ℕ) (old new : Option (List ℕ)) (begun : IsBegun start listed bytes old new) (who : Option ℕ) (line : List ℕ) → waiting_in who None begun.acts ≡ Some line
    → (rest : List (List ℕ)) × (answered_of who begun.acts ++ line ∷ rest ≡ lines_with who (lines_of bytes))
