-- What the private functions of a live run do to its state and to the writer.
use Rattle.std.specs.Prelude.{◌≡◌, ◌⊎◌, ⊤, ℕ, Bool, true, false, List, [], ◌∷◌, ◌++◌, Option, None, Some, IsSome, Ok}
use Rattle.std.specs.Io.KnownBytes.{Appends}
use Rattle.journal.specs.History.{initial, after}
use Rattle.journal.specs.Story.{Machine}
use Rattle.serial.specs.Soundness.{IsGood}
use Rattle.listing.specs.Bytes.{WritesBeginning, WritesFront}
use Rattle.script_run.specs.Lines.{lines_of, has_no_end}
use Rattle.script_run.specs.Output.{IsAnswer, accepted_job, ends_session, text_of, noted, outcome_of, ending}
use Rattle.live_server.specs.Live.{Act, answered, kept_off, over, AreActs, AreInTurn, AreLast, IsNext, all_left_by, answered_of, answers_in, lines_with, open_by, waiting_in, left_at_end}
use Rattle.live_server.specs.Desks.{DeskShown, no_lines, desk_of, queued, waiting_at}
use Rattle.live_server.specs.declared.live.Live.{Live}
use Rattle.script_run.specs.declared.outcome.Outcome.{Outcome}
use Rattle.lock_name.specs.declared.lock.LockCommand.{LockCommand}
use Rattle.command.specs.declared.request.Command.{Command}
use Rattle.command.specs.declared.request.Command.TheVariants.{Lock}
use Rattle.command.specs.declared.request.Reply.{Reply}
use Rattle.command.specs.declared.request.Reply.TheVariants.{Had}
use Rattle.serial.specs.Answers.{told_by}
use Rattle.script.specs.Line.{IsReading, reading_of}
use Rattle.job_scripts.specs.Timeouts.{timeout_in}
use Rattle.script_run.specs.OpenJobs.{open_after}
use Rattle.script_run.specs.Replies.{IsGatheredAs}
use Rattle.script_run.specs.declared.answers.Script.{Script}

-- acts for lines that came and lines that waited, in an order that the jobs' lines have
pub record Follow (lines : List (List ℕ)) (acts : List Act) (start : Machine) (old : List DeskShown) (left : Option ℕ → List (List ℕ)) : Type 0 where
  pub each : AreActs start acts
  pub in_turn : (who : Option ℕ) → AreInTurn who (waiting_at who old) acts
  pub of_lines : (who : Option ℕ) → answered_of who acts ++ left who ≡ queued who old ++ lines_with who lines

-- none of the acts is a HALT at the end
abbrev pub none_over : List Act → Bool
none_over [] = true
none_over (answered line reply ∷ acts) = none_over acts
none_over (kept_off line ∷ acts) = none_over acts
none_over (over job ∷ acts) = false

-- jobs were halted so: none as long as lines may come, and then each behind its last
abbrev pub HaveHalted : Bool → (Option ℕ → List (List ℕ)) → List ℕ → List Act → Type 0
HaveHalted false left jobs acts = none_over acts ≡ true
HaveHalted true left jobs acts = AreLast left jobs acts

-- before the end of input or at it, the lines came, and each was done or waits; the replies are written or gathered
pub record RanAt (ended : Bool) (lines : List (List ℕ)) (old new : Live) (before now : Option (List ℕ)) : Type 0 where
  pub acts : List Act
  pub follow : Follow lines acts old.script.core.machine old.desks (λ who. queued who new.desks)
  pub halts : HaveHalted ended (λ who. queued who new.desks) old.script.jobs acts
  pub waits : (who : Option ℕ) → waiting_in who (waiting_at who old.desks) acts ≡ waiting_at who new.desks
  pub machine : new.script.core.machine ≡ all_left_by acts old.script.core.machine
  pub jobs : new.script.jobs ≡ open_by acts old.script.jobs
  pub outcome : new.script.outcome ≡ noted (answers_in acts) old.script.outcome
  pub good : IsGood old.script.core.machine → IsGood new.script.core.machine
  pub passes : WritesFront before now (old.script.out.items ++ text_of (answers_in acts)) new.script.out.items

-- the run broke off: a beginning of the replies was written
pub record BrokeAt (ended : Bool) (lines : List (List ℕ)) (old : Live) (before now : Option (List ℕ)) : Type 0 where
  pub acts : List Act
  pub left : Option ℕ → List (List ℕ)
  pub follow : Follow lines acts old.script.core.machine old.desks left
  pub halts : HaveHalted ended left old.script.jobs acts
  pub waits : (who : Option ℕ) → IsNext (waiting_in who (waiting_at who old.desks) acts) (left who)
  pub begun : WritesBeginning before now (old.script.out.items ++ text_of (answers_in acts))

-- the lines came while others may
abbrev pub Ran : List (List ℕ) → Live → Live → Option (List ℕ) → Option (List ℕ) → Type 0
Ran lines old new before now = RanAt false lines old new before now

-- the run broke off then
abbrev pub Broke : List (List ℕ) → Live → Option (List ℕ) → Option (List ℕ) → Type 0
Broke lines old before now = BrokeAt false lines old before now

-- all lines have come, and of those that waited some were done; jobs without lines may have been halted
abbrev pub Settled : Live → Live → Option (List ℕ) → Option (List ℕ) → Type 0
Settled old new before now = RanAt true [] old new before now

-- the run broke off then
abbrev pub Unsettled : Live → Option (List ℕ) → Option (List ℕ) → Type 0
Unsettled old before now = BrokeAt true [] old before now

-- memory was wanting in these lines: the run may break off, and what was gathered before is gathered still
pub record Lacked (lines : List (List ℕ)) (old new : Live) : Type 0 where
  pub broke : (text : Option (List ℕ)) → Broke lines old text text
  pub out : new.script.out.items ≡ old.script.out.items

-- lines at the front of the text came, up to the rest
pub record RanFront (text rest : List ℕ) (old new : Live) (before now : Option (List ℕ)) : Type 0 where
  pub lines : List (List ℕ)
  pub ran : Ran lines old new before now
  pub split : (more : List ℕ) → lines_of (text ++ more) ≡ lines ++ lines_of (rest ++ more)

-- the run broke off at the front of the text
pub record BrokeFront (text : List ℕ) (old : Live) (before now : Option (List ℕ)) : Type 0 where
  pub lines : List (List ℕ)
  pub rest : List ℕ
  pub broke : Broke lines old before now
  pub split : (more : List ℕ) → lines_of (text ++ more) ≡ lines ++ lines_of (rest ++ more)

-- a piece was taken, and the lines that end in it came
pub record HasTaken (were are begun next : List ℕ) (old new : Live) (before now : Option (List ℕ)) : Type 0 where
  pub piece : List ℕ
  pub taken : are ≡ were ++ piece
  pub front : RanFront (begun ++ piece) next old new before now
  pub whole : has_no_end next ≡ true

-- nothing was taken or done
pub record HasStood (were are begun next : List ℕ) (old new : Live) (before now : Option (List ℕ)) : Type 0 where
  pub taken : are ≡ were
  pub kept : next ≡ begun
  pub live : new ≡ old
  pub text : now ≡ before

-- these lines came at the end of input, others were done or wait on, and all replies were written
pub record HasSettled (lines : List (List ℕ)) (old new : Live) (before now : Option (List ℕ)) : Type 0 where
  pub ran : RanAt true lines old new before now
  pub empty : new.script.out.items ≡ []

-- a piece was taken, and the run broke off in it
pub record HasBrokenOff (were are begun : List ℕ) (old : Live) (before now : Option (List ℕ)) : Type 0 where
  pub piece : List ℕ
  pub taken : are ≡ were ++ piece
  pub broke : BrokeFront (begun ++ piece) old before now

-- ---- one line

-- no line of this job waits
abbrev pub IsIdle : Option ℕ → List DeskShown → Type 0
IsIdle None desks = ⊤
IsIdle (Some job) desks = (desk_of desks job).lines ≡ []

-- the command is a LOCK
abbrev pub IsLock : Command → Type 0
IsLock command = (lock : LockCommand) × (command ≡ Lock lock)

-- the line asks for a LOCK of this job
pub record AsksLock (line : List ℕ) (job : ℕ) : Type 0 where
  pub command : LockCommand
  pub asks : IsReading line (Ok (job, Lock command))

-- the reply is 0 only of a LOCK with a timeout
abbrev pub IsFair : List ℕ → Reply → Type 0
IsFair line reply = reply ≡ Had false → IsSome (timeout_in line)

-- the line was answered, and its reply gathered; so machine, text, outcome and open jobs were before
pub record IsDone (line : List ℕ) (start : Machine) (out : List ℕ) (before : Outcome) (were : List ℕ) (new : Script) : Type 0 where
  pub reply : Reply
  pub fair : IsFair line reply
  pub gathered : IsGatheredAs reply line start out before were new

-- the line is a LOCK that was tried in vain, which no reply tells
pub record IsKeptOff (line : List ℕ) (start : Machine) (out : List ℕ) (before : Outcome) (were : List ℕ) (new : Script) : Type 0 where
  pub answer : IsAnswer start line (Had false)
  pub machine : new.core.machine ≡ told_by (reading_of line) (Had false) start
  pub text : new.out.items ≡ out
  pub outcome : new.outcome ≡ before
  pub jobs : new.jobs ≡ open_after (accepted_job (reading_of line) (Had false)) (ends_session line (Had false)) were

-- the line was done, or it was a LOCK that is kept off
abbrev pub HasCome : Bool → List ℕ → Machine → List ℕ → Outcome → List ℕ → Script → Type 0
HasCome true line start out before were new = IsDone line start out before were new
HasCome false line start out before were new = IsKeptOff line start out before were new

-- nothing that is seen has changed
pub record IsKept (start : Machine) (out : List ℕ) (before : Outcome) (were : List ℕ) (new : Script) : Type 0 where
  pub machine : new.core.machine ≡ start
  pub text : new.out.items ≡ out
  pub outcome : new.outcome ≡ before
  pub jobs : new.jobs ≡ were

-- the line was done, or it waits on
abbrev pub HasTried : Bool → List ℕ → Machine → List ℕ → Outcome → List ℕ → Script → Type 0
HasTried true line start out before were new = IsDone line start out before were new
HasTried false line start out before were new = IsKept start out before were new

-- the line was answered, but its reply found no memory; what was gathered before is gathered still
pub record IsLostFairly (line : List ℕ) (start : Machine) (out : List ℕ) (new : Script) : Type 0 where
  pub reply : Reply
  pub fair : IsFair line reply
  pub answer : IsAnswer start line reply
  pub text : new.out.items ≡ out

-- ---- the end of input

-- what the acts leave, each job that is still open then halted
abbrev pub halted_after : List Act → Live → Machine
halted_after acts old = left_at_end acts old.script.jobs old.script.core.machine

-- these lines came, all that waited was done, the open jobs were halted, and all that was gathered and the ending were written
pub record RanEnd (listed : Bool) (lines : List (List ℕ)) (old new : Live) (before now : Option (List ℕ)) : Type 0 where
  pub acts : List Act
  pub follow : Follow lines acts old.script.core.machine old.desks (λ who. [])
  pub last : AreLast (λ who. []) old.script.jobs acts
  pub waits : (who : Option ℕ) → waiting_in who (waiting_at who old.desks) acts ≡ None
  pub outcome : new.script.outcome ≡ noted (answers_in acts) old.script.outcome
  pub good : IsGood old.script.core.machine → IsGood (halted_after acts old)
  pub written : Appends before now ((old.script.out.items ++ text_of (answers_in acts)) ++ ending listed (after (halted_after acts old).units initial).map)

-- a beginning of that was written
pub record BrokeEnd (listed : Bool) (lines : List (List ℕ)) (old : Live) (before now : Option (List ℕ)) : Type 0 where
  pub acts : List Act
  pub left : Option ℕ → List (List ℕ)
  pub behind : List ℕ
  pub follow : Follow lines acts old.script.core.machine old.desks left
  pub last : AreLast left old.script.jobs acts
  pub waits : (who : Option ℕ) → IsNext (waiting_in who (waiting_at who old.desks) acts) (left who)
  pub front : (behind ≡ []) ⊎ (((who : Option ℕ) → left who ≡ []) × (behind ≡ ending listed (after (halted_after acts old).units initial).map))
  pub begun : WritesBeginning before now ((old.script.out.items ++ text_of (answers_in acts)) ++ behind)

-- a run that begins
pub record IsNew (live : Live) : Type 0 where
  pub good : IsGood live.script.core.machine
  pub jobs : live.script.jobs ≡ []
  pub out : live.script.out.items ≡ []
  pub outcome : live.script.outcome ≡ outcome_of []
  pub desks : (job : ℕ) → desk_of live.desks job ≡ no_lines
