-- How a job goes on while its lines are done: its replies so far, its sessions, and the steps that they did.
-- Read HasLocked, Serves, Advances, Begins, IsBack and HasTriedAlone.
use Rattle.std.specs.Prelude.{◌≡◌, ◌≢◌, ◌⊎◌, ⊤, ℕ, ◌≤◌, Bool, true, false, List, [], ◌∷◌, ◌++◌, length, Option, None, Some, Result, Ok, Err}
use Rattle.std.specs.Borrow.{Bor}
use Rattle.std.specs.List.{All}
use Rattle.refusal.specs.declared.Refusal.{Refusal}
use Rattle.lock_name.specs.declared.lock.LockCommand.{LockCommand}
use Rattle.command.specs.declared.request.Command.{Command}
use Rattle.command.specs.declared.request.Command.TheVariants.{Lock as lock_command, Commit, Rollback, Restart, Halt}
use Rattle.command.specs.declared.request.Reply.{Reply}
use Rattle.command.specs.declared.request.Reply.TheVariants.{Finished, AtLevel, Committed, Restarted, Refused}
use Rattle.journal.specs.declared.unit.Unit.{Unit as JournalUnit}
use Rattle.serial.specs.Interleaving.{Told}
use Rattle.serial.specs.Machine.{told_had}
use Rattle.pin_board.specs.Slips.{IsBeginning}
use Rattle.shared_engine.specs.Sessions.{Held, begun_anew}
use Rattle.shared_engine.specs.Engines.{gone_back}
use Rattle.shared_engine.specs.Blocks.{said, is_blocked, HasItsNames, WasBlocked, WasRefused, HasCome}
use Rattle.shared_engine.specs.declared.serial_run.SerialRun.{SerialRun}
use Rattle.job_scripts.specs.Lines.{lent_lines, Asks}
use Rattle.job_scripts.specs.Timeouts.{timeout_in}
use Rattle.job_server.specs.Steps.{SessionsSoFar, none_since, WasDoneBy, HasDoneSteps, IsReplied, IsHad, IsNoEnd, AreTries, AreShown}
use Rattle.job_server.specs.declared.blocks.Tried.{Tried}
use Rattle.job_server.specs.declared.blocks.Tried.TheVariants.{Within, Over, Back}
use Rattle.job_server.specs.declared.cursor.Cursor.{Cursor}
use Rattle.job_server.specs.declared.cursor.Line.{Line}

-- what a LOCK answered, and what it left
abbrev pub HasLocked : LockCommand → Result Bool Refusal → Held → Held → Type 0
HasLocked command (Ok true) old new = HasItsNames command old new
HasLocked command (Ok false) old new = WasBlocked command old new
HasLocked command (Err refusal) old new = WasRefused command refusal old new

-- what was read of a line is no TCOMMIT
abbrev pub IsNoCommit : Result Command Refusal → Type 0
IsNoCommit (Ok command) = command ≢ Commit
IsNoCommit (Err refusal) = Unit {0}

-- what was read of a line ends no transaction
abbrev pub EndsNone : Result Command Refusal → Type 0
EndsNone (Ok command) = (command ≢ Commit) × (command ≢ Rollback) × (command ≢ Halt)
EndsNone (Err refusal) = Unit {0}

-- a line without so many milliseconds isn't replied that its LOCK was blocked
abbrev pub IsUnblocked : List ℕ → Reply → Type 0
IsUnblocked line reply = timeout_in line ≡ None → is_blocked true reply ≡ false

-- the command that was read of a line was replied so, a TCOMMIT perhaps that its transaction began anew; or the line was refused, and that is no step
abbrev pub IsDoneAs : List ℕ → Result Command Refusal → Reply → List Told → Type 0
IsDoneAs line (Ok command) reply xs = IsHad line reply × IsReplied command reply xs
IsDoneAs line (Err refusal) reply xs = (reply ≡ Refused refusal) × (xs ≡ [])

-- the job's session has ended, where it had one
abbrev pub HasStopped : ℕ → SessionsSoFar → SessionsSoFar → Type 0
HasStopped job old new = ((new ≡ old) × (old.session ≡ None)) ⊎ (HasDoneSteps (IsReplied Halt Finished) job old new × (new.session ≡ None))

-- ---- lines

-- lines without a job, in front of the rest, were refused
pub record Refuses (lines rest : List (List ℕ)) (old new : List Reply) : Type 0 where
  pub their_replies : List Reply
  pub replied : new ≡ old ++ their_replies
  pub replies_are : (later : List Reply) → AreShown 0 [] rest later [] → AreShown 0 [] lines (their_replies ++ later) []

-- the replies so far, and the sessions
pub record Running : Type 0 where
  pub replies : List Reply
  pub sessions : SessionsSoFar

abbrev pub running : List Reply → SessionsSoFar → Running
running replies sessions = record { replies = replies; sessions = sessions }

-- before the first line, where there are so many units
abbrev pub not_begun : ℕ → Running
not_begun since = running [] (none_since since)

-- the lines in front of the rest were done, by steps that their replies show, which are behind those before
pub record Serves (job : ℕ) (lines rest : List (List ℕ)) (old new : Running) : Type 0 where
  pub lines_done : List (List ℕ)
  pub their_replies : List Reply
  pub split : lines ≡ lines_done ++ rest
  pub replied : new.replies ≡ old.replies ++ their_replies
  pub steps : HasDoneSteps (AreShown job rest lines_done their_replies) job old.sessions new.sessions

-- no command that the line asks for has ended its transaction, if it was replied so
abbrev pub IsWithin : ℕ → List ℕ → Reply → Type 0
IsWithin job line reply = (command : Command) → Asks job line command → IsNoEnd command reply

-- the same of each line
abbrev pub AreWithin : ℕ → List (List ℕ) → List Reply → Type 0
AreWithin job [] [] = ⊤
AreWithin job [] (reply ∷ replies) = ⊥
AreWithin job (line ∷ lines) [] = ⊥
AreWithin job (line ∷ lines) (reply ∷ replies) = IsWithin job line reply × AreWithin job lines replies

-- and none of these lines has ended a transaction
abbrev pub ServesWithin : ℕ → List (List ℕ) → List (List ℕ) → Running → Running → Type 0
ServesWithin job lines rest old new = (serves : Serves job lines rest old new) × AreWithin job serves.lines_done serves.their_replies

-- a line was done, and perhaps some of those behind it, up to this place
pub record Advances (job : ℕ) (line : Line) (behind : Cursor) (old new : Running) : Type 0 where
  pub fewer : length behind.lines.now ≤ length line.next.lines.now
  pub serves : Serves job (line.text.now ∷ lent_lines line.next.lines.now) (lent_lines behind.lines.now) old new

-- and none of them has ended a transaction
abbrev pub AdvancesWithin : ℕ → Line → Cursor → Running → Running → Type 0
AdvancesWithin job line behind old new = (advances : Advances job line behind old new) × AreWithin job advances.serves.lines_done advances.serves.their_replies

-- these lines were done, up to this place
pub record Reaches (job : ℕ) (text : List (Bor (List ℕ))) (behind : Cursor) (old new : Running) : Type 0 where
  pub fewer : length behind.lines.now ≤ length text
  pub serves : Serves job (lent_lines text) (lent_lines behind.lines.now) old new

-- and none of them has ended a transaction
abbrev pub ReachesWithin : ℕ → List (Bor (List ℕ)) → Cursor → Running → Running → Type 0
ReachesWithin job text behind old new = (reaches : Reaches job text behind old new) × AreWithin job reaches.serves.lines_done reaches.serves.their_replies

-- ---- blocks

-- none of the commands is HALT
abbrev pub HaveNoHalt : List Command → Type 0
HaveNoHalt commands = All (λ (c : Command). c ≢ Halt) commands

-- its transaction began anew, and it did a block in it, or a part of that
abbrev pub HasRunAnew : List Bool → List Command → SerialRun → Option Held → Option Held → Type 0
HasRunAnew musts commands run None later = ⊥
HasRunAnew musts commands run (Some old) None = ⊥
HasRunAnew musts commands run (Some old) (Some new) =
    (1 ≤ old.state.level) × (units : List JournalUnit) × IsBeginning units old.seen × HasCome musts commands run (gone_back old.state units) new.seen (begun_anew (gone_back old.state units) old) new

-- it began anew, by a call that did TRESTART
abbrev pub BeganAnew : Held → Held → Type 0
BeganAnew old new = (restarts : ℕ) × WasDoneBy Restart (Restarted restarts) old new

-- a LOCK was tried in a transaction that had begun anew, and then it has begun anew once more
pub record HasWaited (command : LockCommand) (old new : Held) : Type 0 where
  pub begun : Held
  pub locked : Held
  pub done : Result Bool Refusal
  pub first : BeganAnew old begun
  pub tried : WasDoneBy (lock_command command) (said (told_had command) done) begun locked
  pub last : BeganAnew locked new

-- the same of a job's session
abbrev pub HasWaitedFor : LockCommand → Option Held → Option Held → Type 0
HasWaitedFor command None later = ⊥
HasWaitedFor command (Some old) None = ⊥
HasWaitedFor command (Some old) (Some new) = HasWaited command old new

-- a TSTART has begun a transaction, and its lines may have been tried
pub record Begins (job : ℕ) (line : Line) (old new : Running) : Type 0 where
  pub replied : new.replies ≡ old.replies ++ AtLevel 1 ∷ []
  pub steps : HasDoneSteps (AreShown job (lent_lines line.next.lines.now) (line.text.now ∷ []) (AtLevel 1 ∷ [])) job old.sessions new.sessions

-- a TSTART has begun no transaction, by its reply
abbrev pub BeginsNone : Running → Running → Type 0
BeginsNone old new = (reply : Reply) × (reply ≢ AtLevel 1) × (new.replies ≡ old.replies ++ reply ∷ [])

-- a command has ended its transaction, by its reply
abbrev pub EndsOne : Running → Running → Type 0
EndsOne old new = (reply : Reply) × ((reply ≡ Committed) ⊎ (reply ≡ Finished)) × (new.replies ≡ old.replies ++ reply ∷ [])

-- the command of this line began the transaction anew, and no reply was kept
abbrev pub WasOvertaken : ℕ → List ℕ → Running → Running → Type 0
WasOvertaken job line old new =
    (new.replies ≡ old.replies) × (command : Command) × Asks job line command × (restarts : ℕ) × HasDoneSteps (IsReplied command (Restarted restarts)) job old.sessions new.sessions

-- a line of a block was tried: it was done, and perhaps some of those behind it, up to this place; or it ended the transaction; or began that anew
abbrev pub HasTried : ℕ → Line → Tried → Running → Running → Type 0
HasTried job line (Within behind) old new = AdvancesWithin job line behind old new
HasTried job line (Over behind) old new = Advances job line behind old new × EndsOne old new
HasTried job line Back old new = WasOvertaken job line.text.now old new

-- these lines were tried, and the transaction began anew
abbrev pub IsBack : ℕ → List (Bor (List ℕ)) → Running → Running → Type 0
IsBack job text old new = HasDoneSteps (AreTries job (lent_lines text)) job old.sessions new.sessions

-- and no reply was kept
abbrev pub IsBackAt : ℕ → List (Bor (List ℕ)) → Running → Running → Type 0
IsBackAt job text old new = IsBack job text old new × (new.replies ≡ old.replies)

-- the job went back so, and perhaps the lines of a block were done from there, up to this place
abbrev pub HasTriedAlone : ℕ → List (Bor (List ℕ)) → Option Cursor → Running → Running → Type 0
HasTriedAlone job text None old new = IsBackAt job text old new
HasTriedAlone job text (Some behind) old new = (middle : Running) × IsBackAt job text old middle × Reaches job text behind middle new
