-- What a job's sessions did, step by step, and how a report shows it.
-- Read HasStepped, IsStepIn, IsBetweenIn and AreSteps; then IsReplied, IsShownBy, AreTries, AreShown and AreShownToEnd.
use Rattle.std.specs.Prelude.{◌≡◌, ◌≢◌, ◌⊎◌, ⊤, ℕ, ◌≤◌, false, List, [], ◌∷◌, ◌++◌, length, Option, None, Some}
use Rattle.std.specs.List.{All}
use Rattle.refusal.specs.declared.Refusal.{Refusal}
use Rattle.lock_name.specs.declared.lock.LockCommand.{LockCommand}
use Rattle.command.specs.declared.request.Command.{Command}
use Rattle.command.specs.declared.request.Command.TheVariants.{Lock as lock_command, Start, Commit, Rollback, Restart, Halt}
use Rattle.command.specs.declared.request.Reply.{Reply}
use Rattle.command.specs.declared.request.Reply.TheVariants.{Finished, Had, AtLevel, Committed, Restarted, Refused}
use Rattle.journal.specs.declared.unit.Unit.{Unit as JournalUnit}
use Rattle.serial.specs.Interleaving.{Told}
use Rattle.job_core.specs.Sessions.{idle}
use Rattle.pin_board.specs.Slips.{IsBeginning}
use Rattle.shared_engine.specs.Receipts.{Book}
use Rattle.shared_engine.specs.Sessions.{Held, held, knowing, halted}
use Rattle.shared_engine.specs.Steps.{IsStanding, WasDone, step_at}
use Rattle.shared_engine.specs.Blocks.{IsNoRestart}
use Rattle.job_scripts.specs.Lines.{Asks, IsRefusedAs}
use Rattle.job_scripts.specs.Timeouts.{has_timeout}

-- ---- what was done

-- the sessions that ended: how many units there were before the first began, and their books
pub record Past : Type 0 where
  pub since : ℕ
  pub books : List Book

abbrev pub past : ℕ → List Book → Past
past since books = record { since = since; books = books }

-- one more has ended
abbrev pub and_book : Past → Book → Past
and_book p b = past p.since (p.books ++ b ∷ [])

-- the sessions so far: those that ended, and the one that is there
pub record SessionsSoFar : Type 0 where
  pub past : Past
  pub session : Option Held

abbrev pub sessions_so_far : Past → Option Held → SessionsSoFar
sessions_so_far p session = record { past = p; session = session }

-- none yet, where there are so many units
abbrev pub none_since : ℕ → SessionsSoFar
none_since n = sessions_so_far (past n []) None

-- the session has seen more
abbrev pub KnowsMore : Held → Held → Type 0
KnowsMore old new = (units : List JournalUnit) × IsBeginning units old.seen × (new ≡ knowing units old)

-- a session that stands as the machine has it did this step, on units that go on from all that it had seen
pub record HasStepped (x : Told) (old new : Held) : Type 0 where
  pub units : List JournalUnit
  pub goes_on : IsBeginning units old.seen
  pub at : x ≡ step_at old.state.work.job x.command x.reply units (length new.seen)
  pub done : IsStanding old → WasDone x.command x.reply units new.seen old new

-- a session's call did a command, which was replied so
abbrev pub IsDoneOnce : Command → Reply → Held → Held → Type 0
IsDoneOnce command reply old new = (units : List JournalUnit) × IsBeginning units old.seen × (IsStanding old → WasDone command reply units new.seen old new)

-- a LOCK that waited was done twice: it was blocked at first, and then it wasn't
abbrev pub IsDoneTwice : Command → Reply → Held → Held → Type 0
IsDoneTwice command reply old new = (c : LockCommand) × (command ≡ lock_command c) × (middle : Held) × IsDoneOnce command (Had false) old middle × (reply ≢ Had false) × IsDoneOnce command reply middle new

abbrev pub WasDoneBy : Command → Reply → Held → Held → Type 0
WasDoneBy command reply old new = IsDoneOnce command reply old new ⊎ IsDoneTwice command reply old new

-- the sessions of these books had seen no more units than so many
abbrev pub AreBefore : ℕ → List Book → Type 0
AreBefore n [] = ⊤
AreBefore n (b ∷ bs) = (length b.seen ≤ n) × AreBefore n bs

-- all of them were over when there were so many
abbrev pub IsOver : Past → ℕ → Type 0
IsOver p n = (p.since ≤ n) × AreBefore n p.books

-- a session of the job has just begun, behind these
abbrev pub IsBegunBehind : ℕ → Past → Held → Type 0
IsBegunBehind job p h = (units : List JournalUnit) × IsOver p (length units) × (h ≡ held (idle job) None [] [] units)

-- between two steps a session may begin, behind those before it, and may see more
abbrev pub IsBetweenIn : ℕ → Past → Option Held → Option Held → Type 0
IsBetweenIn job p None None = ⊤
IsBetweenIn job p None (Some new) = IsBegunBehind job p new
IsBetweenIn job p (Some old) None = ⊥
IsBetweenIn job p (Some old) (Some new) = KnowsMore old new

abbrev pub IsBetween : ℕ → SessionsSoFar → SessionsSoFar → Type 0
IsBetween job old new = (new.past ≡ old.past) × IsBetweenIn job old.past old.session new.session

-- a step of the job: of its session, or the end of that
abbrev pub IsStepIn : Told → Past → Option Held → Past → Option Held → Type 0
IsStepIn x p None more later = ⊥
IsStepIn x p (Some old) more None =
    (units : List JournalUnit) × IsBeginning units old.seen × (x ≡ step_at old.state.work.job Halt Finished units (length (halted units old).seen)) × (more ≡ and_book p (halted units old))
IsStepIn x p (Some old) more (Some new) = HasStepped x old new × (more ≡ p)

abbrev pub IsStep : Told → SessionsSoFar → SessionsSoFar → Type 0
IsStep x old new = IsStepIn x old.past old.session new.past new.session

-- from these sessions to those the job did these steps, in order
abbrev pub AreSteps : ℕ → List Told → SessionsSoFar → SessionsSoFar → Type 0
AreSteps job [] old new = IsBetween job old new
AreSteps job (x ∷ xs) old new = (before after : SessionsSoFar) × IsBetween job old before × IsStep x before after × AreSteps job xs after new

-- it did such
abbrev pub HasDoneSteps : (List Told → Type 0) → ℕ → SessionsSoFar → SessionsSoFar → Type 0
HasDoneSteps shows job old new = (xs : List Told) × shows xs × AreSteps job xs old new

-- none
abbrev pub IsNoStep : List Told → Type 0
IsNoStep xs = xs ≡ []

-- ---- how a report shows it

-- a step of this command, which was replied so
abbrev pub IsStepWith : Command → Reply → Told → Type 0
IsStepWith command reply x = (x.command ≡ command) × (x.reply ≡ reply)

-- a command was replied so; a LOCK perhaps behind one try that was blocked, if it then wasn't
abbrev pub IsReplied : Command → Reply → List Told → Type 0
IsReplied command reply [] = ⊥
IsReplied command reply (x ∷ []) = IsStepWith command reply x
IsReplied command reply (x ∷ (y ∷ ys)) = IsStepWith command (Had false) x × IsStepWith command reply y × (reply ≢ Had false) × (ys ≡ [])

-- a line without a timeout is never replied that its LOCK was blocked
abbrev pub IsHad : List ℕ → Reply → Type 0
IsHad line reply = has_timeout line ≡ false → reply ≢ Had false

-- the line is refused so, and is no step; or asks for a command that was replied so, a TCOMMIT not that its transaction began anew
abbrev pub IsShownBy : ℕ → List ℕ → Reply → List Told → Type 0
IsShownBy job line reply xs =
    ((refusal : Refusal) × IsRefusedAs job line refusal × (reply ≡ Refused refusal) × (xs ≡ []))
    ⊎ ((command : Command) × Asks job line command × IsHad line reply × IsNoRestart command reply × IsReplied command reply xs)

-- one of the lines asks for this command, of the job
abbrev pub OneAsks : ℕ → List (List ℕ) → Command → Type 0
OneAsks job [] command = ⊥
OneAsks job (line ∷ lines) command = Asks job line command ⊎ OneAsks job lines command

-- no TCOMMIT that has committed, and no TROLLBACK or HALT that was done
abbrev pub IsNoEnd : Command → Reply → Type 0
IsNoEnd command reply = (command ≡ Commit → reply ≢ Committed) × ((command ≡ Rollback) ⊎ (command ≡ Halt) → reply ≢ Finished)

-- a step of a try: one of the lines asks for its command, or the server began the transaction anew; and it ends none
abbrev pub IsOfTry : ℕ → List (List ℕ) → Told → Type 0
IsOfTry job lines x = ((x.command ≡ Restart) ⊎ OneAsks job lines x.command) × IsNoEnd x.command x.reply

-- the last of the steps, where there is one, is such
abbrev pub EndWith : (Told → Type 0) → List Told → Type 0
EndWith is [] = ⊤
EndWith is (x ∷ []) = is x
EndWith is (x ∷ (y ∷ ys)) = EndWith is (y ∷ ys)

-- tries of these lines that no reply tells of: no step ends the transaction, and the last begins it anew
abbrev pub AreTries : ℕ → List (List ℕ) → List Told → Type 0
AreTries job lines xs = All (IsOfTry job lines) xs × EndWith (λ (x : Told). (restarts : ℕ) × (x.reply ≡ Restarted restarts)) xs

-- only a TSTART that began a transaction has such behind it
abbrev pub MayBeTried : ℕ → List ℕ → Reply → List Told → Type 0
MayBeTried job line reply xs = (Asks job line Start × (reply ≡ AtLevel 1)) ⊎ (xs ≡ [])

-- the replies to lines show these steps, each line its own; behind an outermost TSTART there may be tries of the lines behind it, first of these, then of those left
abbrev pub AreShown : ℕ → List (List ℕ) → List (List ℕ) → List Reply → List Told → Type 0
AreShown job left [] [] xs = xs ≡ []
AreShown job left (line ∷ lines) (reply ∷ replies) xs =
    (own tries rest : List Told) × (xs ≡ own ++ (tries ++ rest)) × IsShownBy job line reply own × MayBeTried job line reply tries × AreTries job (lines ++ left) tries × AreShown job left lines replies rest
AreShown job left lines replies xs = ⊥

-- a job's last step is a HALT: its last line's, or one more at the end
abbrev pub AreShownToEnd : ℕ → List (List ℕ) → List Reply → List Told → Type 0
AreShownToEnd job lines replies xs =
    EndWith (IsStepWith Halt Finished) xs × (own last : List Told) × (xs ≡ own ++ last) × AreShown job [] lines replies own × ((last ≡ []) ⊎ IsReplied Halt Finished last)

-- a script's replies show all steps of the sessions that left these books, which began when there were so many units or more; without a job there
-- is no session, and its lines show no step, as those of job 0, whose no line is
abbrev pub HasRunScript : ℕ → Option ℕ → List (List ℕ) → List Reply → List Book → Type 0
HasRunScript since None lines replies books = (books ≡ []) × AreShown 0 [] lines replies []
HasRunScript since (Some job) lines replies books = HasDoneSteps (AreShownToEnd job lines replies) job (none_since since) (sessions_so_far (past since books) None)
