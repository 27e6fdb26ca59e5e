-- What a job's sessions were told from the first on, as a history of the machine; and all of these are one run.
-- Read IsToldOn, HasHistory and HasClosed, the laws HistoriesBegin to HistoriesEnd, then JobTold and SessionsAreOneRun.
use Rattle.std.specs.Prelude.{◌≡◌, ◌≢◌, ⊤, ℕ, ◌+◌, ◌^◌, ◌≤◌, ◌<◌, List, [], ◌∷◌, ◌++◌, length, map, Option, None}
use Rattle.command.specs.declared.request.Command.{Command}
use Rattle.command.specs.declared.request.Command.TheVariants.{Halt}
use Rattle.command.specs.declared.request.Reply.{Reply}
use Rattle.command.specs.declared.request.Reply.TheVariants.{Finished}
use Rattle.journal.specs.declared.unit.Unit.{Unit as JournalUnit}
use Rattle.journal.specs.Story.{Transaction, nothing_done, transaction_of}
use Rattle.serial.specs.Interleaving.{Told, step_in, reply_in, of_job, IsHistory, IsWritten, upto_of, after_all_told, IsClaimed, IsOneRun}
use Rattle.job_core.specs.Sessions.{idle}
use Rattle.pin_board.specs.Slips.{IsBeginning}
use Rattle.shared_engine.specs.Receipts.{Book}
use Rattle.shared_engine.specs.Sessions.{Held, held, knowing, halted}
use Rattle.shared_engine.specs.Engines.{AreAllUnits}
use Rattle.shared_engine.specs.Blocks.{AreDone}
use Rattle.shared_engine.specs.Steps.{transaction_in, IsStanding, WasDone, step_at}

-- in this journal these are the job's steps from nothing on, and this is its transaction behind them
pub record IsToldOn (log : List JournalUnit) (xs : List Told) (job : ℕ) (left : Option Transaction) : Type 0 where
  pub history : IsHistory log job 0 nothing_done xs
  pub transaction : transaction_of job (after_all_told log nothing_done xs) ≡ left

-- the journal goes on from each of these
abbrev pub GoesOnFromAll : List JournalUnit → List (List JournalUnit) → Type 0
GoesOnFromAll log [] = ⊤
GoesOnFromAll log (seen ∷ known) = IsBeginning log seen × GoesOnFromAll log known

-- the units with these claims were written by these steps
abbrev pub Wrote : List Told → Book → Type 0
Wrote xs b = (k : ℕ) → IsClaimed (k + 1) (b.receipts ++ b.others) → IsWritten k xs

-- what the session's job was told: its steps in each journal that goes on from what this session has seen and from what
-- those before it had; they stand in what it has seen, and wrote all its units
pub record HasHistory (known : List (List JournalUnit)) (xs : List Told) (s : Held) : Type 0 where
  pub told : (log : List JournalUnit) → GoesOnFromAll log (s.seen ∷ known) → length log < 2 ^ 64 → IsToldOn log xs s.state.work.job (transaction_in s)
  pub upto : upto_of 0 xs ≤ length s.seen
  pub standing : IsStanding s
  pub written : (k : ℕ) → IsClaimed (k + 1) (s.receipts ++ s.others) → IsWritten k xs

-- the same of a session that is over
pub record HasClosed (known : List (List JournalUnit)) (xs : List Told) (b : Book) : Type 0 where
  pub told : (log : List JournalUnit) → GoesOnFromAll log (b.seen ∷ known) → length log < 2 ^ 64 → IsToldOn log xs b.job None
  pub upto : upto_of 0 xs ≤ length b.seen
  pub written : Wrote xs b

-- a job's first session begins
abbrev pub HistoriesBegin : Type 0
HistoriesBegin = (job : ℕ) → (units : List JournalUnit) → HasHistory [] [] (held (idle job) None [] [] units)

-- and another, behind all that the job was told
abbrev pub HistoriesBeginAgain : Type 0
HistoriesBeginAgain = (known : List (List JournalUnit)) → (xs : List Told) → (b : Book) → (units : List JournalUnit) → HasClosed known xs b → upto_of 0 xs ≤ length units → HasHistory (b.seen ∷ known) xs (held (idle b.job) None [] [] units)

-- the session has seen more
abbrev pub HistoriesKnow : Type 0
HistoriesKnow = (known : List (List JournalUnit)) → (xs : List Told) → (units : List JournalUnit) → (s : Held) → HasHistory known xs s → IsBeginning units s.seen → HasHistory known xs (knowing units s)

-- a command was done
abbrev pub HistoriesGoOn : Type 0
HistoriesGoOn = (known : List (List JournalUnit)) → (xs : List Told) → (units : List JournalUnit) → (command : Command) → (reply : Reply) → (old new : Held) → HasHistory known xs old → WasDone command reply units new.seen old new → IsBeginning units old.seen
    → HasHistory known (xs ++ step_at old.state.work.job command reply units (length new.seen) ∷ []) new

-- these are the commands of the job, with these replies
pub record AreStepsOf (job : ℕ) (commands : List Command) (replies : List Reply) (ys : List Told) : Type 0 where
  pub commands_are : map step_in ys ≡ map (λ (c : Command). (job, c)) commands
  pub replies_are : map reply_in ys ≡ replies

-- the commands of a block were done
abbrev pub HistoriesGoOnByBlocks : Type 0
HistoriesGoOnByBlocks = (known : List (List JournalUnit)) → (xs : List Told) → (commands : List Command) → (replies : List Reply) → (units : List JournalUnit) → (old new : Held) → HasHistory known xs old → AreDone commands replies units new.seen old new → old.seen ≡ units
    → (ys : List Told) × AreStepsOf old.state.work.job commands replies ys × HasHistory known (xs ++ ys) new

-- the session is over
abbrev pub HistoriesEnd : Type 0
HistoriesEnd = (known : List (List JournalUnit)) → (xs : List Told) → (units : List JournalUnit) → (s : Held) → HasHistory known xs s → IsBeginning units s.seen
    → HasClosed known (xs ++ step_at s.state.work.job Halt Finished units (length (halted units s).seen) ∷ []) (halted units s)

-- ---- all jobs

-- what a job was told, and its books
pub record JobTold : Type 0 where
  pub job : ℕ
  pub steps : List Told
  pub books : List Book

abbrev pub books_of : List JobTold → List Book
books_of [] = []
books_of (t ∷ ts) = t.books ++ books_of ts

-- no other of them is this job's
abbrev pub IsNoneOf : ℕ → List JobTold → Type 0
IsNoneOf job [] = ⊤
IsNoneOf job (t ∷ ts) = (t.job ≢ job) × IsNoneOf job ts

-- its steps are a history in the journal, and wrote the units of its books
abbrev pub WroteAll : List Told → List Book → Type 0
WroteAll xs [] = ⊤
WroteAll xs (b ∷ bs) = Wrote xs b × WroteAll xs bs

-- each is a job of its own, whose steps are a history in the journal, and wrote the units of its books
abbrev pub AreToldOf : List JournalUnit → List JobTold → Type 0
AreToldOf log [] = ⊤
AreToldOf log (t ∷ ts) = (IsHistory log t.job 0 nothing_done t.steps × WroteAll t.steps t.books) × (IsNoneOf t.job ts × AreToldOf log ts)

-- in a list of steps each job's are these, in order
abbrev pub HasStepsOf : List Told → List JobTold → Type 0
HasStepsOf ys [] = ⊤
HasStepsOf ys (t ∷ ts) = (of_job t.job ys ≡ t.steps) × HasStepsOf ys ts

-- where the books of all jobs have all units, what the jobs were told is one run of the exact machine from nothing on,
-- each job's steps in order, of which the journal is the story
abbrev pub SessionsAreOneRun : Type 0
SessionsAreOneRun = (log : List JournalUnit) → (all : List JobTold) → AreToldOf log all → AreAllUnits log (books_of all) → (ys : List Told) × HasStepsOf ys all × IsOneRun log nothing_done ys
