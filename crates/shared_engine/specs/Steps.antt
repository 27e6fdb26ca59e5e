-- A step of a session is one of the exact machine, where it stands in the journal.
-- Read transaction_in, IsStanding, WasDone, IsStepOn and IsExactStep, then StepsAreExact and HaltsAreExact.
use Rattle.std.specs.Prelude.{◌≡◌, ◌⊎◌, ℕ, ◌+◌, ◌^◌, ◌≤◌, ◌<◌, nat_lt, List, ◌++◌, length, Option, None, Some, Result, Ok, Err, if◌then◌else◌}
use Rattle.refusal.specs.declared.Refusal.{Refusal}
use Rattle.command.specs.declared.request.Command.{Command}
use Rattle.command.specs.declared.request.Command.TheVariants.{Commit, Halt}
use Rattle.command.specs.declared.request.Reply.{Reply}
use Rattle.command.specs.declared.request.Reply.TheVariants.{Finished, Committed as committed_reply, Restarted as restarted_reply, Refused}
use Rattle.journal.specs.declared.unit.Unit.{Unit as JournalUnit}
use Rattle.journal.specs.Kept.{Claim, HasNoRoom}
use Rattle.journal.specs.Story.{Transaction, Machine, transaction_of}
use Rattle.serial.specs.Interleaving.{Told, after_told, IsToldAt, IsClaimed}
use Rattle.validate_commit.specs.Verdicts.{IsCauseAtCommit}
use Rattle.job_core.specs.Sessions.{shown}
use Rattle.pin_board.specs.Slips.{IsBeginning}
use Rattle.shared_engine.specs.Receipts.{Book}
use Rattle.shared_engine.specs.Sessions.{Held, halted}
use Rattle.shared_engine.specs.Engines.{HasEnded, IsCauseAtRestart}
use Rattle.shared_engine.specs.Blocks.{said, HasSeen, HasDone}
use Rattle.shared_engine.specs.declared.locked.Ended.{Ended}
use Rattle.shared_engine.specs.declared.locked.Ended.TheVariants.{Committed, Restarted}

-- the session's transaction, as the machine has it
abbrev pub transaction_in : Held → Option Transaction
transaction_in s = if nat_lt 0 s.state.level then Some (shown s.state) else None

-- the transaction began where so many units stood, and what was seen goes on from these
abbrev pub IsOpenFrom : Option (List JournalUnit) → ℕ → List JournalUnit → Type 0
IsOpenFrom None start seen = ⊥
IsOpenFrom (Some base) start seen = (start ≡ length base) × IsBeginning seen base

-- outside a transaction nothing was restarted, and an open one began on a beginning of what the session has seen
pub record IsStanding (s : Held) : Type 0 where
  pub outside : s.state.level ≡ 0 → s.state.restarts ≡ 0
  pub inside : 1 ≤ s.state.level → IsOpenFrom s.start s.state.work.start s.seen

-- what an outermost TCOMMIT is replied that ended so
abbrev pub reply_at_end : Ended → Reply
reply_at_end Committed = committed_reply
reply_at_end (Restarted restarts) = restarted_reply restarts

-- an outermost TCOMMIT of a transaction that others may have overtaken
abbrev pub WasEnded : Result Ended Refusal → List JournalUnit → List JournalUnit → Held → Held → Type 0
WasEnded (Ok end) units more old new = HasEnded end units more old new
WasEnded (Err refusal) units more old new = (IsCauseAtCommit refusal old.state.work units ⊎ IsCauseAtRestart refusal old.state units) × HasSeen units more old new

-- the outermost TCOMMIT was done
abbrev pub WasCommitted : Command → Reply → List JournalUnit → List JournalUnit → Held → Held → Type 0
WasCommitted command reply units more old new = (command ≡ Commit) × ((old.state.level ≡ 1) × ((result : Result Ended Refusal) × (reply ≡ said reply_at_end result) × WasEnded result units more old new))

-- HALT was refused, and the session goes on
abbrev pub WasNotHalted : Command → Reply → List JournalUnit → List JournalUnit → Held → Held → Type 0
WasNotHalted command reply units more old new = (command ≡ Halt) × ((refusal : Refusal) × (reply ≡ Refused refusal) × (HasNoRoom refusal 1 (length units) × HasSeen units more old new))

-- a command of a session was done, others before and behind it
abbrev pub WasDone : Command → Reply → List JournalUnit → List JournalUnit → Held → Held → Type 0
WasDone command reply units more old new = HasDone command reply units more old new ⊎ (WasCommitted command reply units more old new ⊎ WasNotHalted command reply units more old new)

-- a step of a job, done where these units stood, behind which so many stand
abbrev pub step_at : ℕ → Command → Reply → List JournalUnit → ℕ → Told
step_at job command reply units upto = record { job = job; command = command; reply = reply; at = length units; upto = upto }

-- the unit of each claim that wasn't there before is the one that this step wrote
abbrev pub AreWrittenBy : Told → List Claim → List Claim → Type 0
AreWrittenBy x old new = (k : ℕ) → IsClaimed (k + 1) new → IsClaimed (k + 1) old ⊎ ((x.at ≡ k) × (x.upto ≡ k + 1))

-- in each journal that goes on from what the session had seen behind it, and on any machine that has this transaction of
-- the job, it is the machine's step, behind which the transaction is that one
abbrev pub IsStepOn : Told → ℕ → List JournalUnit → Option Transaction → Option Transaction → Type 0
IsStepOn x most seen before left =
    (log : List JournalUnit) → (n : ℕ) → (m : Machine) → n ≤ most → transaction_of x.job m ≡ before → IsBeginning log seen → length log < 2 ^ 64 → IsToldAt log n m x × (transaction_of x.job (after_told log m x) ≡ left)

-- the step is the machine's, wherever those before it stood in what the session had seen, which it goes on from; and what
-- it wrote the session has
pub record IsExactStep (x : Told) (old new : Held) : Type 0 where
  pub exact : IsStepOn x (length old.seen) new.seen (transaction_in old) (transaction_in new)
  pub goes_on : IsBeginning new.seen old.seen
  pub job : new.state.work.job ≡ old.state.work.job
  pub standing : IsStanding new
  pub written : AreWrittenBy x (old.receipts ++ old.others) (new.receipts ++ new.others)

-- each step of a session on units that go on from what it had seen is such
abbrev pub StepsAreExact : Type 0
StepsAreExact = (units : List JournalUnit) → (command : Command) → (reply : Reply) → (old new : Held) → WasDone command reply units new.seen old new → IsStanding old → IsBeginning units old.seen
    → IsExactStep (step_at old.state.work.job command reply units (length new.seen)) old new

-- a HALT that was done is the machine's step too, and leaves no transaction; its unit the pass has
pub record IsLastStep (x : Told) (s : Held) (pass : Book) : Type 0 where
  pub exact : IsStepOn x (length s.seen) pass.seen (transaction_in s) None
  pub goes_on : IsBeginning pass.seen s.seen
  pub written : AreWrittenBy x (s.receipts ++ s.others) (pass.receipts ++ pass.others)

-- each end of a session on such units is such
abbrev pub HaltsAreExact : Type 0
HaltsAreExact = (units : List JournalUnit) → (s : Held) → IsBeginning units s.seen → IsLastStep (step_at s.state.work.job Halt Finished units (length (halted units s).seen)) s (halted units s)
