-- Data commands of which key or place and value are lent: the replies that their results stand for, and the value that was got.
use Rattle.std.specs.Prelude.{◌≡◌, ◌≤◌, ℕ, List, [], ◌∷◌, ◌++◌, length, Option, None, Some, Result, Ok, Err, unwrap_or}
use Rattle.std.specs.FinMap as finmap
use Rattle.refusal.specs.declared.Refusal.{Refusal}
use Rattle.collation.specs.Reference.{Reference}
use Rattle.collation.specs.Database.{Database}
use Rattle.command.specs.declared.access.DataCommand.TheVariants.{Look}
use Rattle.command.specs.declared.access.Look.{Look as LookCommand}
use Rattle.command.specs.declared.access.Answer.{Answer}
use Rattle.command.specs.declared.access.Answer.TheVariants.{Done, Value}
use Rattle.command.specs.declared.request.Reply.{Reply}
use Rattle.command.specs.declared.request.Reply.TheVariants.{Answered, Refused}
use Rattle.journal.specs.declared.unit.Unit.{Unit as JournalUnit}
use Rattle.journal.specs.declared.unit.Unit.TheVariants.{Lone}
use Rattle.journal.specs.History.{initial, after}
use Rattle.journal.specs.Story.{Transaction, Machine, transaction_of}
use Rattle.serial.specs.Machine.{seen_by}
use Rattle.validate_commit.specs.Working.{HasLastGot, value_seen}
use Rattle.job_core.specs.Sessions.{Session, began_with}

-- a SET or a KILL is done, or refused
abbrev pub done_reply : Result (Unit {0}) Refusal → Reply
done_reply (Ok done) = Answered Done
done_reply (Err refusal) = Refused refusal

-- a reference's value, and the empty string where it has none
abbrev pub value_at : Reference → Database → List ℕ
value_at r m = unwrap_or (finmap.get m r) []

-- a $GET or a $ORDER is answered with this value, or refused
abbrev pub got_reply : List ℕ → Result ℕ Refusal → Reply
got_reply value (Ok size) = Answered (Value value)
got_reply value (Err refusal) = Refused refusal

-- ---- as the answers of a transaction

abbrev pub done_answer : Result (Unit {0}) Refusal → Result Answer Refusal
done_answer (Ok done) = Ok Done
done_answer (Err refusal) = Err refusal

abbrev pub got_answer : List ℕ → Result ℕ Refusal → Result Answer Refusal
got_answer value (Ok size) = Ok (Value value)
got_answer value (Err refusal) = Err refusal

-- ---- what a job sees

-- what a session's transaction sees at a reference
abbrev pub value_begun : Reference → List JournalUnit → Session → List ℕ
value_begun r units s = value_seen r s.work (began_with units s)

abbrev pub value_in : Reference → List JournalUnit → Option Session → List ℕ
value_in r units None = []
value_in r units (Some s) = value_begun r units s

-- in its transaction what that sees, and outside what all units leave
abbrev pub seen_in : Option Transaction → List JournalUnit → Database
seen_in None units = (after units initial).map
seen_in (Some t) units = seen_by t units

abbrev pub value_of : ℕ → Reference → Machine → List ℕ
value_of job r s = value_at r (seen_in (transaction_of job s) s.units)

-- ---- where the value lies

-- the newest unit is that of a command that looks and was answered with this value, and it isn't among those that the journal has dropped
pub record HasJustGot (value : List ℕ) (base : ℕ) (units : List JournalUnit) : Type 0 where
  pub before : List JournalUnit
  pub job : ℕ
  pub look : LookCommand
  pub newest : units ≡ before ++ Lone job (Look look) (Value value) ∷ []
  pub kept : base ≤ length before

-- the last command of the job's transaction is a $GET that was answered with this value, and outside the newest unit is
abbrev pub HasGotIn : List ℕ → ℕ → Option Transaction → List JournalUnit → Type 0
HasGotIn value base None units = HasJustGot value base units
HasGotIn value base (Some t) units = HasLastGot value t.exchanges

abbrev pub HasGot : ℕ → List ℕ → ℕ → Machine → Type 0
HasGot job value base s = HasGotIn value base (transaction_of job s) s.units
