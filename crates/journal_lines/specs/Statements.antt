-- What ties the lines of steps to the reader of scripts. Each is a clause of a function in `src/laws.rt`.
use Rattle.std.specs.Prelude.{◌≡◌, ◌<◌, ⊤, Bool, true, List, length, None, Some, Ok}
use Rattle.std.specs.List.{list_all}
use Rattle.collation.specs.Reference.{Reference, Resource}
use Rattle.lock_name.specs.declared.lock.LockCommand.{LockCommand}
use Rattle.lock_name.specs.declared.lock.LockCommand.TheVariants.{Release, Only, More, Fewer}
use Rattle.command.specs.declared.access.DataCommand.{DataCommand}
use Rattle.command.specs.declared.access.DataCommand.TheVariants.{Set, Kill, Merge, Increment, Look}
use Rattle.command.specs.declared.access.Look.{Look as LookCommand}
use Rattle.command.specs.declared.access.Look.TheVariants.{Data, Get, Order, Query, Name}
use Rattle.command.specs.declared.request.Command.{Command}
use Rattle.command.specs.declared.request.Command.TheVariants.{Access, Lock as lock_command, Start, Commit, Rollback, Restart, Level, Restarts, Halt}
use Rattle.journal.specs.declared.unit.Exchange.{Exchange}
use Rattle.journal.specs.declared.unit.Unit.{Unit as JournalUnit}
use Rattle.journal.specs.declared.unit.Unit.TheVariants.{Lone, Whole, Lock, Back, End}
use Rattle.journal.specs.Stored.{Each}
use Rattle.m_text.specs.Written.{is_plain}
use Rattle.m_text.specs.Forms.{are_bytes}
use Rattle.script.specs.Commands.{command_fault}
use Rattle.canonic_number.specs.Number.{is_canonic}
use Rattle.script.specs.Line.{is_job, reading_of}
use Rattle.journal_lines.specs.Steps.{step_text}
use Rattle.journal_lines.specs.Journals.{Step, steps_of}

-- subscripts of bytes
abbrev pub has_bytes : Reference → Bool
has_bytes r = list_all are_bytes r.subscripts

-- a command that looks holds bytes
abbrev pub LooksAtBytes : LookCommand → Type 0
LooksAtBytes (Data r) = has_bytes r ≡ true
LooksAtBytes (Get r None) = has_bytes r ≡ true
LooksAtBytes (Get r (Some value)) = (has_bytes r ≡ true) × (are_bytes value ≡ true)
LooksAtBytes (Order p direction) = has_bytes p.reference ≡ true
LooksAtBytes (Query p direction) = has_bytes p.reference ≡ true
LooksAtBytes (Name start direction) = ⊤

-- a data command holds bytes, $INCREMENT a canonic number
abbrev pub HoldsBytes : DataCommand → Type 0
HoldsBytes (Set r value) = (has_bytes r ≡ true) × (are_bytes value ≡ true)
HoldsBytes (Kill r extent) = has_bytes r ≡ true
HoldsBytes (Merge a b) = (has_bytes a ≡ true) × (has_bytes b ≡ true)
HoldsBytes (Increment r n) = (has_bytes r ≡ true) × (are_bytes n ≡ true) × (is_canonic n ≡ true)
HoldsBytes (Look look) = LooksAtBytes look

-- one lock name or more, of bytes
abbrev pub AreNames : List Resource → Type 0
AreNames ns = (0 < length ns) × (list_all (λ (n : Resource). has_bytes n.reference) ns ≡ true)

-- a LOCK has names of bytes, or asks for none
abbrev pub LocksBytes : LockCommand → Type 0
LocksBytes Release = ⊤
LocksBytes (Only ns) = AreNames ns
LocksBytes (More ns) = AreNames ns
LocksBytes (Fewer ns) = AreNames ns

-- a command's strings are of bytes, and a LOCK with names has one
abbrev pub CanBeSpelled : Command → Type 0
CanBeSpelled (Access command) = HoldsBytes command
CanBeSpelled (lock_command command) = LocksBytes command
CanBeSpelled Start = ⊤
CanBeSpelled Commit = ⊤
CanBeSpelled Rollback = ⊤
CanBeSpelled Restart = ⊤
CanBeSpelled Level = ⊤
CanBeSpelled Restarts = ⊤
CanBeSpelled Halt = ⊤

-- a job's step that lines may ask for: its command can be spelled, and has no fault
abbrev pub IsAskable : Step → Type 0
IsAskable step = (is_job step.0 ≡ true) × CanBeSpelled step.1 × (command_fault step.1 ≡ None)

-- a step's text is read as just that step, and is one line: of bytes 32 to 126
abbrev pub IsReadAgain : Step → Type 0
IsReadAgain step = (reading_of (step_text step.0 step.1) ≡ Ok step) × (list_all is_plain (step_text step.0 step.1) ≡ true)

abbrev pub StepsAreReadAgain : Type 0
StepsAreReadAgain = (step : Step) → IsAskable step → IsReadAgain step

-- what was done are steps that lines may ask for
abbrev pub WasAskable : JournalUnit → Type 0
WasAskable (Lone job command answer) = IsAskable (job, Access command)
WasAskable (Whole job exchanges) = (is_job job ≡ true) × Each (λ (e : Exchange). IsAskable (job, Access e.command)) exchanges
WasAskable (Lock job inside command had) = IsAskable (job, lock_command command)
WasAskable (Back job) = is_job job ≡ true
WasAskable (End job) = is_job job ≡ true

-- so each line of a journal is read as its step
abbrev pub JournalsAreReadAgain : Type 0
JournalsAreReadAgain = (units : List JournalUnit) → Each WasAskable units → Each IsReadAgain (steps_of units)
