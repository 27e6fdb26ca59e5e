-- What a list of units leaves, and when its replies are right. Source: docs/THEOREMS.md, "The one-map theorem".
use Rattle.std.specs.Prelude.{◌≡◌, List, [], ◌∷◌, None, ⊤}
use Rattle.std.specs.FinMap as map
use Rattle.command.specs.declared.access.DataCommand.{DataCommand}
use Rattle.command.specs.declared.access.Answer.{Answer}
use Rattle.collation.specs.Database.{Database}
use Rattle.command.specs.Data.{data_refusal, data_reply, data_after}
use Rattle.lock_name.specs.Locks.{LockState, lock_refusal, lock_reply, locks_after, locks_after_commit, locks_after_back, locks_after_end}
use Rattle.journal.specs.declared.unit.Exchange.{Exchange}
use Rattle.journal.specs.declared.unit.Unit.{Unit as JournalUnit}
use Rattle.journal.specs.declared.unit.Unit.TheVariants.{Lone, Whole, Lock, Back, End}

-- what units leave: one map, and each job's locks
pub record State : Type 0 where
  pub map : Database
  pub locks : LockState

-- the state before the first unit: nothing has a value, and nothing is locked
abbrev pub initial : State
initial = record { map = map.empty; locks = map.empty }

-- the database that data commands leave, each in its turn
abbrev pub all_after : List Exchange → Database → Database
all_after [] m = m
all_after (e ∷ es) m = all_after es (data_after e.command m)

-- the state that a unit leaves, done wholly in its turn
abbrev pub after_unit : JournalUnit → State → State
after_unit (Lone job command answer) s = record s { map = data_after command s.map }
after_unit (Whole job exchanges) s = record { map = all_after exchanges s.map; locks = locks_after_commit job s.locks }
after_unit (Lock job inside command had) s = record s { locks = locks_after job inside command s.locks }
after_unit (Back job) s = record s { locks = locks_after_back job s.locks }
after_unit (End job) s = record s { locks = locks_after_end job s.locks }

-- the state that units leave, each in its turn
abbrev pub after : List JournalUnit → State → State
after [] s = s
after (u ∷ us) s = after us (after_unit u s)

-- the command isn't refused on this database, and the answer is the command's there
abbrev pub IsRight : DataCommand → Answer → Database → Type 0
IsRight command answer m = (data_refusal command m ≡ None) × (answer ≡ data_reply command m)

-- each command is right on the database that those before it leave
abbrev pub AreRight : List Exchange → Database → Type 0
AreRight [] m = ⊤
AreRight (e ∷ es) m = IsRight e.command e.answer m × AreRight es (data_after e.command m)

-- no command of the unit is refused at its place, and each reply is the command's reply there
abbrev pub IsLegalUnit : JournalUnit → State → Type 0
IsLegalUnit (Lone job command answer) s = IsRight command answer s.map
IsLegalUnit (Whole job exchanges) s = AreRight exchanges s.map
IsLegalUnit (Lock job inside command had) s = (lock_refusal job command s.locks ≡ None) × (had ≡ lock_reply job command s.locks)
IsLegalUnit unit s = ⊤

-- each unit is right at its place
abbrev pub IsLegal : List JournalUnit → State → Type 0
IsLegal [] s = ⊤
IsLegal (u ∷ us) s = IsLegalUnit u s × IsLegal us (after_unit u s)
