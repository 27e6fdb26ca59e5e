-- What overtakes a transaction, in plain words.
use Rattle.std.specs.Prelude.{drop, ◌≡◌, ◌⊎◌, Bool, true, List, [], ◌∷◌}
use Rattle.collation.specs.Reference.{Reference}
use Rattle.journal.specs.declared.unit.Unit.{Unit as JournalUnit}
use Rattle.journal.specs.History.{State, after_unit}
use Rattle.journal.specs.Touching.{touched, has_read}
use Rattle.journal.specs.Story.{Transaction}
use Rattle.serial.specs.Machine.{state_at}

-- some unit, at its place, touches some reference that passes the test
abbrev pub SomeTouched : (Reference → Bool) → List JournalUnit → State → Type 0
SomeTouched test [] s = ⊥
SomeTouched test (u ∷ us) s = ((x : Reference) × (touched u s x ≡ true) × (test x ≡ true)) ⊎ SomeTouched test us (after_unit u s)

-- a unit after the transaction's start touched a reference that it has read
abbrev pub IsOvertaken : Transaction → List JournalUnit → Type 0
IsOvertaken t units = SomeTouched (has_read t.exchanges (state_at t.start units).map) (drop t.start units) (state_at t.start units)
