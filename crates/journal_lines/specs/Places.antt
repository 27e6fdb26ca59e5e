-- Places in a journal, between which its lines are given. Source: docs/FORMATS.md, "A journal as a script".
-- Read Placed, place_behind, lines_behind, then IsUnitGiven and AreBehind.
use Rattle.std.specs.Prelude.{◌≡◌, ◌≤◌, ◌<◌, ◌⊎◌, ℕ, ◌+◌, ◌-◌, List, [], ◌∷◌, ◌++◌, length, drop}
use Rattle.journal.specs.declared.unit.Unit.{Unit as JournalUnit}
use Rattle.journal.specs.Kept.{Kept}
use Rattle.journal_lines.specs.Journals.{Pending, dropped, lines_of, steps_from, still_pending, unit_steps}

-- so many units are behind the place, and these LOCKs of open transactions are pending there
pub record Placed : Type 0 where
  pub number : ℕ
  pub pending : Pending

-- the place where a journal begins, or one that begins behind so many units
abbrev pub placed_at : ℕ → Placed
placed_at number = record { number = number; pending = [] }

-- the place behind one unit more
abbrev pub place_past : JournalUnit → Placed → Placed
place_past u p = record { number = p.number + 1; pending = still_pending u p.pending }

-- the place behind these units
abbrev pub place_behind : List JournalUnit → Placed → Placed
place_behind [] p = p
place_behind (u ∷ us) p = place_behind us (place_past u p)

-- the lines of the unit that follows a place
abbrev pub unit_lines : JournalUnit → Placed → List ℕ
unit_lines u p = lines_of (unit_steps u p.pending)

-- the lines of the units that follow a place
abbrev pub lines_behind : List JournalUnit → Placed → List ℕ
lines_behind us p = lines_of (steps_from p.pending us)

-- in so many bytes the unit's lines have room behind these: they stand there, and the place is behind the unit
abbrev pub HasGiven : JournalUnit → Placed → Placed → ℕ → List ℕ → List ℕ → Type 0
HasGiven u before after room old new =
    (length (unit_lines u before) ≤ room - length old) × (new ≡ old ++ unit_lines u before) × (after ≡ place_past u before)

-- they haven't: what stood there and the place are as they were
abbrev pub LacksRoom : JournalUnit → Placed → Placed → ℕ → List ℕ → List ℕ → Type 0
LacksRoom u before after room old new = (room - length old < length (unit_lines u before)) × (new ≡ old) × (after ≡ before)

-- the unit's lines were given if there is room, and their length is told
pub record IsUnitGiven (u : JournalUnit) (before after : Placed) (room : ℕ) (old new : List ℕ) (size : ℕ) : Type 0 where
  pub told : size ≡ length (unit_lines u before)
  pub done : HasGiven u before after room old new ⊎ LacksRoom u before after room old new

-- none of the units after a number is dropped, and these are they
abbrev pub AreBehind : ℕ → Kept → List JournalUnit → Type 0
AreBehind number k us = (length (dropped k) ≤ number) × (us ≡ drop number k.units)
