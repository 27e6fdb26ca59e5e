-- What a call copies of the journal's lines, and up to where. Source: docs/FORMATS.md, "A journal as a script".
-- Read AreLinesCopied, IsNextRead, IsJournalRead, then IsJournalCall and IsJournalFrom.
use Rattle.std.specs.Prelude.{◌≡◌, ◌≤◌, ◌<◌, ◌⊎◌, ℕ, List, [], ◌∷◌, ◌++◌, length, drop, take}
use Rattle.refusal.specs.declared.Refusal.TheVariants.{Gone, OutOfMemory}
use Rattle.journal.specs.declared.unit.Unit.{Unit as JournalUnit}
use Rattle.journal_lines.specs.Places.{Placed, lines_behind, place_behind, place_past, placed_at, unit_lines}
use Rattle.embedded.specs.Calls.{IsCopied, IsLeft}
use Rattle.embedded.specs.declared.engine.Embedded.{Embedded}
use Rattle.embedded.specs.declared.outcome.Outcome.{Outcome}
use Rattle.embedded.specs.declared.outcome.Outcome.TheVariants.{AtEnd, BufferTooShort, Done, Refused as RefusedCall}

-- of these units, but for the rest, the lines stand behind those before, and the place is behind them
pub record AreGiven (units rest : List JournalUnit) (before after : Placed) (old new : List ℕ) : Type 0 where
  pub given : List JournalUnit
  pub all : units ≡ given ++ rest
  pub lines : new ≡ old ++ lines_behind given before
  pub place : after ≡ place_behind given before

-- the lines of the first of these units, and of as many more as were read, were copied, and the place is behind them
pub record AreLinesCopied (first : JournalUnit) (more : List JournalUnit) (before after : Placed) (result : Outcome) (old new : List ℕ) (wanted : ℕ) : Type 0 where
  pub text : List ℕ
  pub rest : List JournalUnit
  pub given : AreGiven more rest (place_past first before) after (unit_lines first before) text
  pub room : length text ≤ length old
  pub copied : IsCopied text Done result old new wanted

-- the next unit's lines are longer than the buffer: how long is told
pub record AreLinesTooLong (first : JournalUnit) (before : Placed) (result : Outcome) (old new : List ℕ) (wanted : ℕ) : Type 0 where
  pub left : new ≡ old
  pub told : wanted ≡ length (unit_lines first before)
  pub longer : length old < wanted
  pub answered : result ≡ BufferTooShort

-- of the units that follow the place the next was read, and as many more as there was room and memory for; or nothing was, and the place stays
abbrev pub IsNextRead : List JournalUnit → Placed → Placed → Outcome → List ℕ → List ℕ → ℕ → Type 0
IsNextRead [] before after result old new wanted = IsLeft AtEnd result old new wanted × (after ≡ before)
IsNextRead (u ∷ us) before after result old new wanted =
    AreLinesCopied u us before after result old new wanted
    ⊎ ((AreLinesTooLong u before result old new wanted ⊎ IsLeft (RefusedCall OutOfMemory) result old new wanted) × (after ≡ before))

-- the same of a journal; or it has dropped the next unit, or has one, but memory to read it was refused, and that is told
abbrev pub IsJournalRead : ℕ → List JournalUnit → Placed → Placed → Outcome → List ℕ → List ℕ → ℕ → Type 0
IsJournalRead base units before after result old new wanted =
    ((before.number < length (take base units)) × IsLeft (RefusedCall Gone) result old new wanted × (after ≡ before))
    ⊎ (((length (take base units) ≤ before.number) × IsNextRead (drop before.number units) before after result old new wanted)
    ⊎ ((length (take base units) ≤ before.number) × (before.number < length units) × IsLeft (RefusedCall OutOfMemory) result old new wanted × (after ≡ before)))

-- lines were copied, the place moved behind their units, and the machine, the last reply and the listing are as they were
pub record IsJournalCall (before after : Embedded) (outcome : Outcome) (old new : List ℕ) (wanted : ℕ) : Type 0 where
  pub read : IsJournalRead before.core.base before.core.machine.units before.journal_place after.journal_place outcome old new wanted
  pub core : after.core ≡ before.core
  pub last : after.last ≡ before.last
  pub listed : after.listed ≡ before.listed

-- the next lines are those of the units behind this number, as of a journal that begins there; and nothing else has changed
pub record IsJournalFrom (number : ℕ) (before after : Embedded) : Type 0 where
  pub journal_place : after.journal_place ≡ placed_at number
  pub core : after.core ≡ before.core
  pub last : after.last ≡ before.last
  pub listed : after.listed ≡ before.listed
