-- What an exported call does with the engine that it is given.
-- Read IsCalled, which each export on an engine cites with what the call does, then IsMade.
use Rattle.std.specs.Prelude.{◌≡◌, ◌⊎◌, ℕ, List, codes, Option, Some, None}
use Rattle.refusal.specs.declared.Refusal.TheVariants.{OutOfMemory}
use Rattle.journal.specs.Story.{nothing_done}
use Rattle.journal_lines.specs.Places.{placed_at}
use Rattle.embedded.specs.Calls.{IsCopied, IsCount, IsNamed}
use Rattle.embedded.specs.Outcomes.{outcome_number}
use Rattle.embedded.specs.declared.engine.Embedded.{Embedded}
use Rattle.embedded.specs.declared.outcome.Outcome.{Outcome}
use Rattle.embedded.specs.declared.outcome.Outcome.TheVariants.{Done, Refused, NoEngine, EngineThere}
use Rattle.vorgushan_c.specs.declared.exports.VgStatistics.{VgStatistics}

-- the engine is there afterwards too, the number told is that of the outcome, and the call did this
pub record IsCall (before : Embedded) (now : Option Embedded) (number : ℕ) (Does : Embedded → Embedded → Outcome → Type 0) : Type 0 where
  pub after : Embedded
  pub outcome : Outcome
  pub there : now ≡ Some after
  pub told : number ≡ outcome_number outcome
  pub done : Does before after outcome

-- a call on an engine does this; where none is there, it tells so, and does the other
abbrev pub IsCalled : Option Embedded → Option Embedded → ℕ → Type 0 → (Embedded → Embedded → Outcome → Type 0) → Type 0
IsCalled None now number Left Does = (now ≡ None) × (number ≡ outcome_number NoEngine) × Left
IsCalled (Some before) now number Left Does = IsCall before now number Does

-- an engine is there, in which nothing was done
pub record IsNew (now : Option Embedded) (number : ℕ) : Type 0 where
  pub made : Embedded
  pub there : now ≡ Some made
  pub core : made.core.machine ≡ nothing_done
  pub last : made.last ≡ None
  pub listed : made.listed ≡ None
  pub journal_place : made.journal_place ≡ placed_at 0
  pub told : number ≡ outcome_number Done

-- an engine was made where none was; where one is it stays, and where memory is refused there is none
abbrev pub IsMade : Option Embedded → Option Embedded → ℕ → Type 0
IsMade None now number = IsNew now number ⊎ ((now ≡ None) × (number ≡ outcome_number (Refused OutOfMemory)))
IsMade (Some before) now number = (now ≡ Some before) × (number ≡ outcome_number EngineThere)

-- the statistics are the engine's, which is as it was
pub record IsCounted (before after : Embedded) (outcome : Outcome) (statistics : VgStatistics) : Type 0 where
  pub count : IsCount before statistics.units statistics.journal_bytes statistics.nodes
  pub same : after ≡ before
  pub outcome_done : outcome ≡ Done

-- the number of a call that others kept from being done
abbrev pub busy_number : ℕ
busy_number = 43

-- the name of what this number tells was copied, or why not
abbrev pub IsNameOf : ℕ → Outcome → List ℕ → List ℕ → ℕ → Type 0
IsNameOf number outcome old new wanted =
    (number ≡ busy_number → IsCopied (codes "Busy") Done outcome old new wanted) × ((number ≡ busy_number → ⊥) → IsNamed number outcome old new wanted)

-- the same, with the number that was told
pub record IsNamedBy (number told : ℕ) (old new : List ℕ) (wanted : ℕ) : Type 0 where
  pub outcome : Outcome
  pub is_told : told ≡ outcome_number outcome
  pub named : IsNameOf number outcome old new wanted
