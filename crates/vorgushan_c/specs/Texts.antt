-- What the exported call that loads a listing does.
-- Read IsLoadCall.
use Rattle.std.specs.Prelude.{◌≡◌, ◌⊎◌, ℕ, List, Option, Some, None}
use Rattle.refusal.specs.declared.Refusal.{Refusal}
use Rattle.refusal.specs.declared.Refusal.TheVariants.{OutOfMemory}
use Rattle.embedded.specs.Loads.{IsLoadedEngine, IsNoFaultTold, IsUnloaded}
use Rattle.embedded.specs.Outcomes.{outcome_number}
use Rattle.embedded.specs.declared.engine.Embedded.{Embedded}
use Rattle.embedded.specs.declared.outcome.Outcome.{Outcome}
use Rattle.embedded.specs.declared.outcome.Outcome.TheVariants.{Done, Refused, EngineThere}

-- the engine is there; or memory is refused for it, and none is
abbrev pub IsPut : Embedded → Option Embedded → Outcome → Type 0
IsPut made now outcome = ((now ≡ Some made) × (outcome ≡ Done)) ⊎ ((now ≡ None) × (outcome ≡ Refused OutOfMemory))

-- an engine of the listing is there, and no fault is told
pub record IsMadeOf (text : List ℕ) (now : Option Embedded) (number line column : ℕ) (old new : List ℕ) (wanted : ℕ) : Type 0 where
  pub made : Embedded
  pub there : now ≡ Some made
  pub loaded : IsLoadedEngine text made
  pub sound : IsNoFaultTold line column old new wanted
  pub told : number ≡ outcome_number Done

-- none is there, and why not is told: the listing's first fault, or that memory was refused
pub record IsNotMadeOf (text : List ℕ) (now : Option Embedded) (number line column : ℕ) (old new : List ℕ) (wanted : ℕ) : Type 0 where
  pub refusal : Refusal
  pub none : now ≡ None
  pub cause : IsUnloaded text refusal line column old new wanted
  pub told : number ≡ outcome_number (Refused refusal)

-- what would tell a fault is as it was
pub record IsFaultLeft (old_line old_column : ℕ) (old : List ℕ) (old_wanted line column : ℕ) (new : List ℕ) (wanted : ℕ) : Type 0 where
  pub line_left : line ≡ old_line
  pub column_left : column ≡ old_column
  pub left : new ≡ old
  pub wanted_left : wanted ≡ old_wanted

-- an engine was made of a listing where none was, or not; where one is it stays, and no fault is told
abbrev pub IsLoadCall : List ℕ → Option Embedded → Option Embedded → ℕ → Type 0 → ℕ → ℕ → List ℕ → List ℕ → ℕ → Type 0
IsLoadCall text None now number Left line column old new wanted =
    IsMadeOf text now number line column old new wanted ⊎ IsNotMadeOf text now number line column old new wanted
IsLoadCall text (Some before) now number Left line column old new wanted = (now ≡ Some before) × (number ≡ outcome_number EngineThere) × Left
