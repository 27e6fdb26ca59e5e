-- What exported calls do with the key that they are given.
-- Read IsNamedKey, IsLongerKey, IsSpelledKey, IsKeyCalled, IsKeysCalled.
use Rattle.std.specs.Prelude.{◌≡◌, ◌⊎◌, ℕ, ◌==◌, Bool, not, if◌then◌else◌, List, [], Option, Some, None}
use Rattle.refusal.specs.declared.Refusal.{Refusal}
use Rattle.collation.specs.Reference.{Reference}
use Rattle.collation.specs.declared.direction.Direction.{Direction}
use Rattle.collation.specs.declared.direction.Direction.TheVariants.{Forward, Backward}
use Rattle.key_codec.specs.Draft.{IsDueOrMemory, longer, reference_due}
use Rattle.key_codec.specs.Key.{key_of}
use Rattle.typed_calls.specs.Spelled.{due_in_turn}
use Rattle.embedded.specs.Calls.{IsCopied}
use Rattle.embedded.specs.Outcomes.{outcome_number}
use Rattle.embedded.specs.declared.engine.Embedded.{Embedded}
use Rattle.embedded.specs.declared.outcome.Outcome.{Outcome}
use Rattle.embedded.specs.declared.outcome.Outcome.TheVariants.{Done, Refused, NoEngine, NoKey}
use Rattle.vorgushan_c.specs.Exports.{IsCall}

-- a refusal was told that is due, or that of memory
pub record IsRefusedAs (due : Option Refusal) (number : ℕ) : Type 0 where
  pub refusal : Refusal
  pub cause : IsDueOrMemory refusal due
  pub told : number ≡ outcome_number (Refused refusal)

-- the key of this reference was made; or it stays as it was, and a refusal that is due was told
abbrev pub IsMadeKey : Reference → Option Reference → Option Reference → ℕ → Type 0
IsMadeKey made old now number =
    ((now ≡ Some made) × (number ≡ outcome_number Done)) ⊎ ((now ≡ old) × IsRefusedAs (reference_due made) number)

-- the key of a name without subscripts was made, or not
abbrev pub IsNamedKey : List ℕ → Option Reference → Option Reference → ℕ → Type 0
IsNamedKey name old now number = IsMadeKey (record { name = name; subscripts = [] }) old now number

-- a key has one subscript more, or not; or no key is there
abbrev pub IsLongerKey : List ℕ → Option Reference → Option Reference → ℕ → Type 0
IsLongerKey s None now number = (now ≡ None) × (number ≡ outcome_number NoKey)
IsLongerKey s (Some r) now number = IsMadeKey (longer r s) (Some r) now number

-- the key of a name and subscripts was made; or it stays as it was, and the refusal was told that the call for the name, and then one for each subscript, would tell first
abbrev pub IsSpelledKey : List ℕ → List (List ℕ) → Option Reference → Option Reference → ℕ → Type 0
IsSpelledKey name ss old now number =
    ((now ≡ Some (record { name = name; subscripts = ss })) × (due_in_turn (record { name = name; subscripts = [] }) ss ≡ None) × (number ≡ outcome_number Done))
    ⊎ ((now ≡ old) × IsRefusedAs (due_in_turn (record { name = name; subscripts = [] }) ss) number)

-- the bytes of a key were copied, or there is no room for them
pub record AreBytesCopied (reference : Reference) (number : ℕ) (old new : List ℕ) (wanted : ℕ) : Type 0 where
  pub outcome : Outcome
  pub told : number ≡ outcome_number outcome
  pub copied : IsCopied (key_of reference) Done outcome old new wanted

-- the call on an engine and a key did this; where one of them isn't there it tells so and does the other, and the engine is as it was
abbrev pub IsKeyCalled : Option Embedded → Option Embedded → Option Reference → ℕ → Type 0 → (Reference → Embedded → Embedded → Outcome → Type 0) → Type 0
IsKeyCalled None now key number Left Does = (now ≡ None) × (number ≡ outcome_number NoEngine) × Left
IsKeyCalled (Some before) now None number Left Does = (now ≡ Some before) × (number ≡ outcome_number NoKey) × Left
IsKeyCalled (Some before) now (Some r) number Left Does = IsCall before now number (Does r)

-- the same of a call on an engine and two keys
abbrev pub IsKeysCalled : Option Embedded → Option Embedded → Option Reference → Option Reference → ℕ → (Reference → Reference → Embedded → Embedded → Outcome → Type 0) → Type 0
IsKeysCalled None now key other number Does = (now ≡ None) × (number ≡ outcome_number NoEngine)
IsKeysCalled (Some before) now None other number Does = (now ≡ Some before) × (number ≡ outcome_number NoKey)
IsKeysCalled (Some before) now (Some r) None number Does = (now ≡ Some before) × (number ≡ outcome_number NoKey)
IsKeysCalled (Some before) now (Some r) (Some x) number Does = IsCall before now number (Does r x)

-- a key is there, and this is so of it
pub record IsMoved (now : Option Reference) (Is : Reference → Type 0) : Type 0 where
  pub found : Reference
  pub there : now ≡ Some found
  pub so : Is found

-- ---- numbers that stand for a choice

-- any number but 0
abbrev pub is_not_0 : ℕ → Bool
is_not_0 n = not (n == 0)

-- forward at 0, backward at any other number
abbrev pub direction_of : ℕ → Direction
direction_of n = if n == 0 then Forward else Backward
