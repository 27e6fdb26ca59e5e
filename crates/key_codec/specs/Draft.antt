-- What a draft of a key keeps of the reference or place that is read.
use Rattle.std.specs.Prelude.{◌≡◌, Bool, ◌⊎◌, ℕ, ◌<◌, ◌≤◌, true, false, if◌then◌else◌, Option, None, Some, is_some, IfSome, List, [], ◌∷◌, ◌++◌, length}
use Rattle.refusal.specs.declared.Refusal.{Refusal}
use Rattle.refusal.specs.declared.Refusal.TheVariants.{BadName, EmptySubscript, OutOfMemory}
use Rattle.canonic_number.specs.Number.{is_canonic}
use Rattle.canonic_number.specs.PartsOf.{IsPartsOf}
use Rattle.canonic_number.specs.declared.place.NumberParts.{NumberParts}
use Rattle.collation.specs.Limits.{most_subscripts}
use Rattle.collation.specs.Reference.{Reference, Spot}
use Rattle.collation.specs.Name.{is_name}
use Rattle.collation.specs.Faults.{subscripts_fault, reference_fault, place_fault, ends_open, closed_part}
use Rattle.key_codec.specs.Key.{long_form, subscripts_key, key_of, IsFaultless}
use Rattle.key_codec.specs.declared.draft.KeyDraft.{KeyDraft}

-- the reference with one subscript more
abbrev pub longer : Reference → List ℕ → Reference
longer r s = record { name = r.name; subscripts = r.subscripts ++ s ∷ [] }

-- an empty subscript that isn't the last is at fault
abbrev pub open_fault : Bool → Option Refusal
open_fault is_open = if is_open then Some EmptySubscript else None

-- the bytes are those of a faultless key of this name, so of 31 subscripts at most
pub record AreOfKey (bytes name : List ℕ) : Type 0 where
  pub subscripts : List (List ℕ)
  pub form : IsFaultless (record { name = name; subscripts = subscripts })
  pub key : bytes ≡ key_of (record { name = name; subscripts = subscripts })

-- the draft of what is spelled so: an empty last subscript is told apart, and the bytes are there where nothing is at fault;
-- of a word that is no name nothing is kept, and of what is at fault never more than one key
pub record IsDraft (d : KeyDraft) (r : Reference) : Type 0 where
  pub name : d.is_name ≡ is_name r.name
  pub few : length r.subscripts ≤ most_subscripts → d.count ≡ length r.subscripts
  pub many : most_subscripts < length r.subscripts → most_subscripts < d.count
  pub open_end : d.ends_open ≡ ends_open r.subscripts
  pub fault : d.fault ≡ subscripts_fault (closed_part r.subscripts)
  pub bytes : is_name r.name ≡ true → length r.subscripts ≤ most_subscripts → subscripts_fault (closed_part r.subscripts) ≡ None → d.bytes.items ≡ r.name ++ 0 ∷ subscripts_key long_form (closed_part r.subscripts)
  pub nameless : is_name r.name ≡ false → d.bytes.items ≡ []
  pub held : is_name r.name ≡ true → AreOfKey d.bytes.items r.name

-- what was judged of a subscript: its parts where it is a canonic number, else none
pub record IsJudged (subscript : List ℕ) (number : Option NumberParts) : Type 0 where
  pub test : is_some number ≡ is_canonic subscript
  pub parts : IfSome number (IsPartsOf subscript)

-- why a place is refused, where it is: its name first
abbrev pub place_due : Reference → Option Refusal
place_due r = if is_name r.name then place_fault r.subscripts else Some BadName

-- the same of a reference
abbrev pub reference_due : Reference → Option Refusal
reference_due r = if is_name r.name then reference_fault r.subscripts else Some BadName

-- the place that is spelled so
abbrev pub place_of : Reference → Spot
place_of r = record { reference = record { name = r.name; subscripts = closed_part r.subscripts }; is_open = ends_open r.subscripts }

-- something is spelled
pub record IsSpelled (d : KeyDraft) : Type 0 where
  pub reference : Reference
  pub draft : IsDraft d reference

-- the refusal is due, or memory ran out
abbrev pub IsDueOrMemory : Refusal → Option Refusal → Type 0
IsDueOrMemory refusal due = (refusal ≡ OutOfMemory) ⊎ (due ≡ Some refusal)

-- the refusal is due, or memory ran out for a faultless place whose key has over 38 bytes
abbrev pub IsDueOrLong : Refusal → Option Refusal → Reference → Type 0
IsDueOrLong refusal due r = (due ≡ Some refusal) ⊎ ((refusal ≡ OutOfMemory) × (place_due r ≡ None) × (38 < length (key_of (place_of r).reference)))
