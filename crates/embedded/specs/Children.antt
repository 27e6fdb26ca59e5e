-- Which children a look copies, and what it writes of each.
-- Read AreNext, child_record, IsGathered, AreChildren, IsChildrenCall.
use Rattle.std.specs.Prelude.{◌≡◌, ◌⊎◌, ⊤, ℕ, ◌+◌, ◌<◌, ◌≤◌, Bool, true, false, List, [], ◌∷◌, ◌++◌, length, unwrap_or}
use Rattle.std.specs.Int.{w64, to_le_bytes}
use Rattle.std.specs.FinMap as finmap
use Rattle.std.specs.List.{flat_map}
use Rattle.std.specs.Option.{MatchOption}
use Rattle.collation.specs.Answers.{data_of, order_of}
use Rattle.collation.specs.Database.{Database}
use Rattle.collation.specs.Levels.{below, parent_of}
use Rattle.collation.specs.Reference.{Reference, Spot}
use Rattle.collation.specs.declared.direction.Direction.TheVariants.{Forward}
use Rattle.command.specs.Data.{look_refusal}
use Rattle.command.specs.declared.access.Look.TheVariants.{Order}
use Rattle.globals.specs.Answering.{IsRuleOrMemory}
use Rattle.embedded.specs.Calls.{IsCopied, IsKept, IsLeft}
use Rattle.embedded.specs.Looks.{length_bytes, IsLeftFor}
use Rattle.embedded.specs.Moments.{database_at, unseen}
use Rattle.embedded.specs.declared.engine.Embedded.{Embedded}
use Rattle.embedded.specs.declared.outcome.Outcome.{Outcome}
use Rattle.embedded.specs.declared.outcome.Outcome.TheVariants.{AtEnd, Done, Refused as RefusedCall}

-- ---- which children

-- the place of the child of r by this subscript
abbrev pub child_place : Reference → List ℕ → Spot
child_place r s = record { reference = below r s; is_open = false }

-- the last place of these children of r; the first place, where there is none
abbrev pub place_after : Reference → Spot → List (List ℕ) → Spot
place_after r p [] = p
place_after r p (s ∷ ss) = place_after r (child_place r s) ss

-- each is the subscript that $ORDER answers from the one before it on, the first from the place on
abbrev pub AreNext : Reference → Spot → Database → List (List ℕ) → Type 0
AreNext r p m [] = ⊤
AreNext r p m (s ∷ ss) = ((s ≡ order_of true p m) × (0 < length s)) × AreNext r (child_place r s) m ss

-- ---- what is written of them

-- the value at r, and no bytes where it has none
abbrev pub value_at : Reference → Database → List ℕ
value_at r m = unwrap_or (finmap.get m r) []

-- a child in a buffer: how long its subscript and its value are, what $DATA answers, and then both
unfoldable pub child_record : Reference → Database → List ℕ → List ℕ
child_record r m s = length_bytes s ++ (length_bytes (value_at (below r s) m) ++ (to_le_bytes w64 (data_of (below r s) m) ++ (s ++ value_at (below r s) m)))

abbrev pub child_records : Reference → Database → List (List ℕ) → List ℕ
child_records r m ss = flat_map (child_record r m) ss

-- no child follows, or the next has no room behind so many bytes
abbrev pub IsFull : Reference → Spot → Database → ℕ → ℕ → Type 0
IsFull r p m room used = (order_of true p m ≡ []) ⊎ (room < used + length (child_record r m (order_of true p m)))

-- the first of the next children of r, and as many more as have room behind it
pub record IsGathered (r : Reference) (p : Spot) (m : Database) (room : ℕ) (text : List ℕ) : Type 0 where
  pub children : List (List ℕ)
  pub next : AreNext r p m children
  pub some : 0 < length children
  pub low : (length children ≡ 1) ⊎ (length text ≤ room)
  pub full : IsFull r (place_after r p children) m room (length text)
  pub records : text ≡ child_records r m children

-- some were gathered, or none is there
abbrev pub IsGatheredOrNone : Bool → Reference → Spot → Database → ℕ → List ℕ → Type 0
IsGatheredOrNone true r p m room text = IsGathered r p m room text
IsGatheredOrNone false r p m room text = order_of true p m ≡ []

-- these children were copied
pub record AreCopied (r : Reference) (p : Spot) (m : Database) (result : Outcome) (old new : List ℕ) (wanted : ℕ) : Type 0 where
  pub text : List ℕ
  pub gathered : IsGathered r p m (length old) text
  pub copied : IsCopied text Done result old new wanted

-- the next children of r were copied, as many as there is room for; or none is there; or the rule of $ORDER or the want of memory is told
abbrev pub AreChildren : Reference → Spot → Database → Outcome → List ℕ → List ℕ → ℕ → Type 0
AreChildren r p m result old new wanted =
    (AreCopied r p m result old new wanted ⊎ ((order_of true p m ≡ []) × IsLeft AtEnd result old new wanted))
    ⊎ IsLeftFor (λ refusal. IsRuleOrMemory refusal (look_refusal (Order p Forward))) result old new wanted

-- the next children at the level of a place were copied, in the database of a moment; where nothing is seen, why is told; and the machine, the last reply and the listing are as they were
pub record IsChildrenCall (moment : ℕ) (place : Spot) (before after : Embedded) (outcome : Outcome) (old new : List ℕ) (wanted : ℕ) : Type 0 where
  pub copied : MatchOption (database_at moment before.core.machine) (IsLeft (RefusedCall (unseen moment)) outcome old new wanted)
      (λ m. AreChildren (parent_of place) place m outcome old new wanted)
  pub kept : IsKept before after
