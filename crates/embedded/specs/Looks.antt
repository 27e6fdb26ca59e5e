-- What looks at the database of a moment answer and copy. They are no commands: no unit, no reply, and the machine is as it was.
-- Read IsLook, IsLookAt; then nodes_left, record_of, fitting, IsWalkCall; then IsOrderAt, IsDataAt, IsQueryAt.
use Rattle.std.specs.Prelude.{◌≡◌, ◌⊎◌, ℕ, ◌-◌, Bool, true, not, ◌&&◌, nat_le, if◌then◌else◌, List, [], ◌∷◌, ◌++◌, length, filter, Option, None, Some}
use Rattle.std.specs.Int.{w64, to_le_bytes}
use Rattle.std.specs.List.{flat_map}
use Rattle.std.specs.Option.{MatchOption}
use Rattle.std.specs.FinMap as finmap
use Rattle.refusal.specs.declared.Refusal.{Refusal}
use Rattle.refusal.specs.declared.Refusal.TheVariants.{OutOfMemory}
use Rattle.collation.specs.Reference.{Reference, Spot}
use Rattle.collation.specs.Answers.{data_of, is_forward, order_of, query_of}
use Rattle.collation.specs.Database.{Database, is_under}
use Rattle.collation.specs.declared.direction.Direction.{Direction}
use Rattle.command.specs.Data.{look_refusal}
use Rattle.command.specs.declared.access.Look.TheVariants.{Order}
use Rattle.globals.specs.Answering.{IsRuleOrMemory}
use Rattle.journal.specs.Story.{Machine}
use Rattle.key_codec.specs.Key.{key_of}
use Rattle.embedded.specs.Calls.{fits, is_listed, IsCopied, IsKept, IsLeft}
use Rattle.embedded.specs.Moments.{database_at, unseen}
use Rattle.embedded.specs.declared.engine.Embedded.{Embedded}
use Rattle.embedded.specs.declared.outcome.Outcome.{Outcome}
use Rattle.embedded.specs.declared.outcome.Outcome.TheVariants.{AtEnd, Done, NoValue, Refused as RefusedCall}

-- ---- one value

-- the value was copied; or the reference has none, and that is told
abbrev pub IsLook : Database → Reference → Outcome → List ℕ → List ℕ → ℕ → Type 0
IsLook m r result old new wanted = MatchOption (finmap.get m r) (IsLeft NoValue result old new wanted) (λ value. IsCopied value Done result old new wanted)

-- the same of the database of a moment; where nothing is seen, why is told
abbrev pub IsLookAt : ℕ → Machine → Reference → Outcome → List ℕ → List ℕ → ℕ → Type 0
IsLookAt moment s r result old new wanted =
    MatchOption (database_at moment s) (IsLeft (RefusedCall (unseen moment)) result old new wanted) (λ m. IsLook m r result old new wanted)

-- ---- many nodes

-- at or under the root; anywhere, where there is none
abbrev pub is_within : Option Reference → Reference → Bool
is_within None x = true
is_within (Some r) x = is_under r x

-- the nodes that a walk has left, in order: those within its root and behind its place, or all within, where it has none
abbrev pub nodes_left : Option Reference → Option Reference → Database → List (Reference × List ℕ)
nodes_left root place m = filter (λ e. is_within root e.0 && not (is_listed place e.0)) (finmap.entries m)

-- a length in eight bytes, the lowest first
abbrev pub length_bytes : List ℕ → List ℕ
length_bytes s = to_le_bytes w64 (length s)

-- a node in a buffer: how long its key's bytes and its value are, and then both
unfoldable pub record_of : Reference × List ℕ → List ℕ
record_of node = length_bytes (key_of node.0) ++ (length_bytes node.1 ++ (key_of node.0 ++ node.1))

abbrev pub records_of : List (Reference × List ℕ) → List ℕ
records_of nodes = flat_map record_of nodes

-- as many of these nodes, from the first on, as have room in so many bytes
abbrev pub fitting : ℕ → List (Reference × List ℕ) → List (Reference × List ℕ)
fitting room [] = []
fitting room (e ∷ es) = if nat_le (length (record_of e)) room then e ∷ fitting (room - length (record_of e)) es else []

-- the reference of the last of these nodes; r, where there is none
abbrev pub last_of : Reference → List (Reference × List ℕ) → Reference
last_of r [] = r
last_of r (e ∷ es) = last_of e.0 es

-- these nodes were copied, and where they fit the place moves to the last; or memory was refused, and it stays
abbrev pub AreNodesCopied : Reference × List ℕ → List (Reference × List ℕ) → Option Reference → Option Reference → Outcome → List ℕ → List ℕ → ℕ → Type 0
AreNodesCopied first more place now result old new wanted =
    (IsCopied (records_of (first ∷ more)) Done result old new wanted × (now ≡ (if fits (records_of (first ∷ more)) old then Some (last_of first.0 more) else place)))
    ⊎ (IsLeft (RefusedCall OutOfMemory) result old new wanted × (now ≡ place))

-- of the nodes that are left the first was copied, and as many more as there is room for behind it; or none is left
abbrev pub IsWalked : List (Reference × List ℕ) → Option Reference → Option Reference → Outcome → List ℕ → List ℕ → ℕ → Type 0
IsWalked [] place now result old new wanted = IsLeft AtEnd result old new wanted × (now ≡ place)
IsWalked (e ∷ es) place now result old new wanted = AreNodesCopied e (fitting (length old - length (record_of e)) es) place now result old new wanted

-- the next nodes of a walk over the database of a moment were copied; where nothing is seen, why is told; and the machine, the last reply and the listing are as they were
pub record IsWalkCall (moment : ℕ) (root place now : Option Reference) (before after : Embedded) (outcome : Outcome) (old new : List ℕ) (wanted : ℕ) : Type 0 where
  pub walked : MatchOption (database_at moment before.core.machine) (IsLeft (RefusedCall (unseen moment)) outcome old new wanted × (now ≡ place))
      (λ m. IsWalked (nodes_left root place m) place now outcome old new wanted)
  pub kept : IsKept before after

-- ---- what $ORDER, $DATA and $QUERY answer

-- nothing was copied, for a refusal of this cause
pub record IsLeftFor (IsCause : Refusal → Type 0) (result : Outcome) (old new : List ℕ) (wanted : ℕ) : Type 0 where
  pub refusal : Refusal
  pub cause : IsCause refusal
  pub left : IsLeft (RefusedCall refusal) result old new wanted

-- the nearest sibling was copied, or the command's rule or the want of memory is told
abbrev pub IsOrder : Spot → Direction → Database → Outcome → List ℕ → List ℕ → ℕ → Type 0
IsOrder place direction m result old new wanted =
    IsCopied (order_of (is_forward direction) place m) Done result old new wanted
    ⊎ IsLeftFor (λ refusal. IsRuleOrMemory refusal (look_refusal (Order place direction))) result old new wanted

abbrev pub IsOrderAt : ℕ → Machine → Spot → Direction → Outcome → List ℕ → List ℕ → ℕ → Type 0
IsOrderAt moment s place direction result old new wanted =
    MatchOption (database_at moment s) (IsLeft (RefusedCall (unseen moment)) result old new wanted) (λ m. IsOrder place direction m result old new wanted)

-- the number that $DATA tells; 0 where nothing is seen
abbrev pub IsDataAt : ℕ → Machine → Reference → Outcome → ℕ → Type 0
IsDataAt moment s r result number =
    MatchOption (database_at moment s) ((number ≡ 0) × (result ≡ RefusedCall (unseen moment))) (λ m. (number ≡ data_of r m) × (result ≡ Done))

-- the key comes to be the nearest node's reference; or memory is refused for it, and the key stays. Where no node is left it stays, and that is told
abbrev pub IsQuery : Spot → Direction → Database → Reference → Reference → Outcome → Type 0
IsQuery place direction m old new result = MatchOption (query_of (is_forward direction) place m) ((new ≡ old) × (result ≡ AtEnd))
    (λ found. ((new ≡ found) × (result ≡ Done)) ⊎ ((new ≡ old) × (result ≡ RefusedCall OutOfMemory)))

abbrev pub IsQueryAt : ℕ → Machine → Spot → Direction → Reference → Reference → Outcome → Type 0
IsQueryAt moment s place direction old new result =
    MatchOption (database_at moment s) ((new ≡ old) × (result ≡ RefusedCall (unseen moment))) (λ m. IsQuery place direction m old new result)
