-- Changes made in a list of references with their values, in the order of the references.
use Rattle.std.specs.Prelude.{◌≡◌, ℕ, ◌+◌, ◌≤◌, Bool, false, not, nat_lt, take, drop, List, [], ◌∷◌, ◌++◌, length, Option, None, Some, ◌⊎◌}
use Rattle.std.specs.List.{list_all}
use Rattle.std.specs.Ordering.{is_lt, eq_by_cmp}
use Rattle.std.specs.FinMap.{put}
use Rattle.std.specs.FinMap.Entries.{where_key}
use Rattle.collation.specs.Reference.{Reference}
use Rattle.collation.specs.Order.{ref_cmp, ref_eq}
use Rattle.collation.specs.Changes.{Change}

-- a list whose front is done; room for so many nodes more; and whether some of those that are done wait for a place
pub record Parted : Type 0 where
  pub done : List (Reference × List ℕ)
  pub left : List (Reference × List ℕ)
  pub room : ℕ
  pub waits : Bool

-- so many of the nodes are done, and then those that wait; those from the next on are left
abbrev pub parted : List (Reference × List ℕ) → List (Reference × List ℕ) → ℕ → ℕ → ℕ → Parted
parted nodes waiting done next room = record { done = take done nodes ++ waiting; left = drop next nodes; room = room; waits = nat_lt 0 (length waiting) }

-- the first that is left stays, the first so many do, it stays with another value, or goes; a node comes that wasn't left
abbrev pub IsKept : Parted → Parted → Type 0
IsKept p q = (q.room ≡ p.room) × ((e : Reference × List ℕ) (rest : List (Reference × List ℕ)) → p.left ≡ e ∷ rest → (q.done ≡ p.done ++ e ∷ []) × (q.left ≡ rest))

abbrev pub AreKept : ℕ → Parted → Parted → Type 0
AreKept n p q = (q.room ≡ p.room) × ((q.done ≡ p.done ++ take n p.left) × (q.left ≡ drop n p.left))

abbrev pub IsSet : List ℕ → Parted → Parted → Type 0
IsSet v p q = (q.room ≡ p.room) × ((e : Reference × List ℕ) (rest : List (Reference × List ℕ)) → p.left ≡ e ∷ rest → (q.done ≡ p.done ++ (e.0, v) ∷ []) × (q.left ≡ rest))

abbrev pub IsPassed : Parted → Parted → Type 0
IsPassed p q = (q.room ≡ p.room) × ((q.done ≡ p.done) × ((e : Reference × List ℕ) (rest : List (Reference × List ℕ)) → p.left ≡ e ∷ rest → q.left ≡ rest))

abbrev pub IsAdded : Reference × List ℕ → Parted → Parted → Type 0
IsAdded e p q = (q.room + 1 ≡ p.room) × ((q.done ≡ p.done ++ e ∷ []) × (q.left ≡ p.left))

-- the list with this value at the reference, or without the reference
abbrev pub put_to : Reference → Option (List ℕ) → List (Reference × List ℕ) → List (Reference × List ℕ)
put_to r (Some v) es = put ref_cmp r v es
put_to r None es = where_key ref_cmp (λ x. not (eq_by_cmp ref_cmp r x)) es

-- the list with all of these changes, each in its turn
abbrev pub put_all : List Change → List (Reference × List ℕ) → List (Reference × List ℕ)
put_all [] es = es
put_all (c ∷ cs) es = put_all cs (put_to c.0 c.1 es)

-- all stand before the reference
abbrev pub are_before : Reference → List (Reference × List ℕ) → Bool
are_before r es = list_all (λ e. is_lt (ref_cmp e.0 r)) es

-- whether the first stands before the reference, or is its own
abbrev pub is_first_before : Reference → List (Reference × List ℕ) → Bool
is_first_before r [] = false
is_first_before r (e ∷ es) = is_lt (ref_cmp e.0 r)

abbrev pub is_first_at : Reference → List (Reference × List ℕ) → Bool
is_first_at r [] = false
is_first_at r (e ∷ es) = ref_eq e.0 r

-- the first doesn't stand before the reference
abbrev pub BeginsFrom : Reference → List (Reference × List ℕ) → Type 0
BeginsFrom r es = is_first_before r es ≡ false

-- so many stand in front, and others from here on; nodes wait only where there is no place between; and there is room for all, in the list and for those that wait
pub record KeepsPlaces (nodes waiting : List (Reference × List ℕ)) (done next room places seats : ℕ) : Type 0 where
  pub between : done ≤ next
  pub within : next ≤ length nodes
  pub waits : (waiting ≡ []) ⊎ (done ≡ next)
  pub places_left : length nodes + (length waiting + room) ≤ places
  pub seats_left : length waiting + room ≤ seats
