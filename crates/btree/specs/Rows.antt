-- What a node's rows stand for, and what holds of them.
use Rattle.std.specs.Prelude.{◌≡◌, ◌⊎◌, ℕ, zero, suc, ◌+◌, ◌*◌, ◌^◌, ◌<◌, ◌≤◌, Option, Some, None, List, [], ◌∷◌, ◌++◌, length, take, drop}
use Rattle.std.specs.Prelude.{Vec, vec_capacity}
use Rattle.std.specs.List.{insert}
use Rattle.std.specs.declared.alloc.Global.{Global}
use Rattle.std.specs.declared.cmp.Ordering.{Ordering}
use Rattle.btree.specs.Order.{Each}
use Rattle.btree.specs.Branch.{Branch}
use Rattle.btree.specs.Parts.{Parts, AreParted, flat}

-- the height of a node with these kids
abbrev pub height_of : {K V : Type 0} → List (Branch K V) → ℕ
height_of [] = 0
height_of (k ∷ ks) = suc k.height

-- how many pairs or separators each of these nodes has, and each node below them
abbrev pub sizes_of : {K V : Type 0} → List (Branch K V) → List ℕ
sizes_of [] = []
sizes_of (k ∷ ks) = k.count ∷ (k.sizes ++ sizes_of ks)

-- a node of these pairs, separators and kids: a leaf has pairs alone, an inner node none
abbrev pub branch_of : {K V : Type 0} → List (K × V) → List K → List (Branch K V) → Branch K V
branch_of es ss ks = record { pairs = es ++ flat ks; height = height_of ks; count = length es + length ss; sizes = sizes_of ks }

-- how many pairs or separators a node other than the root may have
abbrev pub IsSize : ℕ → Type 0
IsSize n = (16 ≤ n) × (n ≤ 32)

-- how many pairs there are at least in and below a node of this height with so many pairs or separators: below it each leaf has 16, and each inner node 17 kids
abbrev pub fewest_pairs : ℕ → ℕ → ℕ
fewest_pairs zero count = count
fewest_pairs (suc height) count = suc count * (16 * 17 ^ height)

-- all nodes below have 16 to 32 pairs or separators
abbrev pub IsFull : {K V : Type 0} → Branch K V → Type 0
IsFull b = (fewest_pairs b.height b.count ≤ length b.pairs) × Each IsSize b.sizes

-- a node of the given height that has at least so many pairs or separators of its own, and not too many
pub record IsKid {K V : Type 0} (fewest height : ℕ) (k : Branch K V) : Type 0 where
  pub level : k.height ≡ height
  pub least : fewest ≤ k.count
  pub most : k.count ≤ 32
  pub full : IsFull k

-- separators and kids of an inner node: one kid more, all of one height, and parted by the separators
pub record IsInner {K V : Type 0} (R : K → K → Ordering) (ss : List K) (ks : List (Branch K V)) : Type 0 where
  pub level : ℕ
  pub fits : length ks ≡ suc (length ss)
  pub kids : Each (IsKid 16 level) ks
  pub parted : AreParted R ss ks

-- a leaf has neither separators nor kids; in an inner node no pair lies
abbrev pub IsNode : {K V : Type 0} → (K → K → Ordering) → List (K × V) → List K → List (Branch K V) → Type 0
IsNode R es ss ks = ((ss ≡ []) × (ks ≡ [])) ⊎ ((es ≡ []) × IsInner R ss ks)

-- the row of a leaf with more than 14 pairs never has to grow
abbrev pub HasRoom : {K V : Type 0} → Vec (K × V) Global → Type 0
HasRoom es = 14 < length es.items → 33 ≤ vec_capacity es

-- nor do the rows of an inner node
abbrev pub HaveRoom : {K V : Type 0} → Vec K Global → Vec (Branch K V) Global → Type 0
HaveRoom ss ks = 0 < length ks.items → (33 ≤ vec_capacity ss) × (34 ≤ vec_capacity ks)

-- the kid at a place, if there is one, is full
abbrev pub IsFullAt : {K V : Type 0} → ℕ → List (Branch K V) → Type 0
IsFullAt i [] = Unit {0}
IsFullAt zero (k ∷ ks) = 32 ≤ k.count
IsFullAt (suc i) (k ∷ ks) = IsFullAt i ks

-- empty rows, with room for separators and kids
pub record IsSpare {K V : Type 0} (ss : Vec K Global) (ks : Vec (Branch K V) Global) : Type 0 where
  pub empty : ss.items ≡ []
  pub no_kids : ks.items ≡ []
  pub room : 33 ≤ vec_capacity ss
  pub kids_room : 34 ≤ vec_capacity ks

-- a node that holds the given pairs now, alone or with a separator and a node after it
abbrev pub HasBecome : {K V : Type 0} → (K → K → Ordering) → ℕ → ℕ → List (K × V) → Branch K V → Option (K × Branch K V) → Type 0
HasBecome R fewest height pairs new None = IsKid fewest height new × (new.pairs ≡ pairs)
HasBecome R fewest height pairs new (Some s) = IsKid 16 height new × IsKid 16 height s.1 × (new.pairs ++ s.1.pairs ≡ pairs) × Parts R s.0 new.pairs s.1.pairs

-- the rows once such a separator and node stand after the i-th kid
abbrev pub with_separator : {K V : Type 0} → List K → ℕ → Option (K × Branch K V) → List K
with_separator ss i None = ss
with_separator ss i (Some s) = insert ss i s.0

abbrev pub with_kid : {K V : Type 0} → List (Branch K V) → ℕ → Option (K × Branch K V) → List (Branch K V)
with_kid ks i None = ks
with_kid ks i (Some s) = insert ks (suc i) s.1

-- kids of which the i-th may have one pair or separator too few
abbrev pub AreBut : {K V : Type 0} → ℕ → ℕ → List (Branch K V) → Type 0
AreBut height i [] = ⊥
AreBut height zero (k ∷ ks) = IsKid 15 height k × Each (IsKid 16 height) ks
AreBut height (suc i) (k ∷ ks) = IsKid 16 height k × AreBut height i ks

-- an inner node whose i-th kid may have one pair or separator too few
pub record IsLoose {K V : Type 0} (R : K → K → Ordering) (i : ℕ) (ss : List K) (ks : List (Branch K V)) : Type 0 where
  pub level : ℕ
  pub fits : length ks ≡ suc (length ss)
  pub kids : AreBut level i ks
  pub parted : AreParted R ss ks

-- a node that has lost at most one pair or separator of its own
pub record HasShrunk {K V : Type 0} (old new : Branch K V) : Type 0 where
  pub level : new.height ≡ old.height
  pub most : new.count ≤ old.count
  pub least : old.count ≤ new.count + 1
  pub full : IsFull new

-- how the pairs of two leaves are shared: one holds all, or a separator parts so many of them from the others
abbrev pub IsParting : {K V : Type 0} → (K → K → Ordering) → List (K × V) → Option (K × ℕ) → Type 0
IsParting R pairs None = length pairs ≤ 32
IsParting R pairs (Some s) = (16 ≤ s.1) × (s.1 ≤ 32) × (s.1 + 16 ≤ length pairs) × (length pairs ≤ s.1 + 32) × Parts R s.0 (take s.1 pairs) (drop s.1 pairs)

-- how many pairs two kids have of their own: the one at a place and the one before it, or the first two
abbrev pub beside_count : {K V : Type 0} → ℕ → List (Branch K V) → ℕ
beside_count zero [] = 0
beside_count zero (k ∷ []) = 0
beside_count zero (k ∷ j ∷ ks) = k.count + j.count
beside_count (suc zero) [] = 0
beside_count (suc zero) (k ∷ []) = 0
beside_count (suc zero) (k ∷ j ∷ ks) = k.count + j.count
beside_count (suc (suc i)) [] = 0
beside_count (suc (suc i)) (k ∷ ks) = beside_count (suc i) ks
