-- Separators, and what they part.
use Rattle.std.specs.Prelude.{◌≡◌, ◌⊎◌, ◌++◌, Option, IfSome, List, [], ◌∷◌}
use Rattle.std.specs.declared.cmp.Ordering.{Ordering}
use Rattle.std.specs.declared.cmp.Ordering.TheVariants.{Less, Equal, Greater}
use Rattle.btree.specs.Order.{Each}
use Rattle.btree.specs.Branch.{Branch}

-- a key that does not stand before a separator
abbrev pub IsFrom : {K : Type 0} → (K → K → Ordering) → K → K → Type 0
IsFrom R s key = (R key s ≡ Equal) ⊎ (R key s ≡ Greater)

-- the first pairs stand before the separator, and the others don't
abbrev pub Parts : {K V : Type 0} → (K → K → Ordering) → K → List (K × V) → List (K × V) → Type 0
Parts {K} {V} R s xs ys = Each (λ (e : K × V). R e.0 s ≡ Less) xs × Each (λ (e : K × V). IsFrom R s e.0) ys

-- each separator is below all later ones
abbrev pub Rises : {K : Type 0} → (K → K → Ordering) → List K → Type 0
Rises R [] = Unit {0}
Rises R (s ∷ ss) = Each (λ t. R s t ≡ Less) ss × Rises R ss

-- the pairs of all kids, in order
abbrev pub flat : {K V : Type 0} → List (Branch K V) → List (K × V)
flat [] = []
flat (k ∷ ks) = k.pairs ++ flat ks

-- each separator parts the pairs of the kid before it from those of the later kids, and is below the later separators
abbrev pub AreParted : {K V : Type 0} → (K → K → Ordering) → List K → List (Branch K V) → Type 0
AreParted R [] ks = Unit {0}
AreParted R (s ∷ ss) [] = Unit {0}
AreParted R (s ∷ ss) (k ∷ ks) = Parts R s k.pairs (flat ks) × Each (λ t. R s t ≡ Less) ss × AreParted R ss ks

-- a key between two separators, where there are any: not before the lower one, and before the higher one
abbrev pub IsWithin : {K : Type 0} → (K → K → Ordering) → Option K → Option K → K → Type 0
IsWithin R low high key = IfSome low (λ s. IsFrom R s key) × IfSome high (λ s. R key s ≡ Less)

-- a copy of this key is never refused, and ties with it
abbrev pub IsSure : {K : Type 0} → (K → K → Ordering) → (K → K → Type 0) → (K → Type 0) → K → Type 0
IsSure {K} R is_clone is_infallible key = is_infallible key × ((copy : K) → is_clone key copy → R copy key ≡ Equal)
