-- A pair put between the pairs next to its place.
use Rattle.std.specs.Prelude.{◌≡◌, Option, None, IfSome, List, [], ◌∷◌}
use Rattle.std.specs.declared.cmp.Ordering.{Ordering}
use Rattle.std.specs.FinMap.Entries.{find, put}
use Rattle.std.specs.declared.cmp.Ordering.TheVariants.{Less}
use Rattle.btree.specs.Order.{last_of, IsBefore, IsAfter}
use Rattle.btree.specs.Parts.{IsFrom}

-- a key that wasn't among the pairs is put in
abbrev pub IsPutIn : {K X : Type 0} → (K → K → Ordering) → K → X → List (K × X) → List (K × X) → Type 0
IsPutIn R key value old new = (find R key old ≡ None) × (new ≡ put R key value old)

-- a key above the last of the pairs; where there are none, not before the separator low
abbrev pub IsAbove : {K X : Type 0} → (K → K → Ordering) → K → Option K → List (K × X) → Type 0
IsAbove R key low [] = IfSome low (λ s. IsFrom R s key)
IsAbove R key low (e ∷ es) = IfSome (last_of (e ∷ es)) (IsBefore R key)

-- a key below the first of the pairs; where there are none, before the separator high
abbrev pub IsBelow : {K X : Type 0} → (K → K → Ordering) → K → Option K → List (K × X) → Type 0
IsBelow R key high [] = IfSome high (λ s. R key s ≡ Less)
IsBelow R key high (e ∷ es) = IsAfter R key e
