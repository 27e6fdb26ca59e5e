-- What a tree is seen as, and what holds of its root.
use Rattle.std.specs.Prelude.{ℕ, suc, ◌<◌, ◌≤◌, List, length, refl}
use Rattle.std.specs.Coded.{Coded, code_by, coded×, coded_ℕ, coded_list}
use Rattle.std.specs.declared.cmp.Ordering.{Ordering}
use Rattle.btree.specs.Order.{Ascends}
use Rattle.btree.specs.Branch.{Branch}
use Rattle.btree.specs.Rows.{IsFull}

-- the pairs in the order of their keys, how many levels of nodes there are, and how many pairs or separators each node but the root has
pub record Content (K V : Type 0) : Type 0 where
  pub pairs : List (K × V)
  pub depth : ℕ
  pub sizes : List ℕ

abbrev pub content_code : {K V : Type 0} → Coded K → Coded V → Coded (Content K V)
content_code {K} {V} k v = code_by (List (K × V) × (ℕ × List ℕ)) (coded× (coded_list (coded× k v)) (coded× coded_ℕ (coded_list coded_ℕ))) (λ c. (c.pairs, (c.depth, c.sizes))) (λ p. record { pairs = p.0; depth = p.1.0; sizes = p.1.1 }) (λ _. refl)

abbrev pub content_of : {K V : Type 0} → Branch K V → Content K V
content_of root = record { pairs = root.pairs; depth = suc root.height; sizes = root.sizes }

pub record IsRoot {K V : Type 0} (R : K → K → Ordering) (root : Branch K V) : Type 0 where
  pub sorted : Ascends R root.pairs
  pub most : root.count ≤ 32
  pub full : IsFull root
  pub inner : 0 < root.height → 0 < root.count
  pub many : 0 < root.height → 32 < length root.pairs
