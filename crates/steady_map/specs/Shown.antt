-- The pairs that a map shows.
use Rattle.std.specs.Prelude.{Bool, false, not, cond, Option, Some, None, List, [], ◌∷◌, refl}
use Rattle.std.specs.List.{filter}
use Rattle.std.specs.Ordering.{eq_by_cmp}
use Rattle.std.specs.declared.cmp.Ordering.{Ordering}
use Rattle.btree.specs.Order.{Each}
use Rattle.std.specs.Coded.{Coded, code_by, coded×, coded_list}

-- what a map is seen as: its pairs in the order of their keys, and the keys that are hidden
pub record Seen (K V : Type 0) : Type 0 where
  pub pairs : List (K × V)
  pub hidden : List K

abbrev pub seen_code : {K V : Type 0} → Coded K → Coded V → Coded (Seen K V)
seen_code {K} {V} k v = code_by (List (K × V) × List K) (coded× (coded_list (coded× k v)) (coded_list k)) (λ c. (c.pairs, c.hidden)) (λ p. record { pairs = p.0; hidden = p.1 }) (λ _. refl)

-- a key in front, where it has a value
abbrev pub with_value : {K V : Type 0} → K → Option V → List (K × V) → List (K × V)
with_value k None es = es
with_value k (Some v) es = (k, v) ∷ es

-- the pairs that have a value
abbrev pub shown : {K V : Type 0} → List (K × Option V) → List (K × V)
shown [] = []
shown (e ∷ es) = with_value e.0 e.1 (shown es)

-- a key in front, where it has no value
abbrev pub without_value : {K V : Type 0} → K → Option V → List K → List K
without_value k None ks = k ∷ ks
without_value k (Some v) ks = ks

-- the keys that have no value
abbrev pub hidden_keys : {K V : Type 0} → List (K × Option V) → List K
hidden_keys [] = []
hidden_keys (e ∷ es) = without_value e.0 e.1 (hidden_keys es)

-- the keys that don't tie with this one
abbrev pub others : {K : Type 0} → (K → K → Ordering) → K → List K → List K
others R key = filter (λ k. not (eq_by_cmp R key k))

-- a key that is not before one point and is before another. from and to are the points' tests
abbrev pub is_between : {K : Type 0} → (K → Bool) → (K → Bool) → K → Bool
is_between from to k = cond (from k) false (to k)

-- all keys have S, those of the hidden pairs too
abbrev pub HaveAll : {K V : Type 0} → (K → Type 0) → Seen K V → Type 0
HaveAll {K} {V} S m = Each (λ (e : K × V). S e.0) m.pairs × Each S m.hidden

-- the value that is there, if there is one
abbrev pub joined : {V : Type 0} → Option (Option V) → Option V
joined None = None
joined (Some v) = v

-- the pair of a key, if it has a value
abbrev pub pair_of : {K V : Type 0} → K → Option V → Option (K × V)
pair_of k None = None
pair_of k (Some v) = Some (k, v)
