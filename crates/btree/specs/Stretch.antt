-- The pairs between two points, and a stretch of them taken out.
use Rattle.std.specs.Prelude.{◌≡◌, ◌+◌, ◌<◌, ◌≤◌, ℕ, Bool, true, false, cond, List, [], ◌++◌, length, take, drop}
use Rattle.std.specs.List.{between, remove_range}
use Rattle.std.specs.declared.cmp.Ordering.{Ordering}
use Rattle.btree.specs.Order.{Each}
use Rattle.btree.specs.Branch.{Branch}
use Rattle.btree.specs.Rows.{height_of, IsFull, IsInner}

-- a pair whose key does not stand before one point and stands before another. from and to are the points' tests
abbrev pub is_in_run : {K X : Type 0} → (K → Bool) → (K → Bool) → K × X → Bool
is_in_run from to e = cond (from e.0) false (to e.0)

-- so many pairs of the run are taken out, side by side: the pairs before the run stand in front of them. None are only where there is no run
pub record IsStretch {K X : Type 0} (from to : K → Bool) (old : List (K × X)) (count : ℕ) (new : List (K × X)) : Type 0 where
  pub front : List (K × X)
  pub stretch : List (K × X)
  pub back : List (K × X)
  pub was : old ≡ front ++ (stretch ++ back)
  pub is : new ≡ front ++ back
  pub size : length stretch ≡ count
  pub ahead : Each (λ (e : K × X). from e.0 ≡ true) front
  pub inside : Each (λ (e : K × X). is_in_run from to e ≡ true) stretch
  pub last : count ≡ 0 → Each (λ (e : K × X). is_in_run from to e ≡ false) back

-- the run of a leaf's pairs stands between these places
pub record IsRun {K X : Type 0} (from to : K → Bool) (es : List (K × X)) (i j : ℕ) : Type 0 where
  pub order : i ≤ j
  pub in_range : j ≤ length es
  pub ahead : Each (λ (e : K × X). from e.0 ≡ true) (take i es)
  pub inside : Each (λ (e : K × X). is_in_run from to e ≡ true) (between i j es)
  pub after : Each (λ (e : K × X). is_in_run from to e ≡ false) (drop j es)

-- places of a leaf
abbrev pub ArePlaces : {K V : Type 0} → Branch K V → ℕ → ℕ → Type 0
ArePlaces b i j = (i ≤ j) × (j ≤ b.count)

-- a leaf without the pairs between two places
abbrev pub lessened : {K V : Type 0} → Branch K V → ℕ → ℕ → Branch K V
lessened b i j = record { pairs = remove_range b.pairs i j; height = 0; count = length (remove_range b.pairs i j); sizes = [] }

-- an inner node's rows once a kid has lost some pairs: it has lost at most one separator
pub record IsMended {K V : Type 0} (R : K → K → Ordering) (ss : List K) (ks : List (Branch K V)) (ts : List K) (gs : List (Branch K V)) : Type 0 where
  pub node : IsInner R ts gs
  pub height : height_of gs ≡ height_of ks
  pub most : length ts ≤ length ss
  pub least : length ss ≤ length ts + 1

-- a node that has lost pairs, and an inner node at most one separator of its own
pub record HasLost {K V : Type 0} (old new : Branch K V) : Type 0 where
  pub level : new.height ≡ old.height
  pub most : new.count ≤ old.count
  pub least : 0 < old.height → old.count ≤ new.count + 1
  pub full : IsFull new
