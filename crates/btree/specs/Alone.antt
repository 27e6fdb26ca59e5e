-- A pair taken out where the pair after it isn't before a point.
use Rattle.std.specs.Prelude.{◌≡◌, Bool, false, List, ◌∷◌, ◌++◌}
use Rattle.std.specs.declared.cmp.Ordering.{Ordering}
use Rattle.std.specs.declared.cmp.Ordering.TheVariants.{Equal}

-- the pair of a key has left the list, and the one after it doesn't stand before a point. before is the point's test
pub record IsTakenAlone {K V : Type 0} (R : K → K → Ordering) (before : K → Bool) (key : K) (value : V) (old new : List (K × V)) : Type 0 where
  pub front : List (K × V)
  pub stored : K
  pub next : K × V
  pub back : List (K × V)
  pub was : old ≡ front ++ (stored, value) ∷ next ∷ back
  pub is : new ≡ front ++ next ∷ back
  pub ties : R key stored ≡ Equal
  pub past : before next.0 ≡ false
