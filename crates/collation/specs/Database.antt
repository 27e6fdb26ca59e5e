-- A database: a finite map from references to values. What lies under a reference.
use Rattle.std.specs.Prelude.{ℕ, Bool, true, false, ◌&&◌, nat_eq, List, [], ◌∷◌, IsTrue, refl}
use Rattle.std.specs.FinMap.{FinMap, code}
use Rattle.std.specs.Coded.{Coded, code_by, coded×, coded_ℕ, coded_list}
use Rattle.std.specs.Cmp.Lexicographic.{pointwise}
use Rattle.collation.specs.Reference.{Reference}
use Rattle.collation.specs.Order.{ref_cmp}

abbrev pub Database : Type 0
Database = FinMap ref_cmp (List ℕ)

-- xs begins with ys
abbrev pub begins_with : List (List ℕ) → List (List ℕ) → Bool
begins_with xs [] = true
begins_with [] (y ∷ ys) = false
begins_with (x ∷ xs) (y ∷ ys) = pointwise nat_eq x y && begins_with xs ys

-- the test of: x is r or one of its descendants
abbrev pub is_under : Reference → Reference → Bool
is_under r x = pointwise nat_eq r.name x.name && begins_with x.subscripts r.subscripts

-- x is r or one of its descendants
abbrev pub IsUnder : Reference → Reference → Type 0
IsUnder r x = IsTrue (is_under r x)

-- how a reference and a database are stored
abbrev pub reference_code : Coded Reference
reference_code =
    code_by (List ℕ × List (List ℕ)) (coded× (coded_list coded_ℕ) (coded_list (coded_list coded_ℕ))) (λ r. (r.name, r.subscripts))
    (λ p. record { name = p.0; subscripts = p.1 }) (λ _. refl)

abbrev pub database_code : Coded Database
database_code = code reference_code (coded_list coded_ℕ)
