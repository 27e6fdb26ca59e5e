-- References as lists in lexicographic order.
use Rattle.canonic_number.specs.Number.{is_canonic}
use Rattle.std.proofs.Common.{rules, ◌≡◌, ℕ, Bool, true, false, List, [], ◌∷◌, refl, sym, ap, ◌∙◌, Option, None}
use Rattle.std.specs.Prelude.{nat_eq, cond, not, ◌&&◌, ◌||◌}
use Rattle.std.specs.declared.cmp.Ordering.{Ordering}
use Rattle.std.specs.declared.cmp.Ordering.TheVariants.{Less, Equal, Greater}
use Rattle.std.specs.Ordering.{nat_cmp, is_lt, is_eq, ordering_then, ordering_reverse}
use Rattle.std.specs.Cmp.Lexicographic.{slice_cmp, pointwise}
use Rattle.collation.specs.Reference.{Reference}
use Rattle.collation.specs.Order.{subscript_cmp, ref_cmp}
use Rattle.collation.specs.laws.Order.{subscript_cmp_total, subscript_cmp-IsAntisymmetric, subscript_eq_decides, ties_of}
use Rattle.collation.specs.Database.{is_under, begins_with}
use Rattle.globals.specs.laws.Sequences.{next_of, begins, sibling, passed, not_passed}
use Rattle.globals.specs.Entries.{any_of}
use Rattle.collation.specs.Levels.{child, child_of, has_name, without_last, last, is_before}
use Rattle.globals.specs.Cuts.{is_past}

-- the name as a text that is no number, and the subscripts
abbrev pub path : Reference → List (List ℕ)
path r = (120 ∷ r.name) ∷ r.subscripts

no_number : (n : List ℕ) → is_canonic (120 ∷ n) ≡ false
no_number n = search rules

cmp_names : (n m : List ℕ) → subscript_cmp (120 ∷ n) (120 ∷ m) ≡ slice_cmp nat_cmp n m
unfolding subscript_cmp
cmp_names n m = rw (no_number n, no_number m) refl

pub cmp_path : (r x : Reference) → ref_cmp r x ≡ slice_cmp subscript_cmp (path r) (path x)
unfolding ref_cmp
cmp_path r x = ap (λ c. ordering_then c (slice_cmp subscript_cmp r.subscripts x.subscripts)) (sym (cmp_names r.name x.name))

ties : (x y : List ℕ) → pointwise nat_eq x y ≡ is_eq (subscript_cmp x y)
ties = ties_of subscript_cmp_total subscript_cmp-IsAntisymmetric subscript_eq_decides

turn_eq : (r : Ordering) → is_eq (ordering_reverse r) ≡ is_eq r
turn_eq Less = refl
turn_eq Equal = refl
turn_eq Greater = refl

ties_back : (x y : List ℕ) → pointwise nat_eq x y ≡ is_eq (subscript_cmp y x)
ties_back x y = ties x y ∙ ap is_eq (subscript_cmp_total.antisymm x y) ∙ turn_eq (subscript_cmp y x)

child_next : (ps xs : List (List ℕ)) → child ps xs ≡ next_of subscript_cmp ps xs
child_next [] [] = refl
child_next [] (x ∷ xs) = refl
child_next (p ∷ ps) [] = refl
child_next (p ∷ ps) (x ∷ xs) = λ i. cond (ties p x i) (child_next ps xs i) None

pub child_path : (r x : Reference) → child_of r x ≡ next_of subscript_cmp (path r) (path x)
child_path r x = child_next (path r) (path x)

begins_so : (xs ps : List (List ℕ)) → begins_with xs ps ≡ begins subscript_cmp ps xs
begins_so xs [] = refl
begins_so [] (p ∷ ps) = refl
begins_so (x ∷ xs) (p ∷ ps) = λ i. ties_back x p i && begins_so xs ps i

pub under_path : (r x : Reference) → is_under r x ≡ begins subscript_cmp (path r) (path x)
under_path r x = λ i. ties (120 ∷ r.name) (120 ∷ x.name) i && begins_so x.subscripts r.subscripts i

pub past_path : (r x : Reference) → is_past r x ≡ passed subscript_cmp (path r) (path x)
past_path r x = λ i. not (under_path r x i) && is_lt (cmp_path r x i)

pub before_path : (r x : Reference) → is_before true r x ≡ not_passed subscript_cmp (path r) (path x)
before_path r x = λ i. under_path r x i || is_lt (cmp_path x r i)

pub name_path : (r x : Reference) → has_name r x ≡ is_eq (subscript_cmp (120 ∷ r.name) (120 ∷ x.name))
name_path r x = ties (120 ∷ r.name) (120 ∷ x.name)

-- a test of the subscript beside the last one of a list
any_cond : {X : Type 0} (test : X → Bool) (b : Bool) (o : Option X) → any_of test (cond b o None) ≡ cond b (any_of test o) false
any_cond test true o = refl
any_cond test false o = refl

pub sibling_next : (test : List ℕ → List ℕ → Bool) (r : List ℕ) (rs xs : List (List ℕ)) → any_of (test (last (r ∷ rs))) (child (without_last (r ∷ rs)) xs) ≡ sibling subscript_cmp test (r ∷ rs) xs
sibling_next test r [] xs = ap (any_of (test r)) (child_next [] xs)
sibling_next test r (s ∷ rs) [] = refl
sibling_next test r (s ∷ rs) (x ∷ xs) = any_cond (test (last (s ∷ rs))) (pointwise nat_eq r x) (child (without_last (s ∷ rs)) xs) ∙ (λ i. cond (ties r x i) (sibling_next test s rs xs i) false)
