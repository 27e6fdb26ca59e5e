-- What is under a reference, and where the references under one lie.
use Rattle.std.proofs.Common.{◌≡◌, true, List, [], ◌∷◌, ℕ, refl, sym, ◌∙◌}
use Rattle.std.specs.Prelude.{not}
use Rattle.std.proofs.lemmas.Bool.{and_from}
use Rattle.std.specs.Ordering.{is_lt}
use Rattle.std.specs.Cmp.{first_so, second_so}
use Rattle.std.specs.Cmp.Lexicographic.{pointwise, bytes_decides}
use Rattle.std.specs.Prelude.{nat_eq}
use Rattle.collation.specs.Reference.{Reference}
use Rattle.collation.specs.Order.{ref_cmp}
use Rattle.collation.specs.Database.{is_under, begins_with}
use Rattle.collation.specs.Levels.{is_before}
use Rattle.globals.specs.laws.Cuts.{under_between}

begins_itself : (xs : List (List ℕ)) → begins_with xs xs ≡ true
begins_itself [] = refl
begins_itself (x ∷ xs) = and_from _ _ ((bytes_decides x x).1 refl) (begins_itself xs)

-- a reference is under itself
pub under_itself : (r : Reference) → is_under r r ≡ true
under_itself r = and_from _ _ ((bytes_decides r.name r.name).1 refl) (begins_itself r.subscripts)

begins_again : (xs ys zs : List (List ℕ)) → begins_with ys zs ≡ true → begins_with xs ys ≡ true → begins_with xs zs ≡ true
begins_again xs ys [] a b = refl
begins_again xs [] (z ∷ zs) a b = absurd (cc)
begins_again [] (y ∷ ys) (z ∷ zs) a b = absurd (cc)
begins_again (x ∷ xs) (y ∷ ys) (z ∷ zs) a b =
    let first : y ≡ z = (bytes_decides y z).0 (first_so _ _ a) in
    let second : x ≡ y = (bytes_decides x y).0 (first_so _ _ b) in
    and_from _ _ ((bytes_decides x z).1 (second ∙ first)) (begins_again xs ys zs (second_so (pointwise nat_eq y z) _ a) (second_so (pointwise nat_eq x y) _ b))

-- what is under something under r is under r
pub under_again : (r s x : Reference) → is_under r s ≡ true → is_under s x ≡ true → is_under r x ≡ true
under_again r s x a b =
    let first : r.name ≡ s.name = (bytes_decides r.name s.name).0 (first_so _ _ a) in
    let second : s.name ≡ x.name = (bytes_decides s.name x.name).0 (first_so _ _ b) in
    and_from _ _ ((bytes_decides r.name x.name).1 (first ∙ second)) (begins_again x.subscripts s.subscripts r.subscripts (second_so (pointwise nat_eq r.name s.name) _ a) (second_so (pointwise nat_eq s.name x.name) _ b))

-- what is under r doesn't stand before it
pub not_before : (r x : Reference) → is_under r x ≡ true → not (is_lt (ref_cmp x r)) ≡ true
not_before r x u = first_so (not (is_lt (ref_cmp x r))) _ (sym (under_between r x) ∙ u)

-- and stands before the end of all under r
pub before_end : (r x : Reference) → is_under r x ≡ true → is_before true r x ≡ true
before_end r x u = second_so (not (is_lt (ref_cmp x r))) _ (sym (under_between r x) ∙ u)
