-- Key bytes of a name's beginning.
use Rattle.std.proofs.Common.{◌≡◌, ℕ, Bool, true, false, List, ◌++◌, length, drop, refl, sym, ap, ◌∙◌}
use Rattle.std.proofs.lemmas.Bool.Decides.{Decides-eqb}
use Rattle.std.proofs.lemmas.Slice.Eq.{starts_is}
use Rattle.std.specs.Prelude.{nat_eq}
use Rattle.std.specs.Bool.{Decides}
use Rattle.std.specs.List.{starts_with}
use Rattle.std.specs.Ordering.{nat_cmp}
use Rattle.std.specs.Cmp.Lexicographic.{slice_cmp}
use Rattle.collation.specs.Reference.{Reference}
use Rattle.collation.specs.Database.{is_under}
use Rattle.collation.specs.Order.{ref_cmp}
use Rattle.key_codec.specs.Key.{key_of, IsFaultless}
use Rattle.key_codec.specs.Back.{reference_of}
use Rattle.key_codec.specs.Kept.{Keeps}
use Rattle.key_codec.specs.laws.Back.{reference_of_key, key_again, is_reference_again}
use Rattle.key_codec.specs.laws.Bounds.{compare_as_references, begin_as_references}

-- bytes of a key are kept
pub keeps : (bytes : List ℕ) (r : Reference) → bytes ≡ key_of r → IsFaultless r → Keeps bytes (reference_of bytes)
keeps bytes r e is = record { key = sym (key_again bytes r is e); form = is_reference_again bytes r is e }

-- and stand for their reference
pub stands_for : (bytes : List ℕ) (r : Reference) → bytes ≡ key_of r → IsFaultless r → reference_of bytes ≡ r
stands_for bytes r e is = ap reference_of e ∙ reference_of_key r is

-- they compare as it does
pub compared : (a b : List ℕ) (x r : Reference) → a ≡ key_of x → IsFaultless x → Keeps b r → slice_cmp nat_cmp a b ≡ ref_cmp x r
compared a b x r e is kept = (λ i. slice_cmp nat_cmp (e i) (kept.key i)) ∙ compare_as_references x r is kept.form

bytes_tell : (x y : ℕ) → Decides (nat_eq x y) (x ≡ y)
bytes_tell x y = Decides-eqb x y

-- and begin the keys of what is under it
pub begun : (a b : List ℕ) (x r : Reference) (t : Bool) → a ≡ key_of x → IsFaultless x → Keeps b r → t ≡ starts_with nat_eq a b → t ≡ is_under r x
begun a b x r t e is kept tested = by_tests t (is_under r x) refl refl
  where
    by_tests : (u v : Bool) → t ≡ u → is_under r x ≡ v → u ≡ v
    by_tests true true p q = refl
    by_tests false false p q = refl
    by_tests true false p q =
        let begins = (starts_is bytes_tell a b t tested).0 p in
        let under : is_under r x ≡ true = (begin_as_references r x kept.form is).1 (drop (length b) a, sym e ∙ begins ∙ ap (λ f. f ++ drop (length b) a) kept.key) in
        cc
    by_tests false true p q =
        let begins = (begin_as_references r x kept.form is).0 q in
        let starts : t ≡ true = (starts_is bytes_tell a b t tested).1 begins.0 (e ∙ begins.1 ∙ ap (λ f. f ++ begins.0) (sym kept.key)) in
        cc
