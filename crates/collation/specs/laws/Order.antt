-- The orders are total, and only equal subscripts or references tie.
use Rattle.std.specs.Prelude.{◌≡◌, List, ℕ, Bool, true, false, nat_eq}
use Rattle.std.specs.Bool.{Decides, one_answer}
use Rattle.std.specs.declared.cmp.Ordering.{Ordering}
use Rattle.std.specs.declared.cmp.Ordering.TheVariants.{Less, Equal, Greater}
use Rattle.std.proofs.Common.{refl, ap, subst, ◌∙◌}
use Rattle.std.proofs.lemmas.Bool.{and_from}
use Rattle.std.specs.Ordering.{nat_cmp, int_cmp, ordering_then, ordering_reverse, is_lt, is_eq, eq_by_cmp}
use Rattle.std.specs.Cmp.{IsTotalOrder, then_total, on_total, nat_cmp_total, int_cmp_total, tied_itself, first_so, second_so, IsEquivalence, and_equiv, on_equiv, nat_eq_equiv, bool_eq_equiv}
use Rattle.std.specs.Cmp.Lexicographic.{slice_cmp, lists_total, nat_list_cmp_total, pointwise, pointwise_decides, bytes_decides, lists_equiv}
use Rattle.std.specs.FinMap.{IsAntisymmetric, slice_cmp-IsAntisymmetric, nat_cmp-IsAntisymmetric}
use Rattle.canonic_number.specs.Number.{is_canonic, value_of}
use Rattle.canonic_number.specs.laws.Classes.{AreTied, both_tied}
use Rattle.collation.specs.Reference.{Reference}
use Rattle.collation.specs.Order.{class_of, number_of, subscript_cmp, ref_cmp, ref_eq, spot_eq}

pub subscript_cmp_total : IsTotalOrder subscript_cmp
unfolding subscript_cmp
subscript_cmp_total = then_total (on_total class_of nat_cmp_total) (then_total (on_total number_of int_cmp_total) nat_list_cmp_total)

pub ref_cmp_total : IsTotalOrder ref_cmp
unfolding ref_cmp
ref_cmp_total = then_total (on_total (λ r. r.name) nat_list_cmp_total) (on_total (λ r. r.subscripts) (lists_total subscript_cmp_total))

-- an answer that tests as less is less
pub is_less : (o : Ordering) → is_lt o ≡ true → o ≡ Less
is_less Less e = refl
is_less Equal e = cc
is_less Greater e = cc

-- an answer that tests as equal is equal
pub is_equal : (o : Ordering) → is_eq o ≡ true → o ≡ Equal
is_equal Less e = cc
is_equal Equal e = refl
is_equal Greater e = cc

-- the other way round an order answers the reverse
pub turned : {K : Type 0} {R : K → K → Ordering} → IsTotalOrder R → (x y : K) (r : Ordering) → R x y ≡ r → R y x ≡ ordering_reverse r
turned o x y r e = o.antisymm y x ∙ ap ordering_reverse e

-- two numbers compare by their values, and then as texts
pub numbers : (a b : List ℕ) → is_canonic a ≡ true → is_canonic b ≡ true → subscript_cmp a b ≡ ordering_then (int_cmp (value_of a) (value_of b)) (slice_cmp nat_cmp a b)
unfolding subscript_cmp
numbers a b p q = rw (p, q) refl

-- a number stands before a text that is none
pub number_first : (a b : List ℕ) → is_canonic a ≡ true → is_canonic b ≡ false → subscript_cmp a b ≡ Less
unfolding subscript_cmp
number_first a b p q = rw (p, q) refl

-- a text that is no number stands after a number
pub number_second : (a b : List ℕ) → is_canonic a ≡ false → is_canonic b ≡ true → subscript_cmp a b ≡ Greater
unfolding subscript_cmp
number_second a b p q = rw (p, q) refl

-- two texts that are no numbers compare byte by byte
pub no_numbers : (a b : List ℕ) → is_canonic a ≡ false → is_canonic b ≡ false → subscript_cmp a b ≡ slice_cmp nat_cmp a b
unfolding subscript_cmp
no_numbers a b p q = rw (p, q) refl

pub subscript_cmp-IsAntisymmetric : IsAntisymmetric subscript_cmp
unfolding subscript_cmp
subscript_cmp-IsAntisymmetric x y e = slice_cmp-IsAntisymmetric nat_cmp-IsAntisymmetric x y (both_tied (int_cmp (number_of x) (number_of y)) _ (both_tied (nat_cmp (class_of x) (class_of y)) _ e).second).second

pub ref_cmp-IsAntisymmetric : IsAntisymmetric ref_cmp
unfolding ref_cmp
ref_cmp-IsAntisymmetric x y e =
    let ties : AreTied (slice_cmp nat_cmp x.name y.name) (slice_cmp subscript_cmp x.subscripts y.subscripts) = both_tied _ _ e in
    let names : x.name ≡ y.name = slice_cmp-IsAntisymmetric nat_cmp-IsAntisymmetric x.name y.name ties.first in
    let subscripts : x.subscripts ≡ y.subscripts = slice_cmp-IsAntisymmetric subscript_cmp-IsAntisymmetric x.subscripts y.subscripts ties.second in
    λ i. record { name = names i; subscripts = subscripts i }

-- the test of equality agrees with an order in which only equal values tie
pub ties_of : {K : Type 0} {E : K → K → Bool} {R : K → K → Ordering} → IsTotalOrder R → IsAntisymmetric R → ((x y : K) → Decides (E x y) (x ≡ y)) → (x y : K) → E x y ≡ eq_by_cmp R x y
ties_of {R = R} total same decides x y = one_answer _ _ (decides x y) (λ e. same x y (is_equal (R x y) e), λ e. subst (λ z. is_eq (R x z) ≡ true) e (ap is_eq (tied_itself total x)))

pub subscript_eq_decides : (x y : List ℕ) → Decides (pointwise nat_eq x y) (x ≡ y)
subscript_eq_decides x y = bytes_decides x y

pub ref_eq_decides : (x y : Reference) → Decides (ref_eq x y) (x ≡ y)
ref_eq_decides x y =
    let names = bytes_decides x.name y.name in
    let subscripts = pointwise_decides subscript_eq_decides x.subscripts y.subscripts in (
      λ e. joined x y (names.0 (first_so _ _ e)) (subscripts.0 (second_so (pointwise nat_eq x.name y.name) _ e)),
      λ e. and_from _ _ (names.1 (ap (λ r. r.name) e)) (subscripts.1 (ap (λ r. r.subscripts) e)),
    )
  where
    joined : (x y : Reference) → x.name ≡ y.name → x.subscripts ≡ y.subscripts → x ≡ y
    joined x y names subscripts = λ i. record { name = names i; subscripts = subscripts i }

pub ref_eq_laws : IsEquivalence ref_eq
ref_eq_laws = and_equiv (on_equiv (λ r. r.name) (lists_equiv nat_eq_equiv)) (on_equiv (λ r. r.subscripts) (lists_equiv (lists_equiv nat_eq_equiv)))

pub ref_ties : (x y : Reference) → ref_eq x y ≡ eq_by_cmp ref_cmp x y
ref_ties = ties_of ref_cmp_total ref_cmp-IsAntisymmetric ref_eq_decides

pub spot_eq_laws : IsEquivalence spot_eq
spot_eq_laws = and_equiv (on_equiv (λ p. p.reference) ref_eq_laws) (on_equiv (λ p. p.is_open) bool_eq_equiv)
