-- What decides between two subscripts, by their classes.
use Rattle.std.proofs.Common.{◌≡◌, ◌≤◌, ◌+◌, ℕ, ℤ, List, length, true, refl, subst, ◌∙◌, arith}
use Rattle.std.specs.declared.cmp.Ordering.{Ordering}
use Rattle.std.specs.declared.cmp.Ordering.TheVariants.{Less, Equal, Greater}
use Rattle.std.specs.Ordering.{nat_cmp, int_cmp, ordering_then}
use Rattle.std.specs.Cmp.Lexicographic.{slice_cmp, nat_list_cmp_total}
use Rattle.std.specs.Cmp.{tied_itself}
use Rattle.std.specs.FinMap.{int_cmp-IsAntisymmetric}
use Rattle.canonic_number.specs.laws.Classes.{equal_texts}
use Rattle.canonic_number.specs.Number.{is_canonic, value_of, limit, scale}
use Rattle.collation.specs.Order.{subscript_cmp}
use Rattle.collation.specs.laws.Order.{numbers}

-- a second order that ties where the first does adds nothing
adds_nothing : (o p : Ordering) → (o ≡ Equal → p ≡ Equal) → ordering_then o p ≡ o
adds_nothing Less p h = refl
adds_nothing Equal p h = h refl
adds_nothing Greater p h = refl

-- within the limit the values decide alone, since texts of one value are one
pub numbers_by_value : (s t : List ℕ) → is_canonic s ≡ true → is_canonic t ≡ true → length s ≤ limit → length t ≤ limit → subscript_cmp s t ≡ int_cmp (value_of s) (value_of t)
numbers_by_value s t is it short short' =
    let within : length s ≤ scale + 1 = omega (arith, short) in
    let within' : length t ≤ scale + 1 = omega (arith, short') in
    let tied : int_cmp (value_of s) (value_of t) ≡ Equal → slice_cmp nat_cmp s t ≡ Equal =
    λ e. let same : s ≡ t = equal_texts scale s t is it within within' (int_cmp-IsAntisymmetric (value_of s) (value_of t) e) in
    subst (λ (u : List ℕ). slice_cmp nat_cmp s u ≡ Equal) same (tied_itself nat_list_cmp_total s) in
    numbers s t is it ∙ adds_nothing (int_cmp (value_of s) (value_of t)) (slice_cmp nat_cmp s t) tied

-- two numbers that were read, compared by their values m and n
pub numbers_as : (a b : List ℕ) (m n : ℤ) (r : Ordering) → is_canonic a ≡ true → is_canonic b ≡ true → length a ≤ limit → length b ≤ limit → value_of a ≡ m → value_of b ≡ n → r ≡ int_cmp m n → r ≡ subscript_cmp a b
numbers_as a b m n r p q k l v w e = rw (numbers_by_value a b p q k l, v, w) e
