-- Strings of bytes that are filled up with zeros to one length.
use Rattle.std.proofs.Common.{◌≡◌, ℕ, zero, suc, ◌+◌, ◌<◌, List, [], ◌∷◌, ◌++◌, refl, sym, ap, ◌∙◌, arith, length, take, ◌-◌, ◌⊎◌, inl, inr}
use Rattle.std.specs.Prelude.{replicate}
use Rattle.key_codec.proofs.Spelled.{below, level, above}
use Rattle.key_codec.specs.Held.{IsFilled}
use Rattle.std.specs.Ordering.{nat_cmp, ordering_then, MatchOrdering}
use Rattle.std.specs.Cmp.{ranks}
use Rattle.std.specs.Cmp.Lexicographic.{slice_cmp}
use Rattle.std.proofs.lemmas.List.{length-append, length-replicate, length-take-le, take-append-drop}
use Rattle.std.specs.declared.cmp.Ordering.{Ordering}
use Rattle.std.specs.declared.cmp.Ordering.TheVariants.{Less, Equal, Greater}

-- zeros stand before any string of their length, or are it
pub zeros_first : (n : ℕ) (ys : List ℕ) → length ys ≡ n → (slice_cmp nat_cmp (replicate n 0) ys ≡ Less) ⊎ (slice_cmp nat_cmp (replicate n 0) ys ≡ Equal)
zeros_first zero [] same = inr refl
zeros_first zero (y ∷ ys) same = absurd (omega (arith, same))
zeros_first (suc n) [] same = absurd (omega (arith, same))
zeros_first (suc n) (zero ∷ ys) same = zeros_first n ys (omega (arith, same))
zeros_first (suc n) (suc y ∷ ys) same = inl (ap (λ r. ordering_then r (slice_cmp nat_cmp (replicate n 0) ys)) (below 0 (suc y) (omega arith)))

zeros_last : (n : ℕ) (ys : List ℕ) → length ys ≡ n → (slice_cmp nat_cmp ys (replicate n 0) ≡ Greater) ⊎ (slice_cmp nat_cmp ys (replicate n 0) ≡ Equal)
zeros_last zero [] same = inr refl
zeros_last zero (y ∷ ys) same = absurd (omega (arith, same))
zeros_last (suc n) [] same = absurd (omega (arith, same))
zeros_last (suc n) (zero ∷ ys) same = zeros_last n ys (omega (arith, same))
zeros_last (suc n) (suc y ∷ ys) same = inl (ap (λ r. ordering_then r (slice_cmp nat_cmp ys (replicate n 0))) (above (suc y) 0 (omega arith)))

-- all are equal
zeros_level : (n : ℕ) → slice_cmp nat_cmp (replicate n 0) (replicate n 0) ≡ Equal
zeros_level zero = refl
zeros_level (suc n) = zeros_level n

less_either : (r : Ordering) → (r ≡ Less) ⊎ (r ≡ Equal) → ordering_then r Less ≡ Less
less_either r e = elim e [
  | inl l ↦ ap (λ o. ordering_then o Less) l
  | inr l ↦ ap (λ o. ordering_then o Less) l
]

greater_either : (r : Ordering) → (r ≡ Greater) ⊎ (r ≡ Equal) → ordering_then r Greater ≡ Greater
greater_either r e = elim e [
  | inl l ↦ ap (λ o. ordering_then o Greater) l
  | inr l ↦ ap (λ o. ordering_then o Greater) l
]

three : (r s t : Ordering) → ordering_then r (ordering_then s t) ≡ ordering_then (ordering_then r s) t
three Less s t = refl
three Equal s t = refl
three Greater s t = refl

next : (a b : ℕ) → nat_cmp a b ≡ nat_cmp (suc a) (suc b)
next a b = by_rank (nat_cmp a b) refl (ranks a b)
  where
    by_rank : (r : Ordering) → nat_cmp a b ≡ r → MatchOrdering r (a < b) (a ≡ b) (b < a) → r ≡ nat_cmp (suc a) (suc b)
    by_rank Less e l = let under : a < b = l in sym (below (suc a) (suc b) (omega (arith, under)))
    by_rank Equal e l = let alike : a ≡ b = l in sym (level (suc a) (suc b) (omega (arith, alike)))
    by_rank Greater e l = let over : b < a = l in sym (above (suc a) (suc b) (omega (arith, over)))

-- the shorter of two strings that zeros fill up stands first, where these don't decide
pub padded : (xs ys : List ℕ) (m n : ℕ) → length xs + m ≡ length ys + n → slice_cmp nat_cmp xs ys ≡ ordering_then (slice_cmp nat_cmp (xs ++ replicate m 0) (ys ++ replicate n 0)) (nat_cmp (length xs) (length ys))
padded [] [] m n same =
    let alike : n ≡ m = omega (arith, same) in
    sym (ap (λ r. ordering_then r Equal) (ap (λ k. slice_cmp nat_cmp (replicate m 0) (replicate k 0)) alike ∙ zeros_level m))
padded [] (y ∷ ys) m n same =
    let long = length-append (y ∷ ys) (replicate n 0) in
    let wide = length-replicate {A = ℕ} n 0 in
    sym (less_either (slice_cmp nat_cmp (replicate m 0) ((y ∷ ys) ++ replicate n 0)) (zeros_first m ((y ∷ ys) ++ replicate n 0) (omega (arith, same, long, wide))))
    ∙ ap (ordering_then (slice_cmp nat_cmp (replicate m 0) ((y ∷ ys) ++ replicate n 0))) (sym (below 0 (suc (length ys)) (omega arith)))
padded (x ∷ xs) [] m n same =
    let long = length-append (x ∷ xs) (replicate m 0) in
    let wide = length-replicate {A = ℕ} m 0 in
    sym (greater_either (slice_cmp nat_cmp ((x ∷ xs) ++ replicate m 0) (replicate n 0)) (zeros_last n ((x ∷ xs) ++ replicate m 0) (omega (arith, same, long, wide))))
    ∙ ap (ordering_then (slice_cmp nat_cmp ((x ∷ xs) ++ replicate m 0) (replicate n 0))) (sym (above (suc (length xs)) 0 (omega arith)))
padded (x ∷ xs) (y ∷ ys) m n same =
    ap (ordering_then (nat_cmp x y)) (padded xs ys m n (omega (arith, same))) ∙ three (nat_cmp x y) (slice_cmp nat_cmp (xs ++ replicate m 0) (ys ++ replicate n 0)) (nat_cmp (length xs) (length ys))
    ∙ ap (ordering_then (ordering_then (nat_cmp x y) (slice_cmp nat_cmp (xs ++ replicate m 0) (ys ++ replicate n 0)))) (next (length xs) (length ys))

-- so do the bytes in two rooms that zeros fill up
pub filled_rooms : (m n : ℕ) (xs ys : List ℕ) (r : Ordering) → length xs ≡ 38 → length ys ≡ 38 → IsFilled m xs → IsFilled n ys → r ≡ ordering_then (slice_cmp nat_cmp xs ys) (nat_cmp m n) → r ≡ slice_cmp nat_cmp (take m xs) (take n ys)
filled_rooms m n xs ys r long wide first second is =
    let a = length-take-le m xs (omega (arith, long, first.0)) in
    let b = length-take-le n ys (omega (arith, wide, second.0)) in
    let front : take m xs ++ replicate (38 - m) 0 ≡ xs = ap (λ t. take m xs ++ t) (sym first.1) ∙ take-append-drop m xs in
    let front_too : take n ys ++ replicate (38 - n) 0 ≡ ys = ap (λ t. take n ys ++ t) (sym second.1) ∙ take-append-drop n ys in
    let k = first.0 in
    let l = second.0 in
    is ∙ (λ i. ordering_then (slice_cmp nat_cmp (sym front i) (sym front_too i)) (nat_cmp (sym a i) (sym b i)))
    ∙ sym (padded (take m xs) (take n ys) (38 - m) (38 - n) (omega (arith, a, b, k, l)))

-- what stands first where the rooms don't decide
pub then_level : (r s t : Ordering) → s ≡ Equal → r ≡ t → r ≡ ordering_then s t
then_level r s t level e = e ∙ ap (λ o. ordering_then o t) (sym level)

pub then_less : (s t : Ordering) → s ≡ Less → Less ≡ ordering_then s t
then_less s t e = ap (λ o. ordering_then o t) (sym e)

pub then_greater : (s t : Ordering) → s ≡ Greater → Greater ≡ ordering_then s t
then_greater s t e = ap (λ o. ordering_then o t) (sym e)
