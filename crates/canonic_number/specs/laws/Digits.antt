-- Digits compare as what they are worth.
use Rattle.std.proofs.Common.{◌≡◌, ℕ, ◌+◌, ◌-◌, ◌*◌, ◌^◌, ◌<◌, ◌≤◌, List, [], ◌∷◌, ◌++◌, length, true, refl, ap, sym, ◌∙◌, arith, zero, suc, length-append}
use Rattle.std.proofs.Math.Nat.{mul-le-mul_right, one-le-pow, pow-suc, pow-le-pow_right}
use Rattle.std.proofs.lemmas.Bool.{and_from}
use Rattle.std.proofs.lemmas.List.Folds.{list_all-append}
use Rattle.std.proofs.lemmas.Bool.Decides.{nat_tests}
use Rattle.std.specs.Prelude.{neg_ℤ, pos}
use Rattle.std.specs.List.{list_all}
use Rattle.std.specs.Char.{is_ascii_digit}
use Rattle.std.specs.declared.cmp.Ordering.{Ordering}
use Rattle.std.specs.declared.cmp.Ordering.TheVariants.{Less, Equal, Greater}
use Rattle.std.specs.Ordering.{int_cmp, nat_cmp, ordering_then, MatchOrdering}
use Rattle.std.specs.Cmp.{ranked, nat_cmp_is, first_so, second_so}
use Rattle.std.specs.Cmp.Derive.{then_next}
use Rattle.std.proofs.lemmas.Cmp.{by_ranked}
use Rattle.std.specs.Cmp.Lexicographic.{slice_cmp}
use Rattle.canonic_number.specs.Number.{worth, ends_above_0}
use Rattle.canonic_number.specs.Parts.{AreDigits, is_ended}
use Rattle.canonic_number.specs.Grammar.{IsDigit}

digit_bounds : (d : ℕ) → is_ascii_digit d ≡ true → IsDigit d
digit_bounds d e = record { low = grind (arith, nat_tests); high = grind (arith, nat_tests) }

pub head_digit : (d : ℕ) (ds : List ℕ) → list_all is_ascii_digit (d ∷ ds) ≡ true → IsDigit d
head_digit d ds e = digit_bounds d (first_so _ _ e)

pub tail_digits : (d : ℕ) (ds : List ℕ) → list_all is_ascii_digit (d ∷ ds) ≡ true → list_all is_ascii_digit ds ≡ true
tail_digits d ds e = second_so _ _ e

pub digits-append : (xs ys : List ℕ) → list_all is_ascii_digit xs ≡ true → list_all is_ascii_digit ys ≡ true → list_all is_ascii_digit (xs ++ ys) ≡ true
digits-append xs ys e h = list_all-append is_ascii_digit xs ys ∙ and_from _ _ e h

pub pow_above_0 : (n : ℕ) → 0 < 10 ^ n
pow_above_0 n = let h : 0 < 10 = omega arith in omega (arith, one-le-pow n 10 h)

pow_step : (n : ℕ) → 0 < n → 10 ^ n ≡ 10 ^ (n - 1) * 10
pow_step n h = let e : n ≡ suc (n - 1) = omega arith in ap (λ i. 10 ^ i) e ∙ pow-suc 10 (n - 1)

-- digits are worth less than one in the place before the first
pub worth-lt : (n : ℕ) (ds : List ℕ) → list_all is_ascii_digit ds ≡ true → length ds ≤ n → worth n ds < 10 ^ n
worth-lt n [] e h = pow_above_0 n
worth-lt n (d ∷ ds) e h =
    let is = head_digit d ds e in
    let some : 0 < n = omega arith in
    let step : 10 ^ n ≡ 10 ^ (n - 1) * 10 = pow_step n some in
    let rest : worth (n - 1) ds < 10 ^ (n - 1) = worth-lt (n - 1) ds (tail_digits d ds e) (omega arith) in
    let nine : d - 48 ≤ 9 = omega (arith, is.high) in
    let first : (d - 48) * 10 ^ (n - 1) ≤ 9 * 10 ^ (n - 1) = mul-le-mul_right (10 ^ (n - 1)) nine in
    omega arith

-- a first digit above 0 is worth at least one in its place
pub worth-ge : (n d : ℕ) (ds : List ℕ) → 48 < d → 10 ^ (n - 1) ≤ worth n (d ∷ ds)
worth-ge n d ds h =
    let one : 1 ≤ d - 48 = omega arith in
    let first : 1 * 10 ^ (n - 1) ≤ (d - 48) * 10 ^ (n - 1) = mul-le-mul_right (10 ^ (n - 1)) one in
    omega arith

-- digits whose last is above 0 are worth something
pub worth_above_0 : (n : ℕ) (ds : List ℕ) → list_all is_ascii_digit ds ≡ true → ends_above_0 ds ≡ true → 0 < worth n ds
worth_above_0 n [] e h = cc
worth_above_0 n (d ∷ []) e h =
    let is = head_digit d [] e in
    let above : 48 < d = grind (arith, nat_tests, is.low) in
    omega (arith, worth-ge n d [] above, pow_above_0 (n - 1))
worth_above_0 n (d ∷ c ∷ ds) e h = omega (arith, worth_above_0 (n - 1) (c ∷ ds) (tail_digits d (c ∷ ds) e) h)

-- what decides at two first digits decides at what they are worth
first_decides : (x y p a b : ℕ) (o : Ordering) → IsDigit x → IsDigit y → a < p → b < p → o ≡ nat_cmp a b → ordering_then (nat_cmp x y) o ≡ nat_cmp ((x - 48) * p + a) ((y - 48) * p + b)
first_decides x y p a b o is is' below below' e =
    elim (nat_cmp x y) as (λ r. MatchOrdering r (x < y) (x ≡ y) (y < x) → ordering_then r o ≡ nat_cmp ((x - 48) * p + a) ((y - 48) * p + b)) [
      | Less ↦ λ (h : x < y).
          let more : (x - 48) + 1 ≤ y - 48 = omega (arith, is.low, is'.low) in
          let high : ((x - 48) + 1) * p ≤ (y - 48) * p = mul-le-mul_right p more in
          let less : (x - 48) * p + a < (y - 48) * p + b = omega arith in
          nat_cmp_is _ _ Less less
      | Equal ↦ λ (h : x ≡ y). elim o as (λ r. MatchOrdering r (a < b) (a ≡ b) (b < a) → r ≡ nat_cmp ((x - 48) * p + a) ((y - 48) * p + b)) [
        | Less ↦ λ (k : a < b). let same : (x - 48) * p ≡ (y - 48) * p = ap (λ z. (z - 48) * p) h in
            let less : (x - 48) * p + a < (y - 48) * p + b = omega arith in nat_cmp_is _ _ Less less
        | Equal ↦ λ (k : a ≡ b). let same : (x - 48) * p ≡ (y - 48) * p = ap (λ z. (z - 48) * p) h in
            let less : (x - 48) * p + a ≡ (y - 48) * p + b = omega arith in nat_cmp_is _ _ Equal less
        | Greater ↦ λ (k : b < a). let same : (x - 48) * p ≡ (y - 48) * p = ap (λ z. (z - 48) * p) h in
            let less : (y - 48) * p + b < (x - 48) * p + a = omega arith in nat_cmp_is _ _ Greater less
      ] (ranked a b o e)
      | Greater ↦ λ (h : y < x).
          let more : (y - 48) + 1 ≤ x - 48 = omega (arith, is.low, is'.low) in
          let high : ((y - 48) + 1) * p ≤ (x - 48) * p = mul-le-mul_right p more in
          let less : (y - 48) * p + b < (x - 48) * p + a = omega arith in
          nat_cmp_is _ _ Greater less
    ] (ranked x y _ refl)

tail_ended : (d : ℕ) (ds : List ℕ) → ends_above_0 (d ∷ ds) ≡ true → is_ended ds ≡ true
tail_ended d [] e = refl
tail_ended d (c ∷ ds) e = e

-- fractions compare byte by byte
pub fractions_cmp : (n : ℕ) (xs ys : List ℕ) → list_all is_ascii_digit xs ≡ true → list_all is_ascii_digit ys ≡ true → is_ended xs ≡ true → is_ended ys ≡ true → length xs ≤ n → length ys ≤ n → slice_cmp nat_cmp xs ys ≡ nat_cmp (worth n xs) (worth n ys)
fractions_cmp n [] [] d d' e e' h h' = refl
fractions_cmp n [] (y ∷ ys) d d' e e' h h' = nat_cmp_is _ _ Less (worth_above_0 n (y ∷ ys) d' e')
fractions_cmp n (x ∷ xs) [] d d' e e' h h' = nat_cmp_is _ _ Greater (worth_above_0 n (x ∷ xs) d e)
fractions_cmp n (x ∷ xs) (y ∷ ys) d d' e e' h h' =
    let rest = fractions_cmp (n - 1) xs ys (tail_digits x xs d) (tail_digits y ys d') (tail_ended x xs e) (tail_ended y ys e') (omega arith) (omega arith) in
    first_decides x y (10 ^ (n - 1)) _ _ _ (head_digit x xs d) (head_digit y ys d')
    (worth-lt (n - 1) xs (tail_digits x xs d) (omega arith)) (worth-lt (n - 1) ys (tail_digits y ys d') (omega arith)) rest

-- whole parts of one length compare byte by byte, and then the fractions do
pub wholes_cmp : (n : ℕ) (ws vs f g : List ℕ) → length ws ≡ length vs → list_all is_ascii_digit ws ≡ true → list_all is_ascii_digit vs ≡ true → list_all is_ascii_digit f ≡ true → list_all is_ascii_digit g ≡ true → is_ended f ≡ true → is_ended g ≡ true → length ws + length f ≤ n → length vs + length g ≤ n →
    ordering_then (slice_cmp nat_cmp ws vs) (slice_cmp nat_cmp f g) ≡ nat_cmp (worth n (ws ++ f)) (worth n (vs ++ g))
wholes_cmp n [] [] f g e d d' df dg ef eg h h' = fractions_cmp n f g df dg ef eg (omega arith) (omega arith)
wholes_cmp n [] (v ∷ vs) f g e d d' df dg ef eg h h' = absurd (omega arith)
wholes_cmp n (w ∷ ws) [] f g e d d' df dg ef eg h h' = absurd (omega arith)
wholes_cmp n (w ∷ ws) (v ∷ vs) f g e d d' df dg ef eg h h' =
    let rest = wholes_cmp (n - 1) ws vs f g (omega arith) (tail_digits w ws d) (tail_digits v vs d') df dg ef eg (omega arith) (omega arith) in
    sym (then_next (nat_cmp w v) (slice_cmp nat_cmp ws vs) (slice_cmp nat_cmp f g) refl refl) ∙ first_decides w v (10 ^ (n - 1)) _ _ _ (head_digit w ws d) (head_digit v vs d')
    (worth-lt (n - 1) (ws ++ f) (digits-append ws f (tail_digits w ws d) df) (omega (arith, length-append ws f)))
    (worth-lt (n - 1) (vs ++ g) (digits-append vs g (tail_digits v vs d') dg) (omega (arith, length-append vs g))) rest

-- a longer whole part is worth more
longer : (k : ℕ) (w f v g : List ℕ) → AreDigits w f → AreDigits v g → length f ≤ k → length g ≤ k → length w < length v → worth (length w + k) (w ++ f) < worth (length v + k) (v ++ g)
longer k w f [] g a b h h' l = absurd (omega arith)
longer k w f (d ∷ v) g a b h h' l =
    let is = head_digit d v b.whole_digits in
    let above : 48 < d = grind (arith, nat_tests, is.low, b.begins) in
    let low : worth (length w + k) (w ++ f) < 10 ^ (length w + k) = worth-lt _ _ (digits-append w f a.whole_digits a.fraction_digits) (omega (arith, length-append w f)) in
    let ten : 0 < 10 = omega arith in
    let up : 10 ^ (length w + k) ≤ 10 ^ (length (d ∷ v) + k - 1) = pow-le-pow_right ten (omega arith) in
    omega (arith, worth-ge (length (d ∷ v) + k) d (v ++ g) above)

-- magnitudes compare by the lengths of the whole parts, then by the whole parts, then by the fractions
pub magnitudes_cmp : (k : ℕ) (w f v g : List ℕ) → AreDigits w f → AreDigits v g → length f ≤ k → length g ≤ k →
    ordering_then (nat_cmp (length w) (length v)) (ordering_then (slice_cmp nat_cmp w v) (slice_cmp nat_cmp f g)) ≡ nat_cmp (worth (length w + k) (w ++ f)) (worth (length v + k) (v ++ g))
magnitudes_cmp k w f v g a b h h' =
    let rest : Ordering = ordering_then (slice_cmp nat_cmp w v) (slice_cmp nat_cmp f g) in
    by_ranked _ _ _ (nat_cmp (length w) (length v)) (ranked (length w) (length v) _ refl)
    (λ r l. ap (λ o. ordering_then o rest) r ∙ nat_cmp_is _ _ Less (longer k w f v g a b h h' l))
    (λ r l. ap (λ o. ordering_then o rest) r ∙ wholes_cmp (length w + k) w v f g l a.whole_digits b.whole_digits a.fraction_digits b.fraction_digits a.ends b.ends (omega arith) (omega arith)
    ∙ ap (λ n. nat_cmp (worth (length w + k) (w ++ f)) (worth (n + k) (v ++ g))) l)
    (λ r l. ap (λ o. ordering_then o rest) r ∙ nat_cmp_is _ _ Greater (longer k v g w f b a h' h l))

-- some digits in their shortest form are worth something
pub unsigned_above_0 : (k : ℕ) (w f : List ℕ) → AreDigits w f → 0 < length w + length f → 0 < worth (length w + k) (w ++ f)
unsigned_above_0 k [] [] a h = absurd (omega arith)
unsigned_above_0 k [] (d ∷ ds) a h = worth_above_0 _ (d ∷ ds) a.fraction_digits a.ends
unsigned_above_0 k (d ∷ ds) f a h =
    let is = head_digit d ds a.whole_digits in
    let above : 48 < d = grind (arith, nat_tests, is.low, a.begins) in
    omega (arith, worth-ge (length (d ∷ ds) + k) d (ds ++ f) above, pow_above_0 (length (d ∷ ds) + k - 1))

pub below_positive : (a b : ℕ) → 0 < a → Less ≡ int_cmp (neg_ℤ (pos a)) (pos b)
below_positive zero b h = absurd (omega arith)
below_positive (suc a) b h = refl

pub above_negative : (a b : ℕ) → 0 < b → Greater ≡ int_cmp (pos a) (neg_ℤ (pos b))
above_negative a zero h = absurd (omega arith)
above_negative a (suc b) h = refl
