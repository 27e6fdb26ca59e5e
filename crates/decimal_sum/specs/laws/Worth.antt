-- What digits are worth: with zeros at either end, without them, and as the decimal digits of a whole number.
use Rattle.std.proofs.Common.{◌≡◌, ℕ, ◌+◌, ◌-◌, ◌*◌, ◌^◌, ◌<◌, List, [], ◌∷◌, ◌++◌, length, map, replicate, true, false, refl, ap, ◌∙◌, arith, zero, suc}
use Rattle.std.proofs.Math.Nat.{pow-suc}
use Rattle.std.proofs.lemmas.Bool.{and_from}
use Rattle.std.proofs.lemmas.Bool.Decides.{nat_tests}
use Rattle.std.proofs.lemmas.Int.Digits.{number_digits_of, all_below_base_digits_of}
use Rattle.std.specs.List.{list_all}
use Rattle.std.specs.Char.{is_ascii_digit}
use Rattle.std.specs.Int.Digits.{digits_of, number_from_digits_after, AllBelowBase}
use Rattle.canonic_number.specs.Number.{worth, begins_with_0}
use Rattle.canonic_number.specs.Place.{after_zeros, before_zeros}
use Rattle.canonic_number.specs.laws.Place.{at_zero, worth-before_zeros}
use Rattle.decimal_sum.specs.Sums.{digits}

-- zeros in front of digits
pub worth_zeros_front : (n m : ℕ) (xs : List ℕ) → worth (n + m) (replicate m 48 ++ xs) ≡ worth n xs
worth_zeros_front n zero xs = let same : n + 0 ≡ n = omega arith in ap (λ i. worth i xs) same
worth_zeros_front n (suc m) xs =
    let less : n + suc m - 1 ≡ n + m = omega arith in
    let none : (48 - 48) * 10 ^ (n + suc m - 1) ≡ 0 = omega arith in
    omega (arith, none, ap (λ i. worth i (replicate m 48 ++ xs)) less, worth_zeros_front n m xs)

worth_zeros : (n m : ℕ) → worth n (replicate m 48) ≡ 0
worth_zeros n zero = refl
worth_zeros n (suc m) =
    let none : (48 - 48) * 10 ^ (n - 1) ≡ 0 = omega arith in
    omega (arith, none, worth_zeros (n - 1) m)

-- and at their end
pub worth_zeros_back : (n m : ℕ) (xs : List ℕ) → worth n (xs ++ replicate m 48) ≡ worth n xs
worth_zeros_back n m [] = worth_zeros n m
worth_zeros_back n m (x ∷ xs) = ap (λ v. (x - 48) * 10 ^ (n - 1) + v) (worth_zeros_back (n - 1) m xs)

pub zeros_are_digits : (m : ℕ) → list_all is_ascii_digit (replicate m 48) ≡ true
zeros_are_digits zero = refl
zeros_are_digits (suc m) = zeros_are_digits m

-- without the zeros in front, and at the end
pub worth_after_zeros : (k : ℕ) (w f : List ℕ) → worth (length (after_zeros w) + k) (after_zeros w ++ f) ≡ worth (length w + k) (w ++ f)
worth_after_zeros k [] f = refl
worth_after_zeros k (d ∷ w) f =
    at_zero d
    (λ t h. let none : (d - 48) * 10 ^ (length (d ∷ w) + k - 1) ≡ 0 = ap (λ z. (z - 48) * 10 ^ (length (d ∷ w) + k - 1)) h ∙ omega arith in
    let less : length (d ∷ w) + k - 1 ≡ length w + k = omega arith in
    let all : worth (length (after_zeros w) + k) (after_zeros w ++ f) ≡ worth (length (d ∷ w) + k) (d ∷ w ++ f) = omega (arith, none, worth_after_zeros k w f, ap (λ i. worth i (w ++ f)) less) in
    rw t all)
    (λ t. rw t refl)

pub worth_before_zeros : (n : ℕ) (w f : List ℕ) → worth n (w ++ before_zeros f) ≡ worth n (w ++ f)
worth_before_zeros n [] f = worth-before_zeros n f
worth_before_zeros n (d ∷ w) f = ap (λ v. (d - 48) * 10 ^ (n - 1) + v) (worth_before_zeros (n - 1) w f)

pub after_zeros-begins : (ds : List ℕ) → begins_with_0 (after_zeros ds) ≡ false
after_zeros-begins [] = refl
after_zeros-begins (d ∷ ds) = at_zero d (λ t _. rw t (after_zeros-begins ds)) (λ t. rw (t, t) refl)

-- the decimal digits of a whole number
a_digit : (d : ℕ) → d < 10 → is_ascii_digit (48 + d) ≡ true
a_digit d h = grind (arith, nat_tests)

all_digits : (ds : List ℕ) → AllBelowBase 10 ds → list_all is_ascii_digit (map (λ d. 48 + d) ds) ≡ true
all_digits [] is = refl
all_digits (d ∷ ds) is = and_from (is_ascii_digit (48 + d)) _ (a_digit d is.0) (all_digits ds is.1)

pub digits_are_digits : (n : ℕ) → list_all is_ascii_digit (digits n) ≡ true
digits_are_digits n = all_digits (digits_of 10 n) (all_below_base_digits_of 10 n (omega arith))

worth_from : (a : ℕ) (ds : List ℕ) → number_from_digits_after 10 a ds ≡ a * 10 ^ length ds + worth (length (map (λ d. 48 + d) ds)) (map (λ d. 48 + d) ds)
worth_from a [] = omega arith
worth_from a (d ∷ ds) =
    let step : 10 ^ length (d ∷ ds) ≡ 10 ^ length ds * 10 = ap (λ i. 10 ^ i) (omega arith) ∙ pow-suc 10 (length ds) in
    let place : length (map (λ d. 48 + d) (d ∷ ds)) - 1 ≡ length (map (λ d. 48 + d) ds) = omega arith in
    let same : length (map (λ d. 48 + d) ds) ≡ length ds = mapped ds in
    let value : 48 + d - 48 ≡ d = omega arith in
    let first : (48 + d - 48) * 10 ^ (length (map (λ d. 48 + d) (d ∷ ds)) - 1) ≡ d * 10 ^ length ds = ap (λ v. v * 10 ^ (length (map (λ d. 48 + d) (d ∷ ds)) - 1)) value ∙ ap (λ i. d * 10 ^ i) (place ∙ same) in
    let rest : worth (length (map (λ d. 48 + d) (d ∷ ds)) - 1) (map (λ d. 48 + d) ds) ≡ worth (length (map (λ d. 48 + d) ds)) (map (λ d. 48 + d) ds) = ap (λ i. worth i (map (λ d. 48 + d) ds)) place in
    worth_from (a * 10 + d) ds ∙ join a d (10 ^ length ds) (10 ^ length (d ∷ ds)) _ _ _ step first rest
  where
    join : (a d p q v r u : ℕ) → q ≡ p * 10 → v ≡ d * p → u ≡ r → (a * 10 + d) * p + r ≡ a * q + (v + u)
    join a d p q v r u step first rest = rw (step, first, rest) (omega arith)

    mapped : (ds : List ℕ) → length (map (λ d. 48 + d) ds) ≡ length ds
    mapped [] = refl
    mapped (d ∷ ds) = ap suc (mapped ds)

pub worth_digits : (n : ℕ) → worth (length (digits n)) (digits n) ≡ n
worth_digits n =
    let from : number_from_digits_after 10 0 (digits_of 10 n) ≡ n = number_digits_of 10 n (omega arith) in
    omega (arith, worth_from 0 (digits_of 10 n), from)
