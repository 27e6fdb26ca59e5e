-- The timeout behind the first colon, and how large the number of nine digits is.
use Rattle.std.proofs.Common.{◌≡◌, ℕ, zero, suc, ◌<◌, ◌≤◌, true, eqb, List, [], ◌∷◌, ◌+◌, ◌-◌, ◌*◌, length, take, drop, get_or, refl, sym, ap, ◌∙◌, subst, arith}
use Rattle.std.proofs.lemmas.List.{take_rest}
use Rattle.std.proofs.lemmas.Bool.{false_from_ne_true}
use Rattle.std.specs.Prelude.{Some, None}
use Rattle.std.specs.Option.{option_or}
use Rattle.bstr.specs.Find.{IsFirstByte, is_byte}
use Rattle.job_scripts.specs.Timeouts.{millis_in, timeout_in}

at_colon : (xs : List ℕ) (n : ℕ) → n < length xs → ((k : ℕ) → 0 ≤ k → k < n → eqb (get_or xs k 0) 58 ≡ true → ⊥) → eqb (get_or xs n 0) 58 ≡ true → timeout_in xs ≡ option_or (millis_in (drop (suc n) xs)) (timeout_in (drop (suc n) xs))
at_colon [] n lt before at = absurd (omega arith)
at_colon (b ∷ bs) zero lt before at = rw at refl
at_colon (b ∷ bs) (suc n) lt before at =
    rw (false_from_ne_true _ (before 0 (omega arith) (omega arith))) (at_colon bs n (omega arith) (λ k low high. before (suc k) (omega arith) (omega arith)) at)

plus_one : (n : ℕ) → suc n ≡ n + 1
plus_one n = omega arith

-- what follows the first colon
pub behind_the_first : (xs : List ℕ) (n : ℕ) → IsFirstByte (is_byte 58) xs (Some n)
    → timeout_in xs ≡ option_or (millis_in (take (length xs - (n + 1)) (drop (n + 1) xs))) (timeout_in (take (length xs - (n + 1)) (drop (n + 1) xs)))
behind_the_first xs n h =
    at_colon xs n h.0.high (λ k low high p. h.0.before k low high p) h.1
    ∙ ap (λ (r : List ℕ). option_or (millis_in r) (timeout_in r)) (ap (λ k. drop k xs) (plus_one n) ∙ sym (take_rest xs (n + 1)))

nowhere : (xs : List ℕ) → ((k : ℕ) → 0 ≤ k → k < length xs → eqb (get_or xs k 0) 58 ≡ true → ⊥) → timeout_in xs ≡ None
nowhere [] h = refl
nowhere (b ∷ bs) h = rw (false_from_ne_true _ (h 0 (omega arith) (omega arith))) (nowhere bs (λ k low high. h (suc k) (omega arith) (omega arith)))

-- no colon
pub without_one : (xs : List ℕ) → IsFirstByte (is_byte 58) xs None → timeout_in xs ≡ None
without_one xs h = nowhere xs h

-- the largest that so many bytes can make
abbrev pub most : ℕ → ℕ
most zero = 0
most (suc k) = most k * 10 + 255

no_more : (k : ℕ) → k ≡ zero + k
no_more k = omega arith

with_one : (j k : ℕ) → suc (j + k) ≡ suc j + k
with_one j k = omega arith

most_grows : (j k : ℕ) → most k ≤ most (j + k)
most_grows zero k = subst (λ (m : ℕ). most k ≤ most m) (no_more k) (omega arith)
most_grows (suc j) k =
    subst (λ (m : ℕ). most k ≤ most m) (with_one j k) (let more : most k ≤ most (j + k) = most_grows j k in omega (arith, more))

back_again : (k n : ℕ) → k ≤ n → (n - k) + k ≡ n
back_again k n le = omega (arith, le)

most_up_to : (k n : ℕ) → k ≤ n → most k ≤ most n
most_up_to k n le = subst (λ (m : ℕ). most k ≤ most m) (back_again k n le) (most_grows (n - k) k)

-- before the ninth digit
pub before_the_ninth : (n i len : ℕ) → n ≤ most i → i < len → len ≤ 9 → n ≤ 28333333305
before_the_ninth n i len small lt few = let at : most i ≤ 28333333305 = most_up_to i 9 (omega (arith, lt, few)) in omega (arith, small, at)

-- behind the last digit
pub all_of_them : (n i : ℕ) → n ≤ most i → i ≤ 9 → n ≤ 28333333305
all_of_them n i small few = let at : most i ≤ 28333333305 = most_up_to i 9 few in omega (arith, small, at)

-- with a digit more
pub one_more : (n v i : ℕ) → n ≤ most i → v ≤ 255 → n * 10 + v ≤ most (i + 1)
one_more n v i small byte = subst (λ (k : ℕ). n * 10 + v ≤ most k) (plus_one i) (omega (arith, small, byte))
