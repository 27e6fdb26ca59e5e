-- The test of a canonic text agrees with the grammar; the parts of a text that was put together.
use Rattle.std.proofs.Common.{◌≡◌, ℕ, ◌+◌, ◌<◌, ◌≤◌, Bool, List, [], ◌∷◌, ◌++◌, length, not, true, false, refl, ap, sym, subst, ◌∙◌, arith, suc, take, drop, append-nil, length-append, ◌↔◌}
use Rattle.std.proofs.Math.Seq.{take-append_seam}
use Rattle.std.proofs.lemmas.Bool.{and_from, or_right, not_from_false, eqb-true, lt-ltb, le-ltb}
use Rattle.std.proofs.lemmas.Bool.Decides.{nat_tests}
use Rattle.std.specs.Prelude.{◌||◌, ◌==◌, cond, is_some, nat_lt}
use Rattle.std.specs.List.{list_all, position, position_or_len}
use Rattle.std.specs.Char.{is_ascii_digit}
use Rattle.std.specs.Cmp.{first_so, second_so}
use Rattle.canonic_number.specs.Number.{ends_above_0, is_zero, is_canonic, is_magnitude, magnitude, is_negative, whole_part, fraction_part, is_point, is_whole, is_fraction}
use Rattle.canonic_number.specs.Grammar.{IsDigit, IsDigitAbove0, IsDigits, nothing, digit, IsWholePart, whole, IsFraction, last, digit_before, IsMagnitude, only_whole, only_fraction, whole_and_fraction, IsCanonic, zero_text, above_zero, below_zero}
use Rattle.canonic_number.specs.Parts.{is_ended}
use Rattle.canonic_number.specs.Place.{with_point, signed}
use Rattle.canonic_number.specs.laws.Digits.{head_digit, tail_digits}
use Rattle.canonic_number.specs.laws.Canonic.{HasParts, has_parts, ended, split, is_zero_text, with_point-some}

-- digits, then a point and a fraction where there is one: its parts are these
pub record IsSplit (m w f : List ℕ) : Type 0 where
  pub whole : whole_part m ≡ w
  pub fraction : fraction_part m ≡ f
  pub point : is_some (position is_point m) ≡ not (length f == 0)

no_point : (d : ℕ) → IsDigit d → is_point d ≡ false
no_point d is = grind (arith, nat_tests, is.low)

first_point : (w f : List ℕ) → list_all is_ascii_digit w ≡ true → position_or_len is_point (w ++ with_point f) ≡ length w
first_point [] [] e = refl
first_point [] (d ∷ f) e = refl
first_point (d ∷ w) f e = rw (no_point d (head_digit d w e)) (omega (arith, first_point w f (tail_digits d w e)))

drop_past : (w f : List ℕ) → drop (length w + 1) (w ++ with_point f) ≡ f
drop_past [] [] = refl
drop_past [] (d ∷ f) = refl
drop_past (x ∷ w) f =
    let more : length (x ∷ w) + 1 ≡ suc (length w + 1) = omega arith in
    ap (λ n. drop n ((x ∷ w) ++ with_point f)) more ∙ drop_past w f

point_of : (w f : List ℕ) → list_all is_ascii_digit w ≡ true → is_some (position is_point (w ++ with_point f)) ≡ not (length f == 0)
point_of w [] e =
    let past : nat_lt (position_or_len is_point (w ++ [])) (length (w ++ [])) ≡ false = le-ltb _ _ (omega (arith, first_point w [] e, ap length (append-nil w))) in
    rw past refl
point_of w (d ∷ f) e =
    let here : nat_lt (position_or_len is_point (w ++ 46 ∷ d ∷ f)) (length (w ++ 46 ∷ d ∷ f)) ≡ true = lt-ltb _ _ (omega (arith, first_point w (d ∷ f) e, length-append w (46 ∷ d ∷ f))) in
    let some : (length (d ∷ f) == 0) ≡ false = grind (arith, nat_tests) in
    rw (here, some) refl

pub split_written : (w f : List ℕ) → list_all is_ascii_digit w ≡ true → IsSplit (w ++ with_point f) w f
split_written w f e = record {
  whole = ap (λ n. take n (w ++ with_point f)) (first_point w f e) ∙ take-append_seam w (with_point f);
  fraction = ap (λ n. drop (n + 1) (w ++ with_point f)) (first_point w f e) ∙ drop_past w f;
  point = point_of w f e;
}

-- a text without a sign
pub record IsUnsigned (m : List ℕ) : Type 0 where
  pub negative : is_negative m ≡ false
  pub magnitude : magnitude m ≡ m

pub unsigned_byte : (b : ℕ) (bs : List ℕ) → 46 ≤ b → IsUnsigned (b ∷ bs)
unsigned_byte b bs h =
    let no : (b == 45) ≡ false = grind (arith, nat_tests) in
    record { negative = no; magnitude = rw no refl }

pub unsigned_written : (w f : List ℕ) → list_all is_ascii_digit w ≡ true → IsUnsigned (w ++ with_point f)
unsigned_written [] [] e = record { negative = refl; magnitude = refl }
unsigned_written [] (d ∷ f) e = unsigned_byte 46 (d ∷ f) (omega arith)
unsigned_written (d ∷ w) f e = let is = head_digit d w e in unsigned_byte d (w ++ with_point f) (omega (arith, is.low))

-- and with one
pub record IsSigned (negative : Bool) (m : List ℕ) : Type 0 where
  pub sign : is_negative (signed negative m) ≡ negative
  pub magnitude : magnitude (signed negative m) ≡ m

pub signed_text : (negative : Bool) (m : List ℕ) → IsUnsigned m → IsSigned negative m
signed_text true m is = record { sign = refl; magnitude = refl }
signed_text false m is = record { sign = is.negative; magnitude = is.magnitude }

-- the tests, where a text is spelled by the grammar
digit_test : (d : ℕ) → IsDigit d → is_ascii_digit d ≡ true
digit_test d is = grind (arith, nat_tests, is.low, is.high)

pub digits_test : {ds : List ℕ} → IsDigits ds → list_all is_ascii_digit ds ≡ true
digits_test nothing = refl
digits_test (digit {d} {ds} is rest) = and_from (is_ascii_digit d) (list_all is_ascii_digit ds) (digit_test d is) (digits_test rest)

any_digit : (d : ℕ) → IsDigitAbove0 d → IsDigit d
any_digit d is = record { low = omega (arith, is.low); high = is.high }

whole_test : {w : List ℕ} → IsWholePart w → is_whole w ≡ true
whole_test (whole {d} {ds} is rest) =
    let no : (d == 48) ≡ false = grind (arith, nat_tests, is.low) in
    and_from (list_all is_ascii_digit (d ∷ ds)) (not (d == 48)) (digits_test (digit (any_digit d is) rest)) (not_from_false (d == 48) no)

whole_some : {w : List ℕ} → IsWholePart w → 0 < length w
whole_some (whole {d} {ds} is rest) = omega arith

ends-more : (d : ℕ) (ds : List ℕ) → ends_above_0 ds ≡ true → ends_above_0 (d ∷ ds) ≡ true
ends-more d [] e = cc
ends-more d (x ∷ xs) e = e

fraction_digits : {f : List ℕ} → IsFraction f → list_all is_ascii_digit f ≡ true
fraction_digits (last {d} is) = digits_test (digit (any_digit d is) nothing)
fraction_digits (digit_before {d} {ds} is rest) = and_from (is_ascii_digit d) (list_all is_ascii_digit ds) (digit_test d is) (fraction_digits rest)

fraction_ends : {f : List ℕ} → IsFraction f → ends_above_0 f ≡ true
fraction_ends (last {d} is) = let no : (d == 48) ≡ false = grind (arith, nat_tests, is.low) in not_from_false (d == 48) no
fraction_ends (digit_before {d} {ds} is rest) = ends-more d ds (fraction_ends rest)

fraction_some : {f : List ℕ} → IsFraction f → 0 < length f
fraction_some (last {d} is) = omega arith
fraction_some (digit_before {d} {ds} is rest) = omega arith

pub is_magnitude-written : (w f : List ℕ) → is_whole w ≡ true → list_all is_ascii_digit f ≡ true → is_ended f ≡ true → 0 < length w + length f → is_magnitude (w ++ with_point f) ≡ true
is_magnitude-written w f e digits ends some =
    let is = split_written w f (first_so _ _ e) in
    and_from (not (length (w ++ with_point f) == 0)) _ (full w f some)
    (and_from (is_whole (whole_part (w ++ with_point f))) _ (ap is_whole is.whole ∙ e)
    (ap (λ t. cond t (is_fraction (fraction_part (w ++ with_point f))) true) is.point ∙ ap (λ g. cond (not (length f == 0)) (is_fraction g) true) is.fraction ∙ fraction f digits ends))
  where
    full : (w f : List ℕ) → 0 < length w + length f → not (length (w ++ with_point f) == 0) ≡ true
    full [] [] h = absurd (omega arith)
    full [] (d ∷ f) h = grind (arith, nat_tests)
    full (d ∷ w) f h = grind (arith, nat_tests)

    fraction : (f : List ℕ) → list_all is_ascii_digit f ≡ true → is_ended f ≡ true → cond (not (length f == 0)) (is_fraction f) true ≡ true
    fraction [] d h = refl
    fraction (x ∷ f) d h = let some : (length (x ∷ f) == 0) ≡ false = grind (arith, nat_tests) in rw some (and_from (list_all is_ascii_digit (x ∷ f)) (ends_above_0 (x ∷ f)) d h)

magnitude_test : {m : List ℕ} → IsMagnitude m → is_magnitude m ≡ true
magnitude_test (only_whole {w} a) = ap is_magnitude (sym (append-nil w)) ∙ is_magnitude-written w [] (whole_test a) refl refl (omega (arith, whole_some a))
magnitude_test (only_fraction {f} b) =
    ap is_magnitude (sym (with_point-some f (fraction_some b))) ∙ is_magnitude-written [] f refl (fraction_digits b) (ended f (fraction_ends b)) (omega (arith, fraction_some b))
magnitude_test (whole_and_fraction {w} {f} a b) =
    ap (λ t. is_magnitude (w ++ t)) (sym (with_point-some f (fraction_some b))) ∙ is_magnitude-written w f (whole_test a) (fraction_digits b) (ended f (fraction_ends b)) (omega (arith, fraction_some b))

unsigned_magnitude : {m : List ℕ} → IsMagnitude m → IsUnsigned m
unsigned_magnitude (only_whole {w} a) = subst IsUnsigned (append-nil w) (unsigned_written w [] (first_so _ _ (whole_test a)))
unsigned_magnitude (only_fraction {f} b) = unsigned_byte 46 f (omega arith)
unsigned_magnitude (whole_and_fraction {w} {f} a b) = subst (λ t. IsUnsigned (w ++ t)) (with_point-some f (fraction_some b)) (unsigned_written w f (first_so _ _ (whole_test a)))

canonic_test : {s : List ℕ} → IsCanonic s → is_canonic s ≡ true
canonic_test zero_text = refl
canonic_test (above_zero {m} a) = let plain = unsigned_magnitude a in or_right (is_zero m) (is_magnitude (magnitude m)) (ap is_magnitude plain.magnitude ∙ magnitude_test a)
canonic_test (below_zero {m} a) = or_right (is_zero (45 ∷ m)) (is_magnitude m) (magnitude_test a)

-- the spelling, where the test says so
pub digits_spelled : (ds : List ℕ) → list_all is_ascii_digit ds ≡ true → IsDigits ds
digits_spelled [] e = nothing
digits_spelled (d ∷ ds) e = digit (head_digit d ds e) (digits_spelled ds (tail_digits d ds e))

above_0 : (d : ℕ) → IsDigit d → not (d == 48) ≡ true → IsDigitAbove0 d
above_0 d is e = record { low = grind (arith, nat_tests, is.low); high = is.high }

whole_spelled : (d : ℕ) (ds : List ℕ) → is_whole (d ∷ ds) ≡ true → IsWholePart (d ∷ ds)
whole_spelled d ds e =
    let all : list_all is_ascii_digit (d ∷ ds) ≡ true = first_so _ _ e in
    whole (above_0 d (head_digit d ds all) (second_so (list_all is_ascii_digit (d ∷ ds)) _ e)) (digits_spelled ds (tail_digits d ds all))

fraction_spelled : (f : List ℕ) → list_all is_ascii_digit f ≡ true → ends_above_0 f ≡ true → IsFraction f
fraction_spelled [] e h = cc
fraction_spelled (d ∷ []) e h = last (above_0 d (head_digit d [] e) h)
fraction_spelled (d ∷ c ∷ ds) e h = digit_before (head_digit d (c ∷ ds) e) (fraction_spelled (c ∷ ds) (tail_digits d (c ∷ ds) e) h)

spelled_by : (w f : List ℕ) → is_whole w ≡ true → list_all is_ascii_digit f ≡ true → is_ended f ≡ true → 0 < length w + length f → IsMagnitude (w ++ with_point f)
spelled_by [] [] a d h some = absurd (omega arith)
spelled_by [] (x ∷ f) a d h some = only_fraction (fraction_spelled (x ∷ f) d h)
spelled_by (y ∷ w) [] a d h some = subst IsMagnitude (sym (append-nil (y ∷ w))) (only_whole (whole_spelled y w a))
spelled_by (y ∷ w) (x ∷ f) a d h some = whole_and_fraction (whole_spelled y w a) (fraction_spelled (x ∷ f) d h)

magnitude_spelled : (m : List ℕ) → is_magnitude m ≡ true → IsMagnitude m
magnitude_spelled m e =
    let parts : HasParts m = has_parts m e in
    subst IsMagnitude (sym (split m e)) (spelled_by (whole_part m) (fraction_part m) (first_so _ _ (second_so (not (length m == 0)) _ e)) parts.digits.fraction_digits parts.digits.ends parts.some)

with_sign : (s : List ℕ) → IsMagnitude (magnitude s) → IsCanonic s
with_sign [] a = above_zero a
with_sign (b ∷ bs) a =
    elim (b == 45) as (λ t. (b == 45) ≡ t → IsMagnitude (cond t bs (b ∷ bs)) → IsCanonic (b ∷ bs)) [
      | true ↦ λ e m. subst (λ c. IsCanonic (c ∷ bs)) (sym (eqb-true b 45 e)) (below_zero m)
      | false ↦ λ _ m. above_zero m
    ] refl a

canonic_spelled : (s : List ℕ) → is_canonic s ≡ true → IsCanonic s
canonic_spelled s e =
    elim (is_zero s) as (λ t. is_zero s ≡ t → (t || is_magnitude (magnitude s)) ≡ true → IsCanonic s) [
      | true ↦ λ z _. subst IsCanonic (sym (is_zero_text s z)) zero_text
      | false ↦ λ _ m. with_sign s (magnitude_spelled (magnitude s) m)
    ] refl e

-- a text passes the test exactly where the grammar spells it
pub canonic_is_spelled : (s : List ℕ) → (is_canonic s ≡ true) ↔ IsCanonic s
canonic_is_spelled s = (canonic_spelled s, λ is. canonic_test is)
