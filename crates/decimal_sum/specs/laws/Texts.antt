-- The canonic text of digits, by its value, and that there is one.
use Rattle.std.proofs.Common.{◌≡◌, ℕ, ◌+◌, ◌-◌, ◌*◌, ◌^◌, ◌<◌, ◌≤◌, Bool, List, [], ◌∷◌, ◌++◌, length, not, cond, replicate, take, drop, true, false, refl, ap, sym, ◌∙◌, arith, length-take, length-drop, length-append}
use Rattle.std.proofs.lemmas.Bool.{and_from}
use Rattle.std.proofs.lemmas.Bool.Decides.{nat_tests}
use Rattle.std.proofs.lemmas.List.{take-append-drop, length-replicate}
use Rattle.std.proofs.lemmas.List.Folds.{list_all-append}
use Rattle.std.specs.Prelude.{◌&&◌, ◌==◌, ℤ, pos, negsuc, nat_abs}
use Rattle.std.specs.List.{list_all}
use Rattle.std.specs.Char.{is_ascii_digit}
use Rattle.std.specs.Cmp.{first_so, second_so}
use Rattle.canonic_number.specs.Number.{is_negative, magnitude, magnitude_at, whole_part, fraction_part, is_canonic, value_at, worth}
use Rattle.canonic_number.specs.Place.{after_zeros, before_zeros, with_point, signed}
use Rattle.canonic_number.specs.Literal.{is_numeric, is_unsigned_literal, some_digits, shortest, canonic_of}
use Rattle.canonic_number.specs.laws.Digits.{digits-append}
use Rattle.canonic_number.specs.laws.Place.{after_zeros-digits, length-before_zeros}
use Rattle.canonic_number.specs.laws.Grammar.{IsSplit, split_written, unsigned_written, IsSigned, signed_text}
use Rattle.canonic_number.specs.laws.Literal.{answers_are_canonic, answers_keep_the_value}
use Rattle.canonic_number.specs.laws.Classes.{equal_values}
use Rattle.decimal_sum.specs.Front.{with_sign}
use Rattle.decimal_sum.specs.Sums.{IsTextOf, parted, digits, is_below_0, text_at}
use Rattle.decimal_sum.specs.laws.Worth.{worth_zeros_front, zeros_are_digits, digits_are_digits, worth_digits}

some_of : (ds : List ℕ) → 0 < length ds → list_all is_ascii_digit ds ≡ true → some_digits ds ≡ true
some_of ds h e = let some : not (length ds == 0) ≡ true = grind (arith, nat_tests) in and_from (not (length ds == 0)) _ some e

-- the literal with a 0 in front of the digits
record IsPlain (n : Bool) (w f s : List ℕ) : Type 0 where
  negative : is_negative s ≡ n
  whole : whole_part (magnitude s) ≡ 48 ∷ w
  fraction : fraction_part (magnitude s) ≡ f
  numeric : is_numeric s ≡ true

plain : (n : Bool) (w f : List ℕ) → list_all is_ascii_digit w ≡ true → list_all is_ascii_digit f ≡ true → IsPlain n w f (signed n ((48 ∷ w) ++ with_point f))
plain n w f e h =
    let all : list_all is_ascii_digit (48 ∷ w) ≡ true = e in
    let is : IsSigned n ((48 ∷ w) ++ with_point f) = signed_text n ((48 ∷ w) ++ with_point f) (unsigned_written (48 ∷ w) f all) in
    let of : IsSplit ((48 ∷ w) ++ with_point f) (48 ∷ w) f = split_written (48 ∷ w) f all in
    record {
      negative = is.sign;
      whole = ap whole_part is.magnitude ∙ of.whole;
      fraction = ap fraction_part is.magnitude ∙ of.fraction;
      numeric = ap is_unsigned_literal is.magnitude
          ∙ ap (λ t. cond t (list_all is_ascii_digit (whole_part ((48 ∷ w) ++ with_point f)) && some_digits (fraction_part ((48 ∷ w) ++ with_point f))) (some_digits (whole_part ((48 ∷ w) ++ with_point f)))) of.point
          ∙ ap (λ x. cond (not (length f == 0)) (list_all is_ascii_digit x && some_digits (fraction_part ((48 ∷ w) ++ with_point f))) (some_digits x)) of.whole
          ∙ ap (λ x. cond (not (length f == 0)) (list_all is_ascii_digit (48 ∷ w) && some_digits x) (some_digits (48 ∷ w))) of.fraction ∙ at w f all h;
    }
  where
    at : (w f : List ℕ) → list_all is_ascii_digit (48 ∷ w) ≡ true → list_all is_ascii_digit f ≡ true → cond (not (length f == 0)) (list_all is_ascii_digit (48 ∷ w) && some_digits f) (some_digits (48 ∷ w)) ≡ true
    at w [] e h = some_of (48 ∷ w) (omega arith) e
    at w (x ∷ f) e h =
        let some : not (length (x ∷ f) == 0) ≡ true = grind (arith, nat_tests) in
        ap (λ t. cond t (list_all is_ascii_digit (48 ∷ w) && some_digits (x ∷ f)) (some_digits (48 ∷ w))) some ∙ and_from (list_all is_ascii_digit (48 ∷ w)) (some_digits (x ∷ f)) e (some_of (x ∷ f) (omega arith) h)

-- its value, and its canonic text
plain_value : (k : ℕ) (n : Bool) (w f s : List ℕ) → IsPlain n w f s → value_at k s ≡ with_sign n (worth (length w + k) (w ++ f))
plain_value k n w f s is =
    let none : (48 - 48) * 10 ^ (length (48 ∷ w) + k - 1) ≡ 0 = omega arith in
    let less : length (48 ∷ w) + k - 1 ≡ length w + k = omega arith in
    let front : worth (length (48 ∷ w) + k) ((48 ∷ w) ++ f) ≡ worth (length w + k) (w ++ f) = omega (arith, none, ap (λ i. worth i (w ++ f)) less) in
    ap (λ t. with_sign t (magnitude_at k (magnitude s))) is.negative
    ∙ ap (λ x. with_sign n (worth (length x + k) (x ++ fraction_part (magnitude s)))) is.whole
    ∙ ap (λ x. with_sign n (worth (length (48 ∷ w) + k) ((48 ∷ w) ++ x))) is.fraction
    ∙ ap (with_sign n) front

plain_text : (n : Bool) (w f s : List ℕ) → IsPlain n w f s → canonic_of s ≡ shortest n (after_zeros w) (before_zeros f)
plain_text n w f s is =
    ap (λ t. shortest t (after_zeros (whole_part (magnitude s))) (before_zeros (fraction_part (magnitude s)))) is.negative
    ∙ ap (λ x. shortest n (after_zeros x) (before_zeros (fraction_part (magnitude s)))) is.whole
    ∙ ap (λ x. shortest n (after_zeros w) (before_zeros x)) is.fraction

-- the fraction of a text
by_digits : {R : Type 0} (w f : List ℕ) → (w ≡ [] → f ≡ [] → R) → (0 < length w + length f → R) → R
by_digits [] [] none some = none refl refl
by_digits [] (d ∷ f) none some = some (omega arith)
by_digits (d ∷ w) f none some = some (omega arith)

shortest-some : (n : Bool) (w f : List ℕ) → 0 < length w + length f → shortest n w f ≡ signed n (w ++ with_point f)
shortest-some n [] [] h = absurd (omega arith)
shortest-some n [] (d ∷ f) h = let some : (length (d ∷ f) == 0) ≡ false = grind (arith, nat_tests) in rw some refl
shortest-some n (d ∷ w) f h = let some : (length (d ∷ w) == 0) ≡ false = grind (arith, nat_tests) in rw some refl

fraction_of : (n : Bool) (w f : List ℕ) → list_all is_ascii_digit w ≡ true → length (fraction_part (magnitude (shortest n w f))) ≤ length f
fraction_of n w f e =
    by_digits w f
    (λ p q. omega (arith, ap (λ x. length (fraction_part (magnitude (shortest n x f)))) p ∙ ap (λ x. length (fraction_part (magnitude (shortest n [] x)))) q))
    (λ some. let is : IsSigned n (w ++ with_point f) = signed_text n (w ++ with_point f) (unsigned_written w f e) in
    let of : IsSplit (w ++ with_point f) w f = split_written w f e in
    omega (arith, ap (λ x. length (fraction_part (magnitude x))) (shortest-some n w f some) ∙ ap (λ x. length (fraction_part x)) is.magnitude ∙ ap length of.fraction))

-- digits before the point and after it
pub written : (n : Bool) (w f : List ℕ) → list_all is_ascii_digit w ≡ true → list_all is_ascii_digit f ≡ true →
    IsTextOf (shortest n (after_zeros w) (before_zeros f)) (length f) (λ k. with_sign n (worth (length w + k) (w ++ f)))
written n w f e h =
    let s : List ℕ = signed n ((48 ∷ w) ++ with_point f) in
    let is : IsPlain n w f s = plain n w f e h in
    let same : canonic_of s ≡ shortest n (after_zeros w) (before_zeros f) = plain_text n w f s is in
    record {
      canonic = ap is_canonic (sym same) ∙ answers_are_canonic s is.numeric;
      value = λ k _. ap (value_at k) (sym same) ∙ answers_keep_the_value k s is.numeric ∙ plain_value k n w f s is;
      short = omega (arith, fraction_of n (after_zeros w) (before_zeros f) (after_zeros-digits w e), length-before_zeros f);
    }

-- digits of which so many stand before the point
front_of : (i : ℕ) (ds : List ℕ) → list_all is_ascii_digit ds ≡ true → list_all is_ascii_digit (take i ds) && list_all is_ascii_digit (drop i ds) ≡ true
front_of i ds e = sym (list_all-append is_ascii_digit (take i ds) (drop i ds)) ∙ ap (list_all is_ascii_digit) (take-append-drop i ds) ∙ e

pub parted_text : (n : Bool) (whole fraction : ℕ) (ds : List ℕ) → length ds ≡ whole + fraction → list_all is_ascii_digit ds ≡ true →
    IsTextOf (parted n whole ds) fraction (λ k. with_sign n (worth (whole + k) ds))
parted_text n whole fraction ds size e =
    let both = front_of whole ds e in
    let is = written n (take whole ds) (drop whole ds) (first_so _ _ both) (second_so (list_all is_ascii_digit (take whole ds)) _ both) in
    let w : length (take whole ds) ≡ whole = omega (arith, length-take whole ds) in
    let f : length (drop whole ds) ≡ fraction = omega (arith, length-drop whole ds) in
    record {
      canonic = is.canonic;
      value = λ k h. is.value k (omega (arith, f, h)) ∙ ap (λ i. with_sign n (worth (i + k) (take whole ds ++ drop whole ds))) w ∙ ap (λ x. with_sign n (worth (whole + k) x)) (take-append-drop whole ds);
      short = omega (arith, is.short, f);
    }

-- the text of a whole number of units
with_own_sign : (v : ℤ) → with_sign (is_below_0 v) (nat_abs v) ≡ v
with_own_sign (pos n) = refl
with_own_sign (negsuc n) = refl

pub record IsTextAt (scale : ℕ) (v : ℤ) (text : List ℕ) : Type 0 where
  pub canonic : is_canonic text ≡ true
  pub value : value_at scale text ≡ v
  pub short : length (fraction_part (magnitude text)) ≤ scale

pub text_at_is : (scale : ℕ) (v : ℤ) → IsTextAt scale v (text_at scale v)
text_at_is scale v =
    let size : length (replicate scale 48 ++ digits (nat_abs v)) ≡ length (digits (nat_abs v)) + scale = omega (arith, length-append (replicate scale 48) (digits (nat_abs v)), length-replicate {A = ℕ} scale 48) in
    let is = parted_text (is_below_0 v) (length (digits (nat_abs v))) scale (replicate scale 48 ++ digits (nat_abs v)) size (digits-append (replicate scale 48) (digits (nat_abs v)) (zeros_are_digits scale) (digits_are_digits (nat_abs v))) in
    record {
      canonic = is.canonic;
      value = is.value scale (omega arith) ∙ ap (with_sign (is_below_0 v)) (worth_zeros_front (length (digits (nat_abs v))) scale (digits (nat_abs v)) ∙ worth_digits (nat_abs v)) ∙ with_own_sign v;
      short = is.short;
    }

-- there is one
pub same_at : (scale : ℕ) (v u : ℤ) (s t : List ℕ) → IsTextAt scale v s → IsTextAt scale u t → v ≡ u → s ≡ t
same_at scale v u s t is it e = equal_values scale s t is.canonic it.canonic is.short it.short (is.value ∙ e ∙ sym it.value)

pub one_text : (scale : ℕ) (v : ℤ) (s : List ℕ) → IsTextAt scale v s → s ≡ text_at scale v
one_text scale v s is = same_at scale v v s (text_at scale v) is (text_at_is scale v) refl
