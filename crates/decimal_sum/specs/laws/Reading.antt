-- A canonic text begins with its own number.
use Rattle.std.proofs.Common.{◌≡◌, ℕ, ◌+◌, Bool, List, [], ◌∷◌, ◌++◌, length, not, true, false, refl, ap, sym, subst, ◌∙◌, arith, take, drop, append-nil}
use Rattle.std.proofs.Math.Seq.{take-append_seam, drop-append_seam}
use Rattle.std.proofs.lemmas.Bool.Decides.{nat_tests}
use Rattle.std.specs.Prelude.{◌==◌, ◌||◌}
use Rattle.std.specs.Cmp.{first_so}
use Rattle.std.specs.List.{list_all, position_or_len}
use Rattle.std.specs.Char.{is_ascii_digit}
use Rattle.canonic_number.specs.Grammar.{IsDigit}
use Rattle.canonic_number.specs.Number.{is_canonic, is_zero, is_magnitude, is_negative, magnitude, whole_part, fraction_part, worth}
use Rattle.canonic_number.specs.Parts.{is_no_digit}
use Rattle.canonic_number.specs.Place.{with_point, signed}
use Rattle.canonic_number.specs.laws.Digits.{head_digit, tail_digits}
use Rattle.canonic_number.specs.laws.Canonic.{HasParts, has_parts, split, resigned, is_zero_text}
use Rattle.decimal_sum.specs.Front.{after_signs, is_negated, front_digits, past_digits, point_digits, front_whole, front_fraction, with_sign}
use Rattle.decimal_sum.specs.Statements.{IsOwnNumber}

-- digits are no sign
record IsUnsigned (m : List ℕ) : Type 0 where
  negated : is_negated m ≡ false
  rest : after_signs m ≡ m

unsigned_written : (w f : List ℕ) → list_all is_ascii_digit w ≡ true → IsUnsigned (w ++ with_point f)
unsigned_written [] [] e = record { negated = refl; rest = refl }
unsigned_written [] (d ∷ f) e = record { negated = refl; rest = refl }
unsigned_written (d ∷ w) f e =
    let is : IsDigit d = head_digit d w e in
    let plus : (d == 43) ≡ false = grind (arith, nat_tests, is.low) in
    let minus : (d == 45) ≡ false = grind (arith, nat_tests, is.low) in
    record { negated = rw (minus, plus) refl; rest = rw (plus, minus) refl }

-- digits in front
digits_end : (w f : List ℕ) → list_all is_ascii_digit w ≡ true → position_or_len is_no_digit (w ++ with_point f) ≡ length w
digits_end [] [] e = refl
digits_end [] (d ∷ f) e = refl
digits_end (d ∷ w) f e = let is : is_ascii_digit d ≡ true = first_so _ _ e in rw is (omega (arith, digits_end w f (tail_digits d w e)))

front_written : (w f : List ℕ) → list_all is_ascii_digit w ≡ true → front_digits (w ++ with_point f) ≡ w
front_written w f e = ap (λ i. take i (w ++ with_point f)) (digits_end w f e) ∙ take-append_seam w (with_point f)

past_written : (w f : List ℕ) → list_all is_ascii_digit w ≡ true → past_digits (w ++ with_point f) ≡ with_point f
past_written w f e = ap (λ i. drop i (w ++ with_point f)) (digits_end w f e) ∙ drop-append_seam w (with_point f)

point_written : (f : List ℕ) → list_all is_ascii_digit f ≡ true → point_digits (with_point f) ≡ f
point_written [] e = refl
point_written (d ∷ f) e = ap front_digits (sym (append-nil (d ∷ f))) ∙ front_written (d ∷ f) [] e

-- a sign or none, digits, a point and digits
record IsRead (n : Bool) (w f s : List ℕ) : Type 0 where
  negated : is_negated s ≡ n
  whole : front_whole s ≡ w
  fraction : front_fraction s ≡ f

read_written : (n : Bool) (w f : List ℕ) → list_all is_ascii_digit w ≡ true → list_all is_ascii_digit f ≡ true → IsRead n w f (signed n (w ++ with_point f))
read_written n w f e h =
    let is = unsigned_written w f e in
    let rest : after_signs (signed n (w ++ with_point f)) ≡ w ++ with_point f = past n is.rest in
    record {
      negated = sign n is.negated;
      whole = ap front_digits rest ∙ front_written w f e;
      fraction = ap (λ m. point_digits (past_digits m)) rest ∙ ap point_digits (past_written w f e) ∙ point_written f h;
    }
  where
    past : (n : Bool) → after_signs (w ++ with_point f) ≡ w ++ with_point f → after_signs (signed n (w ++ with_point f)) ≡ w ++ with_point f
    past true r = r
    past false r = r

    sign : (n : Bool) → is_negated (w ++ with_point f) ≡ false → is_negated (signed n (w ++ with_point f)) ≡ n
    sign true r = ap not r
    sign false r = r

read_magnitude : (s : List ℕ) → is_magnitude (magnitude s) ≡ true → IsRead (is_negative s) (whole_part (magnitude s)) (fraction_part (magnitude s)) s
read_magnitude s e =
    let parts : HasParts (magnitude s) = has_parts (magnitude s) e in
    subst (IsRead (is_negative s) (whole_part (magnitude s)) (fraction_part (magnitude s))) (sym (resigned s ∙ ap (signed (is_negative s)) (split (magnitude s) e)))
    (read_written (is_negative s) (whole_part (magnitude s)) (fraction_part (magnitude s)) parts.digits.whole_digits parts.digits.fraction_digits)

own_read : (s : List ℕ) → IsRead (is_negative s) (whole_part (magnitude s)) (fraction_part (magnitude s)) s → IsOwnNumber s
own_read s is = record {
  value = λ k. ap (λ n. with_sign n (worth (length (front_whole s) + k) (front_whole s ++ front_fraction s))) is.negated
      ∙ ap (λ w. with_sign (is_negative s) (worth (length w + k) (w ++ front_fraction s))) is.whole
      ∙ ap (λ f. with_sign (is_negative s) (worth (length (whole_part (magnitude s)) + k) (whole_part (magnitude s) ++ f))) is.fraction;
  fraction = is.fraction;
}

own_zero : IsOwnNumber (48 ∷ [])
own_zero = record { value = λ k. refl; fraction = refl }

pub canonic_value : (s : List ℕ) → is_canonic s ≡ true → IsOwnNumber s
canonic_value s is =
    elim (is_zero s) as (λ t. is_zero s ≡ t → (t || is_magnitude (magnitude s)) ≡ true → IsOwnNumber s) [
      | true ↦ λ z _. subst IsOwnNumber (sym (is_zero_text s z)) own_zero
      | false ↦ λ _ m. own_read s (read_magnitude s m)
    ] refl is
