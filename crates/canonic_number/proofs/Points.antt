-- Where the first byte that is no digit stands, and where the point.
use Rattle.std.proofs.Common.{◌≡◌, ℕ, ◌+◌, ◌<◌, Bool, true, false, cond, ltb, List, [], ◌∷◌, length, take, get_or, Some, None, refl, ap, sym, ◌∙◌, arith}
use Rattle.std.proofs.Math.Numerals.{one-add}
use Rattle.std.proofs.lemmas.Bool.{ltb-true, ltb-false, lt-ltb, le-ltb, ne_eqb}
use Rattle.std.proofs.lemmas.Bool.Decides.{nat_tests}
use Rattle.std.proofs.lemmas.List.Sums.{position_or_len_is, fails_before_first, prefix_len-le-length}
use Rattle.std.specs.Prelude.{not, is_some, nat_lt, ◌==◌}
use Rattle.std.specs.Char.{is_ascii_digit}
use Rattle.std.specs.List.{list_all, position, position_or_len}
use Rattle.canonic_number.specs.Number.{is_point, whole_part}
use Rattle.canonic_number.specs.Parts.{is_no_digit}
use Rattle.canonic_number.specs.laws.Canonic.{HasNoPoint, without_point}

digit_no_point : (b : ℕ) → is_no_digit b ≡ false → is_point b ≡ false
digit_no_point b e = grind (arith, nat_tests)

ends_nowhere : (m : List ℕ) → position is_no_digit m ≡ None → position_or_len is_no_digit m ≡ length m
ends_nowhere m e = at (ltb (position_or_len is_no_digit m) (length m)) refl e
  where
    at : (t : Bool) → ltb (position_or_len is_no_digit m) (length m) ≡ t → cond t (Some (position_or_len is_no_digit m)) None ≡ None → position_or_len is_no_digit m ≡ length m
    at true h e = absurd cc
    at false h e = omega (arith, ltb-false (position_or_len is_no_digit m) (length m) h, prefix_len-le-length (λ x. not (is_no_digit x)) m)

ends_at : (m : List ℕ) (n : ℕ) → position is_no_digit m ≡ Some n → (position_or_len is_no_digit m ≡ n) × (n < length m)
ends_at m n e = at (ltb (position_or_len is_no_digit m) (length m)) refl e
  where
    at : (t : Bool) → ltb (position_or_len is_no_digit m) (length m) ≡ t → cond t (Some (position_or_len is_no_digit m)) None ≡ Some n → (position_or_len is_no_digit m ≡ n) × (n < length m)
    at true h e =
        let same : position_or_len is_no_digit m ≡ n = cc in
        let within : position_or_len is_no_digit m < length m = ltb-true _ _ h in
        (same, omega arith)
    at false h e = absurd cc

digits_before : (m : List ℕ) → list_all is_ascii_digit (take (position_or_len is_no_digit m) m) ≡ true
digits_before [] = refl
digits_before (d ∷ ds) = at (is_ascii_digit d) refl (digits_before ds)
  where
    at : (t : Bool) → is_ascii_digit d ≡ t → list_all is_ascii_digit (take (position_or_len is_no_digit ds) ds) ≡ true → list_all is_ascii_digit (take (cond (not (not t)) (1 + position_or_len is_no_digit ds) 0) (d ∷ ds)) ≡ true
    at true e ih = rw (one-add, e) ih
    at false e ih = refl

-- digits, and a point after them
pub record HasPoint (m : List ℕ) (n : ℕ) : Type 0 where
  pub place : position_or_len is_point m ≡ n
  pub point : is_some (position is_point m) ≡ true
  pub digits : list_all is_ascii_digit (whole_part m) ≡ true

pub point_ends : (m : List ℕ) (n : ℕ) → position is_no_digit m ≡ Some n → get_or m n 0 ≡ 46 → HasPoint m n
point_ends m n e b =
    let end = ends_at m n e in
    let place : position_or_len is_point m ≡ n =
    position_or_len_is is_point m n 0 (omega (arith, end.1)) (λ k h. digit_no_point _ (fails_before_first is_no_digit m k 0 (omega (arith, h, end.0)))) (λ _. ap (λ x. x == 46) b) in
    let here : nat_lt (position_or_len is_point m) (length m) ≡ true = lt-ltb _ _ (omega (arith, place, end.1)) in
    record { place = place; point = rw here refl; digits = ap (λ i. list_all is_ascii_digit (take i m)) (place ∙ sym end.0) ∙ digits_before m }

-- digits alone
pub record AreAllDigits (m : List ℕ) : Type 0 where
  pub parts : HasNoPoint m
  pub point : is_some (position is_point m) ≡ false
  pub digits : list_all is_ascii_digit (whole_part m) ≡ true

pub nothing_ends : (m : List ℕ) → position is_no_digit m ≡ None → AreAllDigits m
nothing_ends m e =
    let end = ends_nowhere m e in
    let place : position_or_len is_point m ≡ length m =
    position_or_len_is is_point m (length m) 0 (omega arith) (λ k h. digit_no_point _ (fails_before_first is_no_digit m k 0 (omega (arith, h, end)))) (λ h. absurd (omega (arith, h))) in
    let past : nat_lt (position_or_len is_point m) (length m) ≡ false = le-ltb _ _ (omega (arith, place)) in
    record { parts = without_point m past; point = rw past refl; digits = ap (λ i. list_all is_ascii_digit (take i m)) (place ∙ sym end) ∙ digits_before m }

-- another byte after the digits stands in the whole part
other_byte : (m : List ℕ) → position_or_len is_no_digit m < length m → is_point (get_or m (position_or_len is_no_digit m) 0) ≡ false → list_all is_ascii_digit (whole_part m) ≡ false
other_byte [] h o = absurd (omega (arith, h))
other_byte (d ∷ ds) h o = at (is_ascii_digit d) refl h o (other_byte ds)
  where
    at : (t : Bool) → is_ascii_digit d ≡ t → cond (not (not t)) (1 + position_or_len is_no_digit ds) 0 < length (d ∷ ds) → is_point (get_or (d ∷ ds) (cond (not (not t)) (1 + position_or_len is_no_digit ds) 0) 0) ≡ false
        → (position_or_len is_no_digit ds < length ds → is_point (get_or ds (position_or_len is_no_digit ds) 0) ≡ false → list_all is_ascii_digit (whole_part ds) ≡ false) → list_all is_ascii_digit (whole_part (d ∷ ds)) ≡ false
    at true e h o ih =
        let no : is_point d ≡ false = digit_no_point d (ap not e) in
        let rest : list_all is_ascii_digit (whole_part ds) ≡ false = ih (omega (arith, h)) (rw one-add at o) in
        rw (no, one-add, e) rest
    at false e h o ih = let no : is_point d ≡ false = o in rw (no, one-add, e) refl

pub other_ends : (m : List ℕ) (n : ℕ) → position is_no_digit m ≡ Some n → (get_or m n 0 ≡ 46 → ⊥) → list_all is_ascii_digit (whole_part m) ≡ false
other_ends m n e o =
    let end = ends_at m n e in
    other_byte m (omega (arith, end.0, end.1)) (ap (λ i. is_point (get_or m i 0)) end.0 ∙ ne_eqb (get_or m n 0) 46 o)
