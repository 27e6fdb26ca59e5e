-- What place and digits say of a canonic number: what it is worth, and its text.
use Rattle.std.proofs.Common.{◌≡◌, ℕ, ◌+◌, ◌<◌, ◌≤◌, Bool, List, [], ◌∷◌, ◌++◌, length, not, true, false, refl, ap, sym, ◌∙◌, arith, get_or, append-nil}
use Rattle.std.proofs.lemmas.List.{drop_all, take_all}
use Rattle.std.proofs.lemmas.List.Sums.{split_at_first, passes_at_first}
use Rattle.std.proofs.lemmas.Bool.Decides.{nat_tests}
use Rattle.std.specs.Prelude.{◌||◌, ◌==◌, cond, pos, neg_ℤ, if◌then◌else◌, is_some, nat_lt, Some, None}
use Rattle.std.specs.List.{list_all, position_or_len}
use Rattle.std.specs.Cmp.{first_so, second_so}
use Rattle.std.proofs.lemmas.Bool.{not-true, eqb-true}
use Rattle.std.proofs.Common.{length-append, length-drop}
use Rattle.std.specs.Char.{is_ascii_digit}
use Rattle.canonic_number.specs.Parts.{AreDigits, is_ended}
use Rattle.canonic_number.specs.Number.{worth, ends_above_0, is_zero, is_canonic, is_magnitude, magnitude, is_negative, whole_part, fraction_part, is_point, is_whole, is_fraction, value_at}
use Rattle.canonic_number.specs.Place.{point_at, digits_of, with_point, written_at, signed}
use Rattle.canonic_number.specs.laws.Place.{ArePlacedDigits, placed, worth-placed, written_back}

pub no_less : (ds : List ℕ) → ends_above_0 ds ≡ true → 0 < length ds
no_less [] e = cc
no_less (d ∷ ds) e = omega arith

-- digits that end above 0 have no zero at their end
pub ended : (ds : List ℕ) → ends_above_0 ds ≡ true → is_ended ds ≡ true
ended [] e = refl
ended (d ∷ ds) e = e

pub length-magnitude : (s : List ℕ) → length (magnitude s) ≤ length s
length-magnitude [] = omega arith
length-magnitude (b ∷ bs) = elim (b == 45) as (λ t. length (cond t bs (b ∷ bs)) ≤ length (b ∷ bs)) [ true ↦ omega arith | false ↦ omega arith ]

pub with_point-some : (f : List ℕ) → 0 < length f → with_point f ≡ 46 ∷ f
with_point-some [] h = absurd (omega arith)
with_point-some (d ∷ f) h = refl

-- where there is a point, it stands between the parts
pub split_at_point : (m : List ℕ) → nat_lt (position_or_len is_point m) (length m) ≡ true → m ≡ whole_part m ++ 46 ∷ fraction_part m
split_at_point m here =
    let within : position_or_len is_point m < length m = grind (arith, nat_tests) in
    let point : get_or m (position_or_len is_point m) 0 ≡ 46 = eqb-true _ 46 (passes_at_first is_point m 0 within) in
    split_at_first is_point m 0 within ∙ ap (λ b. whole_part m ++ (b ∷ fraction_part m)) point

-- where there is none, all is the whole part
pub record HasNoPoint (m : List ℕ) : Type 0 where
  pub whole : whole_part m ≡ m
  pub fraction : fraction_part m ≡ []

pub without_point : (m : List ℕ) → nat_lt (position_or_len is_point m) (length m) ≡ false → HasNoPoint m
without_point m none =
    let past : length m ≤ position_or_len is_point m = grind (arith, nat_tests) in
    record { whole = take_all (position_or_len is_point m) m past; fraction = drop_all (position_or_len is_point m + 1) m (omega arith) }

-- the parts of a number above zero
pub record HasParts (m : List ℕ) : Type 0 where
  pub digits : AreDigits (whole_part m) (fraction_part m)
  pub some : 0 < length (whole_part m) + length (fraction_part m)
  pub short : length (fraction_part m) < length m

parts_at : (m : List ℕ) (t : Bool) → nat_lt (position_or_len is_point m) (length m) ≡ t → 0 < length m → is_whole (whole_part m) ≡ true → cond (is_some (cond t (Some (position_or_len is_point m)) None)) (is_fraction (fraction_part m)) true ≡ true → HasParts m
parts_at m true here some whole fraction =
    let ends = second_so _ (ends_above_0 (fraction_part m)) fraction in
    record {
      digits = record { whole_digits = first_so _ _ whole; fraction_digits = first_so _ _ fraction; begins = not-true _ (second_so (list_all is_ascii_digit (whole_part m)) _ whole); ends = ended (fraction_part m) ends };
      some = omega (arith, no_less (fraction_part m) ends);
      short = omega (arith, length-drop (position_or_len is_point m + 1) m);
    }
parts_at m false here some whole fraction =
    let none : fraction_part m ≡ [] = (without_point m here).fraction in
    let all : whole_part m ≡ m = (without_point m here).whole in
    record {
      digits = record { whole_digits = first_so _ _ whole; fraction_digits = ap (list_all is_ascii_digit) none; begins = not-true _ (second_so (list_all is_ascii_digit (whole_part m)) _ whole); ends = ap is_ended none };
      some = omega (arith, ap length all);
      short = omega (arith, ap length none);
    }

pub has_parts : (m : List ℕ) → is_magnitude m ≡ true → HasParts m
has_parts m e =
    let empty : (length m == 0) ≡ false = not-true (length m == 0) (first_so (not (length m == 0)) _ e) in
    let some : 0 < length m = grind (arith, nat_tests) in
    let rest = second_so (not (length m == 0)) _ e in
    parts_at m (nat_lt (position_or_len is_point m) (length m)) refl some (first_so _ _ rest) (second_so (is_whole (whole_part m)) _ rest)

split_at : (m : List ℕ) (t : Bool) → nat_lt (position_or_len is_point m) (length m) ≡ t → cond (is_some (cond t (Some (position_or_len is_point m)) None)) (is_fraction (fraction_part m)) true ≡ true → m ≡ whole_part m ++ with_point (fraction_part m)
split_at m true here fraction =
    let some : 0 < length (fraction_part m) = no_less (fraction_part m) (second_so _ (ends_above_0 (fraction_part m)) fraction) in
    split_at_point m here ∙ ap (λ f. whole_part m ++ f) (sym (with_point-some (fraction_part m) some))
split_at m false here fraction =
    let none = without_point m here in
    sym (ap (λ f. whole_part m ++ with_point f) none.fraction ∙ append-nil (whole_part m) ∙ none.whole)

-- a magnitude is its whole part, and then a point and its fraction where it has one
pub split : (m : List ℕ) → is_magnitude m ≡ true → m ≡ whole_part m ++ with_point (fraction_part m)
split m e = split_at m (nat_lt (position_or_len is_point m) (length m)) refl (second_so (is_whole (whole_part m)) _ (second_so (not (length m == 0)) _ e))

pub resigned : (s : List ℕ) → s ≡ signed (is_negative s) (magnitude s)
resigned [] = refl
resigned (b ∷ bs) = elim (b == 45) as (λ t. (b == 45) ≡ t → b ∷ bs ≡ signed t (cond t bs (b ∷ bs))) [ true ↦ λ e. ap (λ x. x ∷ bs) (eqb-true b 45 e) | false ↦ λ e. refl ] refl

length-whole : (m : List ℕ) → is_magnitude m ≡ true → length (whole_part m) ≤ length m
length-whole m e = omega (arith, ap length (split m e), length-append (whole_part m) (with_point (fraction_part m)))

-- a canonic number other than zero, by its sign, place and digits
pub record IsPlaced (k : ℕ) (s : List ℕ) : Type 0 where
  pub form : ArePlacedDigits (point_at k s) (digits_of s)
  pub value : value_at k s ≡ (if is_negative s then neg_ℤ (pos (worth (point_at k s) (digits_of s))) else pos (worth (point_at k s) (digits_of s)))
  pub text : s ≡ signed (is_negative s) (written_at k (point_at k s) (digits_of s))
  pub bound : point_at k s ≤ length s + k

-- the fraction is shorter than the text
pub fraction_short : (k : ℕ) (s : List ℕ) → is_canonic s ≡ true → is_zero s ≡ false → length s ≤ k + 1 → length (fraction_part (magnitude s)) ≤ k
fraction_short k s is nonzero short =
    let form : is_magnitude (magnitude s) ≡ true = ap (λ t. t || is_magnitude (magnitude s)) (sym nonzero) ∙ is in
    let parts : HasParts (magnitude s) = has_parts (magnitude s) form in
    omega (arith, parts.short, length-magnitude s)

-- k is any scale not below the length of the fraction
pub is_placed : (k : ℕ) (s : List ℕ) → is_canonic s ≡ true → is_zero s ≡ false → length (fraction_part (magnitude s)) ≤ k → IsPlaced k s
is_placed k s is nonzero within =
    let form : is_magnitude (magnitude s) ≡ true = ap (λ t. t || is_magnitude (magnitude s)) (sym nonzero) ∙ is in
    let parts : HasParts (magnitude s) = has_parts (magnitude s) form in
    record {
      form = placed k (whole_part (magnitude s)) (fraction_part (magnitude s)) parts.digits parts.some within;
      value = ap (λ n. if is_negative s then neg_ℤ (pos n) else pos n) (worth-placed k (whole_part (magnitude s)) (fraction_part (magnitude s)));
      text = resigned s ∙ ap (signed (is_negative s)) (split (magnitude s) form ∙ sym (written_back k (whole_part (magnitude s)) (fraction_part (magnitude s)) parts.digits parts.some within));
      bound = omega (arith, length-whole (magnitude s) form, length-magnitude s);
    }

pub is_zero_text : (s : List ℕ) → is_zero s ≡ true → s ≡ 48 ∷ []
is_zero_text [] e = cc
is_zero_text (b ∷ []) e = let h : b ≡ 48 = grind (arith, nat_tests) in ap (λ x. x ∷ []) h
is_zero_text (b ∷ c ∷ s) e = cc

-- sign, place and digits tell the text
pub same_text : (k : ℕ) (s t : List ℕ) → IsPlaced k s → IsPlaced k t → is_negative s ≡ is_negative t → point_at k s ≡ point_at k t → digits_of s ≡ digits_of t → s ≡ t
same_text k s t a b sign place digits =
    a.text ∙ ap (λ n. signed n (written_at k (point_at k s) (digits_of s))) sign ∙ ap (λ p. signed (is_negative t) (written_at k p (digits_of s))) place ∙ ap (λ ds. signed (is_negative t) (written_at k (point_at k t) ds)) digits ∙ sym b.text
