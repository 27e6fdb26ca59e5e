-- Numeric literals: the test agrees with the grammar; the canonic text of one has its value, and there is one for each value.
use Rattle.std.proofs.Common.{◌≡◌, ℕ, ◌+◌, ◌-◌, ◌*◌, ◌^◌, ◌<◌, ◌≤◌, Bool, List, [], ◌∷◌, ◌++◌, length, not, true, false, refl, ap, sym, subst, ◌∙◌, arith, append-nil, ◌↔◌}
use Rattle.std.proofs.lemmas.Bool.{and_from, or_right, not_from_false, eqb-true}
use Rattle.std.proofs.lemmas.Bool.Decides.{nat_tests}
use Rattle.std.specs.Prelude.{◌&&◌, ◌||◌, ◌==◌, cond, is_some, nat_lt, ℤ, pos, neg_ℤ, Some, None}
use Rattle.std.specs.List.{list_all, position_or_len}
use Rattle.std.specs.Char.{is_ascii_digit}
use Rattle.std.specs.Cmp.{first_so, second_so}
use Rattle.canonic_number.specs.Number.{begins_with_0, is_zero, is_canonic, is_magnitude, magnitude, magnitude_at, is_negative, whole_part, fraction_part, is_point, is_whole, worth, value_at}
use Rattle.canonic_number.specs.Grammar.{IsSomeDigits, first_digit, digit, IsUnsignedLiteral, only_digits, point_first, point_between, IsNumericLiteral, unsigned, with_minus}
use Rattle.canonic_number.specs.Parts.{is_ended}
use Rattle.canonic_number.specs.Place.{after_zeros, before_zeros, with_point, signed}
use Rattle.canonic_number.specs.Literal.{some_digits, is_unsigned_literal, is_numeric, shortest, canonic_of}
use Rattle.canonic_number.specs.Statements.{AnswersAreCanonic, AnswersKeepTheValue, EqualLiteralsHaveEqualAnswers, CanonicTextsAreLiterals, CanonicTextsStay}
use Rattle.canonic_number.specs.laws.Digits.{head_digit, tail_digits}
use Rattle.canonic_number.specs.laws.Place.{at_zero, after_zeros-digits, before_zeros-digits, before_zeros-ended, worth-before_zeros, length-before_zeros, after_zeros-same, before_zeros-same}
use Rattle.canonic_number.specs.laws.Canonic.{HasParts, has_parts, split, split_at_point, without_point, resigned, is_zero_text, with_point-some}
use Rattle.canonic_number.specs.laws.Grammar.{IsSplit, split_written, IsUnsigned, unsigned_byte, unsigned_written, IsSigned, signed_text, digits_test, digits_spelled, is_magnitude-written}
use Rattle.canonic_number.specs.laws.Classes.{equal_values}

full : (ds : List ℕ) → not (length ds == 0) ≡ true → 0 < length ds
full ds e = grind (arith, nat_tests)

not_empty : (ds : List ℕ) → 0 < length ds → not (length ds == 0) ≡ true
not_empty ds h = grind (arith, nat_tests)

-- one digit or more
some_test : {ds : List ℕ} → IsSomeDigits ds → some_digits ds ≡ true
some_test (first_digit {d} {ds} is rest) = and_from (not (length (d ∷ ds) == 0)) (list_all is_ascii_digit (d ∷ ds)) (not_empty (d ∷ ds) (omega arith)) (digits_test (digit is rest))

some_spelled : (ds : List ℕ) → some_digits ds ≡ true → IsSomeDigits ds
some_spelled [] e = cc
some_spelled (d ∷ ds) e =
    let all : list_all is_ascii_digit (d ∷ ds) ≡ true = second_so (not (length (d ∷ ds) == 0)) _ e in
    first_digit (head_digit d ds all) (digits_spelled ds (tail_digits d ds all))

-- the test of a literal that was put together
is_literal-written : (w f : List ℕ) → list_all is_ascii_digit w ≡ true → cond (not (length f == 0)) (list_all is_ascii_digit w && some_digits f) (some_digits w) ≡ true → is_unsigned_literal (w ++ with_point f) ≡ true
is_literal-written w f e h =
    let is = split_written w f e in
    ap (λ t. cond t (list_all is_ascii_digit (whole_part (w ++ with_point f)) && some_digits (fraction_part (w ++ with_point f))) (some_digits (whole_part (w ++ with_point f)))) is.point
    ∙ ap (λ x. cond (not (length f == 0)) (list_all is_ascii_digit x && some_digits (fraction_part (w ++ with_point f))) (some_digits x)) is.whole
    ∙ ap (λ x. cond (not (length f == 0)) (list_all is_ascii_digit w && some_digits x) (some_digits w)) is.fraction ∙ h

with_fraction : (w f : List ℕ) → list_all is_ascii_digit w ≡ true → some_digits f ≡ true → is_unsigned_literal (w ++ 46 ∷ f) ≡ true
with_fraction w f e h =
    let some : not (length f == 0) ≡ true = first_so _ _ h in
    ap (λ t. is_unsigned_literal (w ++ t)) (sym (with_point-some f (full f some)))
    ∙ is_literal-written w f e (ap (λ t. cond t (list_all is_ascii_digit w && some_digits f) (some_digits w)) some ∙ and_from (list_all is_ascii_digit w) (some_digits f) e h)

unsigned_test : {m : List ℕ} → IsUnsignedLiteral m → is_unsigned_literal m ≡ true
unsigned_test (only_digits {w} a) = ap is_unsigned_literal (sym (append-nil w)) ∙ is_literal-written w [] (second_so (not (length w == 0)) _ (some_test a)) (some_test a)
unsigned_test (point_first {f} b) = with_fraction [] f refl (some_test b)
unsigned_test (point_between {w} {f} a b) = with_fraction w f (second_so (not (length w == 0)) _ (some_test a)) (some_test b)

without_sign : {m : List ℕ} → IsUnsignedLiteral m → IsUnsigned m
without_sign (only_digits {w} a) = subst IsUnsigned (append-nil w) (unsigned_written w [] (second_so (not (length w == 0)) _ (some_test a)))
without_sign (point_first {f} b) = unsigned_byte 46 f (omega arith)
without_sign (point_between {w} {f} a b) =
    subst (λ t. IsUnsigned (w ++ t)) (with_point-some f (full f (first_so _ _ (some_test b)))) (unsigned_written w f (second_so (not (length w == 0)) _ (some_test a)))

literal_test : {s : List ℕ} → IsNumericLiteral s → is_numeric s ≡ true
literal_test (unsigned {m} a) = let plain = without_sign a in ap is_unsigned_literal plain.magnitude ∙ unsigned_test a
literal_test (with_minus {m} a) = unsigned_test a

between : (w f : List ℕ) → list_all is_ascii_digit w ≡ true → IsSomeDigits f → IsUnsignedLiteral (w ++ 46 ∷ f)
between [] f e b = point_first b
between (d ∷ w) f e b = point_between (first_digit (head_digit d w e) (digits_spelled w (tail_digits d w e))) b

-- the digits of a literal
record HasDigits (m : List ℕ) : Type 0 where
  whole : list_all is_ascii_digit (whole_part m) ≡ true
  fraction : list_all is_ascii_digit (fraction_part m) ≡ true
  spelled : IsUnsignedLiteral m

has_digits : (m : List ℕ) → is_unsigned_literal m ≡ true → HasDigits m
has_digits m e = at (nat_lt (position_or_len is_point m) (length m)) refl e
  where
    at : (t : Bool) → nat_lt (position_or_len is_point m) (length m) ≡ t → cond (is_some (cond t (Some (position_or_len is_point m)) None)) (list_all is_ascii_digit (whole_part m) && some_digits (fraction_part m)) (some_digits (whole_part m)) ≡ true → HasDigits m
    at true here e =
        let whole : list_all is_ascii_digit (whole_part m) ≡ true = first_so _ _ e in
        let some : some_digits (fraction_part m) ≡ true = second_so (list_all is_ascii_digit (whole_part m)) _ e in
        record {
          whole = whole;
          fraction = second_so (not (length (fraction_part m) == 0)) _ some;
          spelled = subst IsUnsignedLiteral (sym (split_at_point m here)) (between (whole_part m) (fraction_part m) whole (some_spelled (fraction_part m) some));
        }
    at false here e =
        let none = without_point m here in
        record {
          whole = second_so (not (length (whole_part m) == 0)) _ e;
          fraction = ap (list_all is_ascii_digit) none.fraction;
          spelled = subst IsUnsignedLiteral none.whole (only_digits (some_spelled (whole_part m) e));
        }

with_sign : (s : List ℕ) → IsUnsignedLiteral (magnitude s) → IsNumericLiteral s
with_sign [] a = unsigned a
with_sign (b ∷ bs) a =
    elim (b == 45) as (λ t. (b == 45) ≡ t → IsUnsignedLiteral (cond t bs (b ∷ bs)) → IsNumericLiteral (b ∷ bs)) [
      | true ↦ λ e m. subst (λ c. IsNumericLiteral (c ∷ bs)) (sym (eqb-true b 45 e)) (with_minus m)
      | false ↦ λ _ m. unsigned m
    ] refl a

-- a text passes the test exactly where the grammar spells it
pub literal_is_spelled : (s : List ℕ) → (is_numeric s ≡ true) ↔ IsNumericLiteral s
literal_is_spelled s = (λ e. with_sign s (has_digits (magnitude s) e).spelled, λ is. literal_test is)

-- the text of some digits, and its parts
shortest-some : (n : Bool) (w f : List ℕ) → 0 < length w + length f → shortest n w f ≡ signed n (w ++ with_point f)
shortest-some n [] [] h = absurd (omega arith)
shortest-some n [] (d ∷ f) h = let some : (length (d ∷ f) == 0) ≡ false = grind (arith, nat_tests) in rw some refl
shortest-some n (d ∷ w) f h = let some : (length (d ∷ w) == 0) ≡ false = grind (arith, nat_tests) in rw some refl

by_digits : {R : Type 0} (w f : List ℕ) → (w ≡ [] → f ≡ [] → R) → (0 < length w + length f → R) → R
by_digits [] [] none some = none refl refl
by_digits [] (d ∷ f) none some = some (omega arith)
by_digits (d ∷ w) f none some = some (omega arith)

shortest-canonic : (n : Bool) (w f : List ℕ) → is_whole w ≡ true → list_all is_ascii_digit f ≡ true → is_ended f ≡ true → is_canonic (shortest n w f) ≡ true
shortest-canonic n w f e digits ends =
    by_digits w f
    (λ p q. ap (λ x. is_canonic (shortest n x f)) p ∙ ap (λ x. is_canonic (shortest n [] x)) q)
    (λ some. let is : IsSigned n (w ++ with_point f) = signed_text n (w ++ with_point f) (unsigned_written w f (first_so _ _ e)) in
    ap is_canonic (shortest-some n w f some)
    ∙ or_right (is_zero (signed n (w ++ with_point f))) (is_magnitude (magnitude (signed n (w ++ with_point f)))) (ap is_magnitude is.magnitude ∙ is_magnitude-written w f e digits ends some))

after_zeros-begins : (ds : List ℕ) → begins_with_0 (after_zeros ds) ≡ false
after_zeros-begins [] = refl
after_zeros-begins (d ∷ ds) = at_zero d (λ t _. rw t (after_zeros-begins ds)) (λ t. rw (t, t) refl)

pub answers_are_canonic : AnswersAreCanonic
answers_are_canonic s e =
    let has : HasDigits (magnitude s) = has_digits (magnitude s) e in
    shortest-canonic (is_negative s) (after_zeros (whole_part (magnitude s))) (before_zeros (fraction_part (magnitude s)))
    (and_from (list_all is_ascii_digit (after_zeros (whole_part (magnitude s)))) _ (after_zeros-digits (whole_part (magnitude s)) has.whole) (not_from_false _ (after_zeros-begins (whole_part (magnitude s)))))
    (before_zeros-digits (fraction_part (magnitude s)) has.fraction) (before_zeros-ended (fraction_part (magnitude s)))

-- what the digits that go are worth
worth-front : (k : ℕ) (w f : List ℕ) → worth (length (after_zeros w) + k) (after_zeros w ++ f) ≡ worth (length w + k) (w ++ f)
worth-front k [] f = refl
worth-front k (d ∷ w) f =
    at_zero d
    (λ t h. let none : (d - 48) * 10 ^ (length (d ∷ w) + k - 1) ≡ 0 = ap (λ z. (z - 48) * 10 ^ (length (d ∷ w) + k - 1)) h ∙ omega arith in
    let less : length (d ∷ w) + k - 1 ≡ length w + k = omega arith in
    let all : worth (length (after_zeros w) + k) (after_zeros w ++ f) ≡ worth (length (d ∷ w) + k) (d ∷ w ++ f) = omega (arith, none, worth-front k w f, ap (λ i. worth i (w ++ f)) less) in
    rw t all)
    (λ t. rw t refl)

worth-back : (n : ℕ) (w f : List ℕ) → worth n (w ++ before_zeros f) ≡ worth n (w ++ f)
worth-back n [] f = worth-before_zeros n f
worth-back n (d ∷ w) f = ap (λ v. (d - 48) * 10 ^ (n - 1) + v) (worth-back (n - 1) w f)

abbrev with_sign_of : Bool → ℕ → ℤ
with_sign_of n v = cond n (neg_ℤ (pos v)) (pos v)

value-written : (k : ℕ) (n : Bool) (w f : List ℕ) → list_all is_ascii_digit w ≡ true → value_at k (signed n (w ++ with_point f)) ≡ with_sign_of n (worth (length w + k) (w ++ f))
value-written k n w f e =
    let is : IsSigned n (w ++ with_point f) = signed_text n (w ++ with_point f) (unsigned_written w f e) in
    let of : IsSplit (w ++ with_point f) w f = split_written w f e in
    ap (λ t. with_sign_of t (magnitude_at k (magnitude (signed n (w ++ with_point f))))) is.sign
    ∙ ap (λ m. with_sign_of n (magnitude_at k m)) is.magnitude
    ∙ ap (λ x. with_sign_of n (worth (length x + k) (x ++ fraction_part (w ++ with_point f)))) of.whole
    ∙ ap (λ x. with_sign_of n (worth (length w + k) (w ++ x))) of.fraction

value-shortest : (k : ℕ) (n : Bool) (w f : List ℕ) → list_all is_ascii_digit w ≡ true → value_at k (shortest n w f) ≡ with_sign_of n (worth (length w + k) (w ++ f))
value-shortest k n w f e =
    by_digits w f
    (λ p q. ap (λ x. value_at k (shortest n x f)) p ∙ ap (λ x. value_at k (shortest n [] x)) q ∙ nothing k n ∙ sym (ap (λ x. with_sign_of n (worth (length x + k) (x ++ f))) p ∙ ap (λ x. with_sign_of n (worth (length {A = ℕ} [] + k) x)) q))
    (λ some. ap (value_at k) (shortest-some n w f some) ∙ value-written k n w f e)
  where
    nothing : (k : ℕ) (n : Bool) → value_at k (48 ∷ []) ≡ with_sign_of n 0
    nothing k true = let none : magnitude_at k (48 ∷ []) ≡ 0 = omega arith in ap pos none
    nothing k false = let none : magnitude_at k (48 ∷ []) ≡ 0 = omega arith in ap pos none

pub answers_keep_the_value : AnswersKeepTheValue
answers_keep_the_value k s e =
    let has : HasDigits (magnitude s) = has_digits (magnitude s) e in
    value-shortest k (is_negative s) (after_zeros (whole_part (magnitude s))) (before_zeros (fraction_part (magnitude s))) (after_zeros-digits (whole_part (magnitude s)) has.whole)
    ∙ ap (with_sign_of (is_negative s)) (worth-back (length (after_zeros (whole_part (magnitude s))) + k) (after_zeros (whole_part (magnitude s))) (fraction_part (magnitude s)) ∙ worth-front k (whole_part (magnitude s)) (fraction_part (magnitude s)))

length-fraction : (n : Bool) (w f : List ℕ) → list_all is_ascii_digit w ≡ true → length (fraction_part (magnitude (shortest n w f))) ≤ length f
length-fraction n w f e =
    by_digits w f
    (λ p q. omega (arith, ap (λ x. length (fraction_part (magnitude (shortest n x f)))) p ∙ ap (λ x. length (fraction_part (magnitude (shortest n [] x)))) q))
    (λ some. let is : IsSigned n (w ++ with_point f) = signed_text n (w ++ with_point f) (unsigned_written w f e) in
    let of : IsSplit (w ++ with_point f) w f = split_written w f e in
    omega (arith, ap (λ x. length (fraction_part (magnitude x))) (shortest-some n w f some) ∙ ap (λ x. length (fraction_part x)) is.magnitude ∙ ap length of.fraction))

answer_short : (k : ℕ) (s : List ℕ) → is_numeric s ≡ true → length (fraction_part (magnitude s)) ≤ k → length (fraction_part (magnitude (canonic_of s))) ≤ k
answer_short k s e short =
    let has : HasDigits (magnitude s) = has_digits (magnitude s) e in
    omega (arith, length-fraction (is_negative s) (after_zeros (whole_part (magnitude s))) (before_zeros (fraction_part (magnitude s))) (after_zeros-digits (whole_part (magnitude s)) has.whole), length-before_zeros (fraction_part (magnitude s)))

pub equal_answers : EqualLiteralsHaveEqualAnswers
equal_answers k s t is it short short' e =
    equal_values k (canonic_of s) (canonic_of t) (answers_are_canonic s is) (answers_are_canonic t it) (answer_short k s is short) (answer_short k t it short')
    (answers_keep_the_value k s is ∙ e ∙ sym (answers_keep_the_value k t it))

-- canonic texts
by_zero : {R : Type 0} (s : List ℕ) → is_canonic s ≡ true → (s ≡ 48 ∷ [] → R) → (is_magnitude (magnitude s) ≡ true → R) → R
by_zero {R = R} s is zero_text other =
    elim (is_zero s) as (λ t. is_zero s ≡ t → (t || is_magnitude (magnitude s)) ≡ true → R) [ true ↦ λ z _. zero_text (is_zero_text s z) | false ↦ λ _ m. other m ] refl is

magnitude_is_literal : (m : List ℕ) → is_magnitude m ≡ true → is_unsigned_literal m ≡ true
magnitude_is_literal m e =
    let parts : HasParts m = has_parts m e in
    ap is_unsigned_literal (split m e) ∙ is_literal-written (whole_part m) (fraction_part m) parts.digits.whole_digits (at (whole_part m) (fraction_part m) parts.digits.whole_digits parts.digits.fraction_digits parts.some)
  where
    at : (w f : List ℕ) → list_all is_ascii_digit w ≡ true → list_all is_ascii_digit f ≡ true → 0 < length w + length f → cond (not (length f == 0)) (list_all is_ascii_digit w && some_digits f) (some_digits w) ≡ true
    at w [] d g h = and_from (not (length w == 0)) (list_all is_ascii_digit w) (not_empty w (omega arith)) d
    at w (x ∷ f) d g h =
        let some : not (length (x ∷ f) == 0) ≡ true = not_empty (x ∷ f) (omega arith) in
        ap (λ t. cond t (list_all is_ascii_digit w && some_digits (x ∷ f)) (some_digits w)) some
        ∙ and_from (list_all is_ascii_digit w) (some_digits (x ∷ f)) d (and_from (not (length (x ∷ f) == 0)) (list_all is_ascii_digit (x ∷ f)) some g)

pub canonic_is_literal : CanonicTextsAreLiterals
canonic_is_literal s is = by_zero s is (λ z. ap is_numeric z) (λ m. magnitude_is_literal (magnitude s) m)

pub canonic_stays : CanonicTextsStay
canonic_stays s is =
    by_zero s is (λ z. ap canonic_of z ∙ sym z)
    (λ m. let parts : HasParts (magnitude s) = has_parts (magnitude s) m in
    ap (λ w. shortest (is_negative s) w (before_zeros (fraction_part (magnitude s)))) (after_zeros-same (whole_part (magnitude s)) parts.digits.begins)
    ∙ ap (shortest (is_negative s) (whole_part (magnitude s))) (before_zeros-same (fraction_part (magnitude s)) parts.digits.ends)
    ∙ shortest-some (is_negative s) (whole_part (magnitude s)) (fraction_part (magnitude s)) parts.some
    ∙ ap (signed (is_negative s)) (sym (split (magnitude s) m)) ∙ sym (resigned s))
