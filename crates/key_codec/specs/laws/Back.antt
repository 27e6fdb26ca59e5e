-- A key reads back as its reference.
use Rattle.std.proofs.Common.{◌≡◌, ℕ, ◌+◌, ◌-◌, ◌*◌, ◌/◌, ◌%◌, ◌≤◌, Bool, List, [], ◌∷◌, ◌++◌, length, map, not, true, false, refl, ap, sym, subst, ◌∙◌, arith, zero, suc, append_assoc, length-append}
use Rattle.std.proofs.lemmas.Bool.{and_from, not_from_false}
use Rattle.std.proofs.lemmas.Bool.Decides.{nat_tests}
use Rattle.std.specs.Prelude.{◌==◌, nat_eq, nat_lt}
use Rattle.std.specs.List.{list_all}
use Rattle.std.specs.Char.{is_ascii_digit}
use Rattle.std.specs.Cmp.{first_so, second_so}
use Rattle.canonic_number.specs.Number.{is_canonic, is_negative, scale}
use Rattle.canonic_number.specs.Place.{point_at, digits_of, written_at, signed}
use Rattle.canonic_number.specs.laws.Digits.{head_digit, tail_digits}
use Rattle.canonic_number.specs.laws.Canonic.{IsPlaced}
use Rattle.canonic_number.specs.laws.Classes.{IsOfClass, Zero, Below, Above, class_of_text}
use Rattle.collation.specs.Reference.{Reference}
use Rattle.key_codec.specs.Key.{IsFaultless, key_of, long_form, two_bytes, subscript_key, subscripts_key, text_key, escape, escaped, IsSubscriptWithin, AreSubscriptsWithin}
use Rattle.key_codec.specs.Reading.{place_word, digit_byte, digit_of, number_end}
use Rattle.key_codec.specs.laws.Bytes.{by_byte, word_back}
use Rattle.key_codec.specs.laws.Subscripts.{zero_key, key_below, key_above, key_text}
use Rattle.key_codec.specs.laws.Key.{has_tag, fits_long, name_above}
use Rattle.key_codec.specs.Back.{before_end, behind_end, unescaped, place_from, number_text_from, first_number, first_subscript_of, subscripts_up_to, reference_of}

-- the first end byte parts the bytes
pub front_back : (end : ℕ) (xs u : List ℕ) → list_all (λ b. not (nat_eq b end)) xs ≡ true → before_end end (xs ++ end ∷ u) ≡ xs
front_back end [] u e = let same : (end == end) ≡ true = grind (arith, nat_tests) in rw same refl
front_back end (x ∷ xs) u e =
    let no : not (nat_eq x end) ≡ true = first_so (not (nat_eq x end)) _ e in
    let other : (x == end) ≡ false = grind (arith, nat_tests) in
    rw other (ap (λ t. x ∷ t) (front_back end xs u (second_so (not (nat_eq x end)) _ e)))

pub rest_back : (end : ℕ) (xs u : List ℕ) → list_all (λ b. not (nat_eq b end)) xs ≡ true → behind_end end (xs ++ end ∷ u) ≡ u
rest_back end [] u e = let same : (end == end) ≡ true = grind (arith, nat_tests) in rw same refl
rest_back end (x ∷ xs) u e =
    let no : not (nat_eq x end) ≡ true = first_so (not (nat_eq x end)) _ e in
    let other : (x == end) ≡ false = grind (arith, nat_tests) in
    rw other (rest_back end xs u (second_so (not (nat_eq x end)) _ e))

-- digits and their bytes
pub digits_back : (n : Bool) (ds : List ℕ) → list_all is_ascii_digit ds ≡ true → map (digit_of n) (map (digit_byte n) ds) ≡ ds
digits_back n [] e = refl
digits_back true (d ∷ ds) e =
    let is = head_digit d ds e in
    let back : 58 - (58 - d) ≡ d = omega (arith, is.high) in
    λ i. back i ∷ digits_back true ds (tail_digits d ds e) i
digits_back false (d ∷ ds) e =
    let is = head_digit d ds e in
    let back : 57 - (10 - (d - 47)) ≡ d = omega (arith, is.low, is.high) in
    λ i. back i ∷ digits_back false ds (tail_digits d ds e) i

pub no_end : (n : Bool) (ds : List ℕ) → list_all is_ascii_digit ds ≡ true → list_all (λ b. not (nat_eq b (number_end n))) (map (digit_byte n) ds) ≡ true
no_end n [] e = refl
no_end true (d ∷ ds) e =
    let is = head_digit d ds e in
    let other : nat_eq (58 - d) 255 ≡ false = grind (arith, nat_tests, is.low) in
    and_from (not (nat_eq (58 - d) 255)) _ (not_from_false _ other) (no_end true ds (tail_digits d ds e))
no_end false (d ∷ ds) e =
    let is = head_digit d ds e in
    let other : nat_eq (d - 47) 0 ≡ false = grind (arith, nat_tests, is.low) in
    and_from (not (nat_eq (d - 47) 0)) _ (not_from_false _ other) (no_end false ds (tail_digits d ds e))

-- escaped bytes have no byte 0, and one text
pub escaped_free : (t : List ℕ) → list_all (λ b. not (nat_eq b 0)) (escaped t) ≡ true
escaped_free [] = refl
escaped_free (b ∷ t) =
    by_byte b
    (λ h. ap (λ c. list_all (λ x. not (nat_eq x 0)) (escape c ++ escaped t)) h ∙ escaped_free t)
    (λ h. ap (λ c. list_all (λ x. not (nat_eq x 0)) (escape c ++ escaped t)) h ∙ escaped_free t)
    (λ h g. let other : nat_eq b 0 ≡ false = grind (arith, nat_tests) in ap (λ c. list_all (λ x. not (nat_eq x 0)) (c ++ escaped t)) g ∙ and_from (not (nat_eq b 0)) _ (not_from_false (nat_eq b 0) other) (escaped_free t))

pub escaped_back : (t : List ℕ) → unescaped (escaped t) ≡ t
escaped_back [] = refl
escaped_back (zero ∷ t) = ap (λ r. 0 ∷ r) (escaped_back t)
escaped_back (suc zero ∷ t) = ap (λ r. 1 ∷ r) (escaped_back t)
escaped_back (suc (suc b) ∷ t) =
    by_byte (suc (suc b)) (λ h. absurd (omega arith)) (λ h. absurd (omega arith))
    (λ h e. ap (λ r. unescaped (r ++ escaped t)) e ∙ ap (λ r. suc (suc b) ∷ r) (escaped_back t))

-- a point's place and the number that stands for it
place_back : (n : Bool) (place : ℕ) → place ≤ 2 * scale + 1 → place_from n (place_word n place) ≡ place
place_back true place h = omega arith
place_back false place h = omega arith

-- a number's text, from the number that stands for its place and the bytes of its digits
number_text : (n : Bool) (s : List ℕ) → IsPlaced scale s → is_negative s ≡ n → length s ≤ scale + 1 → number_text_from n (place_word n (point_at scale s)) (map (digit_byte n) (digits_of s)) ≡ s
number_text n s placed sign short =
    let form = placed.form in
    ap (λ ds. signed n (written_at scale (place_from n (place_word n (point_at scale s))) ds)) (digits_back n (digits_of s) form.digits)
    ∙ ap (λ p. signed n (written_at scale p (digits_of s))) (place_back n (point_at scale s) (omega (arith, placed.bound)))
    ∙ ap (λ m. signed m (written_at scale (point_at scale s) (digits_of s))) (sym sign) ∙ sym placed.text

-- a number's bytes, after the first
number_back : (n : Bool) (s u : List ℕ) → IsPlaced scale s → is_negative s ≡ n → length s ≤ scale + 1 →
    first_number n (two_bytes (place_word n (point_at scale s)) ++ (map (digit_byte n) (digits_of s) ++ number_end n ∷ u)) ≡ record { subscript = s; rest = u }
number_back n s u placed sign short =
    let form = placed.form in
    let free = no_end n (digits_of s) form.digits in
    let front = front_back (number_end n) (map (digit_byte n) (digits_of s)) u free in
    let word = place_word n (point_at scale s) in
    let text = ap (number_text_from n (word / 256 * 256 + word % 256)) front ∙ ap (λ w. number_text_from n w (map (digit_byte n) (digits_of s))) (word_back word) ∙ number_text n s placed sign short in
    λ i. record { subscript = text i; rest = rest_back (number_end n) (map (digit_byte n) (digits_of s)) u free i }

by_class : (s u : List ℕ) → is_canonic s ≡ true → length s ≤ scale + 1 → IsOfClass scale s → first_subscript_of (subscript_key long_form s ++ u) ≡ record { subscript = s; rest = u }
by_class s u is short (Zero e) = ap (λ t. first_subscript_of (t ++ u)) (zero_key long_form s e) ∙ (λ i. record { subscript = sym e i; rest = u })
by_class s u is short (Below p z m) =
    ap (λ t. first_subscript_of (t ++ u)) (key_below long_form s is z m)
    ∙ ap (λ t. first_number true (two_bytes (2 * scale + 1 - point_at scale s) ++ t)) (append_assoc (map (digit_byte true) (digits_of s)) (255 ∷ []) u) ∙ number_back true s u p m short
by_class s u is short (Above p z m) =
    ap (λ t. first_subscript_of (t ++ u)) (key_above long_form s is z m)
    ∙ ap (λ t. first_number false (two_bytes (point_at scale s + 2) ++ t)) (append_assoc (map (digit_byte false) (digits_of s)) (0 ∷ []) u) ∙ number_back false s u p m short

text_back : (s u : List ℕ) → first_subscript_of (text_key s ++ u) ≡ record { subscript = s; rest = u }
text_back s u =
    ap (λ t. first_subscript_of (5 ∷ t)) (append_assoc (escaped s) (0 ∷ []) u)
    ∙ (λ i. record { subscript = (ap unescaped (front_back 0 (escaped s) u (escaped_free s)) ∙ escaped_back s) i; rest = rest_back 0 (escaped s) u (escaped_free s) i })

-- a subscript's key reads back as the subscript, and what stands after is left
pub subscript_back : (s u : List ℕ) → IsSubscriptWithin long_form s → first_subscript_of (subscript_key long_form s ++ u) ≡ record { subscript = s; rest = u }
subscript_back s u bounds =
    elim (is_canonic s) as (λ t. is_canonic s ≡ t → first_subscript_of (subscript_key long_form s ++ u) ≡ record { subscript = s; rest = u }) [
      | true ↦ λ e. by_class s u e bounds.short (class_of_text scale s e bounds.short)
      | false ↦ λ e. ap (λ t. first_subscript_of (t ++ u)) (key_text long_form s e) ∙ text_back s u
    ] refl

-- so do the keys of several, where the count is not too low
pub subscripts_back : (n : ℕ) (ss : List (List ℕ)) → AreSubscriptsWithin long_form ss → length (subscripts_key long_form ss) ≤ n → subscripts_up_to n (subscripts_key long_form ss) ≡ ss
subscripts_back zero [] a h = refl
subscripts_back (suc n) [] a h = refl
subscripts_back zero (s ∷ ss) a h = let key = has_tag long_form s in absurd (omega (arith, ap (λ t. length (t ++ subscripts_key long_form ss)) key.is))
subscripts_back (suc n) (s ∷ ss) a h =
    let key = has_tag long_form s in
    let back = subscript_back s (subscripts_key long_form ss) a.0 in
    let whole : subscript_key long_form s ++ subscripts_key long_form ss ≡ key.tag ∷ (key.rest ++ subscripts_key long_form ss) = ap (λ t. t ++ subscripts_key long_form ss) key.is in
    let first : first_subscript_of (key.tag ∷ (key.rest ++ subscripts_key long_form ss)) ≡ record { subscript = s; rest = subscripts_key long_form ss } = ap first_subscript_of (sym whole) ∙ back in
    let fewer : length (subscripts_key long_form ss) ≤ n = omega (arith, ap length whole, length-append key.rest (subscripts_key long_form ss)) in
    ap (subscripts_up_to (suc n)) whole
    ∙ ap (λ f. f.subscript ∷ subscripts_up_to n f.rest) first
    ∙ ap (λ t. s ∷ t) (subscripts_back n ss a.1 fewer)

-- a name has no byte 0
pub no_zero : (bs : List ℕ) → list_all (nat_lt 0) bs ≡ true → list_all (λ b. not (nat_eq b 0)) bs ≡ true
no_zero [] e = refl
no_zero (b ∷ bs) e =
    let low : nat_lt 0 b ≡ true = first_so _ _ e in
    let other : nat_eq b 0 ≡ false = grind (arith, nat_tests) in
    and_from (not (nat_eq b 0)) _ (not_from_false (nat_eq b 0) other) (no_zero bs (second_so (nat_lt 0 b) _ e))

-- a key reads back as its reference
pub reference_of_key : (r : Reference) → IsFaultless r → reference_of (key_of r) ≡ r
unfolding reference_of
reference_of_key r is =
    let fits = fits_long r is in
    let keys = subscripts_key long_form r.subscripts in
    let free = no_zero r.name (name_above r.name fits.name) in
    let fewer : length keys ≤ length (r.name ++ 0 ∷ keys) = omega (arith, length-append r.name (0 ∷ keys)) in
    λ i. record {
      name = front_back 0 r.name keys free i;
      subscripts = (ap (subscripts_up_to (length (r.name ++ 0 ∷ keys))) (rest_back 0 r.name keys free) ∙ subscripts_back (length (r.name ++ 0 ∷ keys)) r.subscripts fits.subscripts fewer) i;
    }

-- what is known to be a key is the key of what it reads back as
pub key_again : (bytes : List ℕ) (r : Reference) → IsFaultless r → bytes ≡ key_of r → key_of (reference_of bytes) ≡ bytes
key_again bytes r is e = ap key_of (ap reference_of e ∙ reference_of_key r is) ∙ sym e

-- and that is a reference that a `Ref` keeps
pub is_reference_again : (bytes : List ℕ) (r : Reference) → IsFaultless r → bytes ≡ key_of r → IsFaultless (reference_of bytes)
is_reference_again bytes r is e = subst IsFaultless (sym (ap reference_of e ∙ reference_of_key r is)) is
