-- What stands in front of a key's bytes: one subscript, by its parts.
use Rattle.std.proofs.Common.{◌≡◌, ℕ, ◌+◌, ◌-◌, ◌*◌, ◌/◌, ◌%◌, ◌<◌, ◌≤◌, Bool, List, [], ◌∷◌, ◌++◌, length, not, true, false, refl, ap, sym, subst, ◌∙◌, arith, zero, suc, append_assoc, append-nil, map, take, drop, get_or, length-append, length-drop, ◌↔◌}
use Rattle.std.proofs.Math.Seq.{take-append_seam, drop-append_seam}
use Rattle.std.proofs.lemmas.List.{take_all}
use Rattle.std.proofs.lemmas.List.Sums.{split_at_first, passes_at_first}
use Rattle.std.proofs.lemmas.Bool.{and_from, not_from_false, eqb-true, ltb-true, ltb-false}
use Rattle.std.proofs.lemmas.Bool.Decides.{nat_tests}
use Rattle.std.specs.Prelude.{◌==◌, cond, nat_eq, nat_le, replicate, nat_lt, Some, None}
use Rattle.std.specs.List.{list_all, position, position_or_len}
use Rattle.std.specs.Char.{is_ascii_digit}
use Rattle.std.specs.Cmp.{first_so, second_so}
use Rattle.std.specs.Cmp.Lexicographic.{slice_cmp, pointwise, bytes_decides}
use Rattle.std.specs.Ordering.{nat_cmp}
use Rattle.std.specs.FinMap.{nat_cmp-IsAntisymmetric, slice_cmp-IsAntisymmetric}
use Rattle.canonic_number.specs.Number.{is_canonic, is_zero, is_negative, scale}
use Rattle.canonic_number.specs.Place.{point_at, digits_of, written_at, pointed, signed}
use Rattle.canonic_number.specs.laws.Digits.{head_digit, tail_digits}
use Rattle.canonic_number.specs.laws.Canonic.{IsPlaced, is_zero_text}
use Rattle.canonic_number.specs.laws.Classes.{IsOfClass, Zero, Below, Above, class_of_text, AreTied, both_tied}
use Rattle.collation.specs.Reference.{Reference}
use Rattle.collation.specs.Name.{is_name}
use Rattle.collation.specs.laws.Order.{subscript_cmp-IsAntisymmetric}
use Rattle.key_codec.specs.Key.{IsFaultless, key_of, long_form, two_bytes, subscript_key, subscripts_key, below_key, above_key, text_key, escape, escaped, IsSubscriptWithin, AreSubscriptsWithin}
use Rattle.key_codec.specs.laws.Key.{long_form_is, has_tag, one_subscript, lists_cmp, FitsForm, fits_long, name_above}
use Rattle.key_codec.specs.Reading.{BeginsWithNone, tag_of, place_word, digit_byte, digit_of, number_end, IsNumberOf, IsNumberKey, IsOtherText}
use Rattle.key_codec.specs.laws.Bytes.{escape_cmp, by_byte, word_back}
use Rattle.key_codec.specs.laws.Subscripts.{zero_key, key_below, key_above, key_text, tied_lists, tied_same}
use Rattle.key_codec.specs.laws.Back.{digits_back, no_end, no_zero, escaped_free}

-- the first end byte parts the bytes in one way
pub record AreSame (xs ys u v : List ℕ) : Type 0 where
  pub front : xs ≡ ys
  pub rest : u ≡ v

pub one_split : (end : ℕ) (xs ys u v : List ℕ) → list_all (λ b. not (nat_eq b end)) xs ≡ true → list_all (λ b. not (nat_eq b end)) ys ≡ true → xs ++ end ∷ u ≡ ys ++ end ∷ v → AreSame xs ys u v
one_split end [] [] u v p q e = record { front = refl; rest = cc }
one_split end [] (y ∷ ys) u v p q e = let same : end ≡ y = cc in let no : not (nat_eq y end) ≡ true = first_so (not (nat_eq y end)) _ q in absurd (grind (arith, nat_tests))
one_split end (x ∷ xs) [] u v p q e = let same : x ≡ end = cc in let no : not (nat_eq x end) ≡ true = first_so (not (nat_eq x end)) _ p in absurd (grind (arith, nat_tests))
one_split end (x ∷ xs) (y ∷ ys) u v p q e =
    let same : x ≡ y = cc in
    let tails : xs ++ end ∷ u ≡ ys ++ end ∷ v = cc in
    let rest : AreSame xs ys u v = one_split end xs ys u v (second_so (not (nat_eq x end)) _ p) (second_so (not (nat_eq y end)) _ q) tails in
    record { front = (λ i. same i ∷ rest.front i); rest = rest.rest }

-- digits' bytes and their digits
pub bytes_back : (n : Bool) (bs : List ℕ) → list_all (λ b. nat_le b 10) bs ≡ true → map (digit_byte n) (map (digit_of n) bs) ≡ bs
bytes_back n [] e = refl
bytes_back true (b ∷ bs) e =
    let low : nat_le b 10 ≡ true = first_so _ _ e in
    let small : b ≤ 10 = grind (arith, nat_tests) in
    let back : 58 - (58 - b) ≡ b = omega arith in
    λ i. back i ∷ bytes_back true bs (second_so (nat_le b 10) _ e) i
bytes_back false (b ∷ bs) e =
    let low : nat_le b 10 ≡ true = first_so _ _ e in
    let small : b ≤ 10 = grind (arith, nat_tests) in
    let back : 57 - (10 - b) - 47 ≡ b = omega arith in
    λ i. back i ∷ bytes_back false bs (second_so (nat_le b 10) _ e) i

pub digit_bytes : (n : Bool) (ds : List ℕ) → list_all is_ascii_digit ds ≡ true → list_all (λ b. nat_le b 10) (map (digit_byte n) ds) ≡ true
digit_bytes n [] e = refl
digit_bytes true (d ∷ ds) e = let is = head_digit d ds e in and_from (nat_le (58 - d) 10) _ (grind (arith, nat_tests, is.low)) (digit_bytes true ds (tail_digits d ds e))
digit_bytes false (d ∷ ds) e = let is = head_digit d ds e in and_from (nat_le (d - 47) 10) _ (grind (arith, nat_tests, is.high)) (digit_bytes false ds (tail_digits d ds e))

-- the key of a number with these parts
number_not_zero : (s : List ℕ) (n : Bool) (place : ℕ) (ds : List ℕ) → IsNumberOf s n place ds → is_zero s ≡ false
number_not_zero s n place ds is =
    elim (is_zero s) as (λ t. is_zero s ≡ t → t ≡ false) [
      | true ↦ λ e. let none : ds ≡ [] = is.digits ∙ ap digits_of (is_zero_text s e) in absurd (omega (arith, is.some, ap length none))
      | false ↦ λ e. refl
    ] refl

pub number_key_is : (s : List ℕ) (n : Bool) (place : ℕ) (ds : List ℕ) → IsNumberOf s n place ds → subscript_key long_form s ≡ tag_of n ∷ (two_bytes (place_word n place) ++ (map (digit_byte n) ds ++ number_end n ∷ []))
number_key_is s true place ds is =
    key_below long_form s is.canonic (number_not_zero s true place ds is) (sym is.sign)
    ∙ ap (λ p. 2 ∷ (two_bytes (2 * scale + 1 - p) ++ (map (digit_byte true) (digits_of s) ++ 255 ∷ []))) (sym is.point) ∙ ap (λ t. 2 ∷ (two_bytes (2 * scale + 1 - place) ++ (map (digit_byte true) t ++ 255 ∷ []))) (sym is.digits)
number_key_is s false place ds is =
    key_above long_form s is.canonic (number_not_zero s false place ds is) (sym is.sign)
    ∙ ap (λ p. 4 ∷ (two_bytes (p + 2) ++ (map (digit_byte false) (digits_of s) ++ 0 ∷ []))) (sym is.point) ∙ ap (λ t. 4 ∷ (two_bytes (place + 2) ++ (map (digit_byte false) t ++ 0 ∷ []))) (sym is.digits)

pub filled : (s : List ℕ) → is_canonic s ≡ true → 0 < length s
filled [] e = cc
filled (c ∷ s) e = omega arith

pub found_number : (n : Bool) (word place : ℕ) (front ds s : List ℕ) → IsNumberOf s n place ds → place_word n place ≡ word → list_all (λ b. nat_le b 10) front ≡ true → ds ≡ map (digit_of n) front → IsNumberKey n word front s
found_number n word place front ds s is p low d = (
  record { some = filled s is.canonic; short = is.short },
  number_key_is s n place ds is ∙ (λ i. tag_of n ∷ (two_bytes (p i) ++ ((ap (map (digit_byte n)) d ∙ bytes_back n front low) i ++ number_end n ∷ []))),
)

-- where a number's key stands in front, its parts
pub record HasNumber (n : Bool) (bytes s u : List ℕ) : Type 0 where
  pub canonic : is_canonic s ≡ true
  pub placed : IsPlaced scale s
  pub sign : is_negative s ≡ n
  pub behind : bytes ≡ two_bytes (place_word n (point_at scale s)) ++ (map (digit_byte n) (digits_of s) ++ number_end n ∷ u)

-- a list has one first element
pub tails : (a b : ℕ) (xs ys : List ℕ) → a ∷ xs ≡ b ∷ ys → xs ≡ ys
tails a b xs ys e = cc

heads : (a b : ℕ) (xs ys : List ℕ) → a ∷ xs ≡ b ∷ ys → a ≡ b
heads a b xs ys e = cc

-- two bytes in front are those of one number
pub one_word : (v w : ℕ) (xs ys : List ℕ) → two_bytes v ++ xs ≡ two_bytes w ++ ys → v ≡ w
one_word v w xs ys e =
    let high : v / 256 ≡ w / 256 = heads _ _ _ _ e in
    let low : v % 256 ≡ w % 256 = heads _ _ _ _ (tails _ _ _ _ e) in
    sym (word_back v) ∙ (λ i. high i * 256 + low i) ∙ word_back w

pub word_rest : (v w : ℕ) (xs ys : List ℕ) → two_bytes v ++ xs ≡ two_bytes w ++ ys → xs ≡ ys
word_rest v w xs ys e = tails _ _ _ _ (tails _ _ _ _ e)

number_at : (n : Bool) (bytes s u : List ℕ) → is_canonic s ≡ true → IsOfClass scale s → tag_of n ∷ bytes ≡ subscript_key long_form s ++ u → HasNumber n bytes s u
number_at true bytes s u is (Zero e) h = let f : 2 ∷ bytes ≡ 3 ∷ u = h ∙ ap (λ t. t ++ u) (zero_key long_form s e) in cc
number_at false bytes s u is (Zero e) h = let f : 4 ∷ bytes ≡ 3 ∷ u = h ∙ ap (λ t. t ++ u) (zero_key long_form s e) in cc
number_at true bytes s u is (Above p z m) h = let f : 2 ∷ bytes ≡ above_key long_form (point_at scale s) (digits_of s) ++ u = h ∙ ap (λ t. t ++ u) (key_above long_form s is z m) in cc
number_at false bytes s u is (Below p z m) h = let f : 4 ∷ bytes ≡ below_key long_form (point_at scale s) (digits_of s) ++ u = h ∙ ap (λ t. t ++ u) (key_below long_form s is z m) in cc
number_at true bytes s u is (Below p z m) h = record {
  canonic = is;
  placed = p;
  sign = m;
  behind = tails _ _ _ _ (h ∙ ap (λ t. t ++ u) (key_below long_form s is z m)) ∙ ap (λ t. two_bytes (2 * scale + 1 - point_at scale s) ++ t) (append_assoc (map (digit_byte true) (digits_of s)) (255 ∷ []) u);
}
number_at false bytes s u is (Above p z m) h = record {
  canonic = is;
  placed = p;
  sign = m;
  behind = tails _ _ _ _ (h ∙ ap (λ t. t ++ u) (key_above long_form s is z m)) ∙ ap (λ t. two_bytes (point_at scale s + 2) ++ t) (append_assoc (map (digit_byte false) (digits_of s)) (0 ∷ []) u);
}

pub has_number : (n : Bool) (bytes s u : List ℕ) → IsSubscriptWithin long_form s → tag_of n ∷ bytes ≡ subscript_key long_form s ++ u → HasNumber n bytes s u
has_number n bytes s u bounds h =
    elim (is_canonic s) as (λ t. is_canonic s ≡ t → HasNumber n bytes s u) [
      | true ↦ λ e. number_at n bytes s u e (class_of_text scale s e bounds.short) h
      | false ↦ λ e. absurd (no_text n (h ∙ ap (λ t. t ++ u) (key_text long_form s e)))
    ] refl
  where
    no_text : (n : Bool) → tag_of n ∷ bytes ≡ text_key s ++ u → ⊥
    no_text true e = cc
    no_text false e = cc

-- its place and digits are its own
pub number_of_itself : (n : Bool) (bytes s u : List ℕ) → IsSubscriptWithin long_form s → HasNumber n bytes s u → IsNumberOf s n (point_at scale s) (digits_of s)
number_of_itself n bytes s u bounds has =
    let form = has.placed.form in
    record { canonic = has.canonic; short = bounds.short; some = form.some; sign = sym has.sign; point = refl; digits = refl }

-- one place has one number that stands for it
pub one_place : (n : Bool) (p q : ℕ) → p ≤ 2 * scale + 1 → q ≤ 2 * scale + 1 → place_word n p ≡ place_word n q → p ≡ q
one_place true p q h k e = omega arith
one_place false p q h k e = omega arith

-- the parts of a number's key
pub record HasKeyParts (n : Bool) (word : ℕ) (front s : List ℕ) : Type 0 where
  pub number : HasNumber n (two_bytes word ++ (front ++ number_end n ∷ [])) s []
  pub point : word ≡ place_word n (point_at scale s)
  pub digits : front ≡ map (digit_byte n) (digits_of s)
  pub above : 0 < point_at scale s
  pub within : point_at scale s ≤ 2 * scale + 1

pub key_parts : (n : Bool) (word : ℕ) (front s : List ℕ) → list_all (λ b. not (nat_eq b (number_end n))) front ≡ true → IsNumberKey n word front s → HasKeyParts n word front s
key_parts n word front s free is =
    let has : HasNumber n (two_bytes word ++ (front ++ number_end n ∷ [])) s [] = has_number n (two_bytes word ++ (front ++ number_end n ∷ [])) s [] is.0 (sym is.1 ∙ sym (append-nil (subscript_key long_form s))) in
    let form = has.placed.form in
    let bounds = is.0 in
    let parted : AreSame front (map (digit_byte n) (digits_of s)) [] [] = one_split (number_end n) front (map (digit_byte n) (digits_of s)) [] [] free (no_end n (digits_of s) form.digits) (word_rest word (place_word n (point_at scale s)) _ _ has.behind) in
    record { number = has; point = one_word word (place_word n (point_at scale s)) _ _ has.behind; digits = parted.front; above = omega (arith, form.some, form.within); within = omega (arith, has.placed.bound, bounds.short) }

-- what is read of a number's key is that number
pub read_back : (n : Bool) (word place : ℕ) (front ds text s : List ℕ) → list_all (λ b. not (nat_eq b (number_end n))) front ≡ true → IsNumberKey n word front s → place_word n place ≡ word → place ≤ 2 * scale + 1 → ds ≡ map (digit_of n) front → text ≡ signed n (written_at scale place ds) → IsNumberOf text n place ds
read_back n word place front ds text s free is p within d t =
    let has : HasKeyParts n word front s = key_parts n word front s free is in
    let number : HasNumber n (two_bytes word ++ (front ++ number_end n ∷ [])) s [] = has.number in
    let form = number.placed.form in
    let place_same : place ≡ point_at scale s = one_place n place (point_at scale s) within has.within (p ∙ has.point) in
    let digits_same : ds ≡ digits_of s = d ∙ ap (map (digit_of n)) has.digits ∙ digits_back n (digits_of s) form.digits in
    let text_same : text ≡ s = t ∙ ap (λ q. signed n (written_at scale q ds)) place_same ∙ ap (λ x. signed n (written_at scale (point_at scale s) x)) digits_same ∙ ap (λ m. signed m (written_at scale (point_at scale s) (digits_of s))) (sym number.sign) ∙ sym number.placed.text in
    let own : IsNumberOf s n (point_at scale s) (digits_of s) = number_of_itself n (two_bytes word ++ (front ++ number_end n ∷ [])) s [] is.0 number in
    subst (λ x. IsNumberOf x n place ds) (sym text_same) (subst (λ q. IsNumberOf s n q ds) (sym place_same) (subst (λ x. IsNumberOf s n (point_at scale s) x) (sym digits_same) own))

pub key_in_front : (n : Bool) (word : ℕ) (bytes behind front rest s u : List ℕ) → IsSubscriptWithin long_form s → tag_of n ∷ bytes ≡ subscript_key long_form s ++ u → bytes ≡ two_bytes word ++ behind → behind ≡ front ++ number_end n ∷ rest → list_all (λ b. not (nat_eq b (number_end n))) front ≡ true → IsNumberKey n word front s
key_in_front n word bytes behind front rest s u bounds h e b free =
    let has : HasNumber n bytes s u = has_number n bytes s u bounds h in
    let form = has.placed.form in
    let both : two_bytes word ++ (front ++ number_end n ∷ rest) ≡ two_bytes (place_word n (point_at scale s)) ++ (map (digit_byte n) (digits_of s) ++ number_end n ∷ u) = (λ i. two_bytes word ++ sym b i) ∙ sym e ∙ has.behind in
    let parted : AreSame front (map (digit_byte n) (digits_of s)) rest u = one_split (number_end n) front (map (digit_byte n) (digits_of s)) rest u free (no_end n (digits_of s) form.digits) (word_rest word (place_word n (point_at scale s)) _ _ both) in
    let first : word ≡ place_word n (point_at scale s) = one_word word (place_word n (point_at scale s)) _ _ both in
    (bounds, number_key_is s n (point_at scale s) (digits_of s) (number_of_itself n bytes s u bounds has) ∙ (λ i. tag_of n ∷ (two_bytes (sym first i) ++ (sym parted.front i ++ number_end n ∷ []))))

pub has_end : (n : Bool) (word : ℕ) (bytes behind s u : List ℕ) → IsSubscriptWithin long_form s → tag_of n ∷ bytes ≡ subscript_key long_form s ++ u → bytes ≡ two_bytes word ++ behind → ((xs v : List ℕ) → behind ≡ xs ++ number_end n ∷ v → ⊥) → ⊥
has_end n word bytes behind s u bounds h e none =
    let has : HasNumber n bytes s u = has_number n bytes s u bounds h in none (map (digit_byte n) (digits_of s)) u (word_rest word (place_word n (point_at scale s)) _ _ (sym e ∙ has.behind))

-- the two bytes of its place are there
pub has_word : (n : Bool) (bytes s u : List ℕ) → IsSubscriptWithin long_form s → tag_of n ∷ bytes ≡ subscript_key long_form s ++ u → length bytes < 2 → ⊥
has_word n bytes s u bounds h few =
    let has : HasNumber n bytes s u = has_number n bytes s u bounds h in
    omega (arith, ap length has.behind)

-- the parts round the first end byte
test_not : (b end : ℕ) → nat_eq b end ≡ false → not (nat_eq b end) ≡ true
test_not b end e = not_from_false (nat_eq b end) e

same_byte : (b : ℕ) → nat_eq b b ≡ true
same_byte b = grind (arith, nat_tests)

front_free : (end : ℕ) (bs : List ℕ) → list_all (λ b. not (nat_eq b end)) (take (position_or_len (λ b. nat_eq b end) bs) bs) ≡ true
front_free end [] = refl
front_free end (b ∷ bs) =
    elim (nat_eq b end) as (λ t. nat_eq b end ≡ t → list_all (λ c. not (nat_eq c end)) (take (cond (not t) (1 + position_or_len (λ c. nat_eq c end) bs) 0) (b ∷ bs)) ≡ true) [
      | true ↦ λ e. refl
      | false ↦ λ e. let next : 1 + position_or_len (λ c. nat_eq c end) bs ≡ suc (position_or_len (λ c. nat_eq c end) bs) = omega arith in
          ap (λ n. list_all (λ c. not (nat_eq c end)) (take n (b ∷ bs))) next ∙ and_from (not (nat_eq b end)) _ (test_not b end e) (front_free end bs)
    ] refl

end_reached : (end : ℕ) (xs u : List ℕ) → position_or_len (λ b. nat_eq b end) (xs ++ end ∷ u) ≤ length xs
end_reached end [] u = rw (same_byte end) (omega arith)
end_reached end (x ∷ xs) u =
    elim (nat_eq x end) as (λ t. cond (not t) (1 + position_or_len (λ b. nat_eq b end) (xs ++ end ∷ u)) 0 ≤ length (x ∷ xs)) [ true ↦ omega arith | false ↦ omega (arith, end_reached end xs u) ]

pub record IsParted (end index : ℕ) (bytes : List ℕ) : Type 0 where
  pub free : list_all (λ b. not (nat_eq b end)) (take index bytes) ≡ true
  pub parts : bytes ≡ take index bytes ++ end ∷ take (length bytes - (index + 1)) (drop (index + 1) bytes)

parted_at : (end : ℕ) (bytes : List ℕ) → position_or_len (λ b. nat_eq b end) bytes < length bytes → IsParted end (position_or_len (λ b. nat_eq b end) bytes) bytes
parted_at end bytes h =
    let at : get_or bytes (position_or_len (λ b. nat_eq b end) bytes) 0 ≡ end = eqb-true _ end (passes_at_first (λ b. nat_eq b end) bytes 0 h) in
    let rest : drop (position_or_len (λ b. nat_eq b end) bytes + 1) bytes ≡ take (length bytes - (position_or_len (λ b. nat_eq b end) bytes + 1)) (drop (position_or_len (λ b. nat_eq b end) bytes + 1) bytes) =
    sym (take_all (length bytes - (position_or_len (λ b. nat_eq b end) bytes + 1)) (drop (position_or_len (λ b. nat_eq b end) bytes + 1) bytes) (omega (arith, length-drop (position_or_len (λ b. nat_eq b end) bytes + 1) bytes))) in
    record {
      free = front_free end bytes;
      parts = split_at_first (λ b. nat_eq b end) bytes 0 h ∙ (λ i. take (position_or_len (λ b. nat_eq b end) bytes) bytes ++ (at i ∷ rest i));
    }

pub split_some : (end index : ℕ) (bytes : List ℕ) → Some index ≡ position (λ b. nat_eq b end) bytes → IsParted end index bytes
split_some end index bytes e = at (nat_lt (position_or_len (λ b. nat_eq b end) bytes) (length bytes)) refl e
  where
    at : (t : Bool) → nat_lt (position_or_len (λ b. nat_eq b end) bytes) (length bytes) ≡ t → Some index ≡ cond t (Some (position_or_len (λ b. nat_eq b end) bytes)) None → IsParted end index bytes
    at true h e = let same : index ≡ position_or_len (λ b. nat_eq b end) bytes = cc in subst (λ i. IsParted end i bytes) (sym same) (parted_at end bytes (ltb-true _ _ h))
    at false h e = cc

pub split_none : (end : ℕ) (bytes xs u : List ℕ) → None ≡ position (λ b. nat_eq b end) bytes → bytes ≡ xs ++ end ∷ u → ⊥
split_none end bytes xs u i e = at (nat_lt (position_or_len (λ b. nat_eq b end) bytes) (length bytes)) refl i
  where
    at : (t : Bool) → nat_lt (position_or_len (λ b. nat_eq b end) bytes) (length bytes) ≡ t → None ≡ cond t (Some (position_or_len (λ b. nat_eq b end) bytes)) None → ⊥
    at true h i = cc
    at false h i =
        let past : length bytes ≤ position_or_len (λ b. nat_eq b end) bytes = ltb-false _ _ h in
        let reached : position_or_len (λ b. nat_eq b end) bytes ≤ length xs = subst (λ bs. position_or_len (λ b. nat_eq b end) bs ≤ length xs) (sym e) (end_reached end xs u) in
        omega (arith, ap length e, length-append xs (end ∷ u))

-- the text of a number
pub pointed_short : (n : ℕ) (ds : List ℕ) → length ds ≤ n → pointed n ds ≡ ds ++ replicate (n - length ds) 48
pointed_short zero [] h = refl
pointed_short zero (d ∷ ds) h = absurd (omega arith)
pointed_short (suc n) [] h =
    let rest : pointed n [] ≡ replicate (n - length {A = ℕ} []) 48 = pointed_short n [] (omega arith) in
    let count : suc (n - length {A = ℕ} []) ≡ suc n - length {A = ℕ} [] = omega arith in
    (λ i. 48 ∷ rest i) ∙ ap (λ k. replicate k 48) count
pointed_short (suc n) (d ∷ ds) h =
    let rest : pointed n ds ≡ ds ++ replicate (n - length ds) 48 = pointed_short n ds (omega arith) in
    let count : n - length ds ≡ suc n - length (d ∷ ds) = omega arith in
    (λ i. d ∷ rest i) ∙ ap (λ k. d ∷ ds ++ replicate k 48) count

pub pointed_long : (n : ℕ) (ds : List ℕ) → n < length ds → pointed n ds ≡ take n ds ++ 46 ∷ drop n ds
pointed_long zero [] h = absurd (omega arith)
pointed_long zero (d ∷ ds) h = refl
pointed_long (suc n) [] h = absurd (omega arith)
pointed_long (suc n) (d ∷ ds) h = ap (λ t. d ∷ t) (pointed_long n ds (omega arith))

-- escaped bytes are those of one text
one_escape : (x y : ℕ) (u v : List ℕ) → escape x ++ u ≡ escape y ++ v → (x ≡ y) × (u ≡ v)
one_escape x y u v e =
    let ties : AreTied (nat_cmp x y) (slice_cmp nat_cmp u v) = both_tied (nat_cmp x y) (slice_cmp nat_cmp u v) (sym (escape_cmp x y u v) ∙ tied_same _ _ e) in
    (nat_cmp-IsAntisymmetric x y ties.first, tied_lists u v ties.second)

some_escape : (x : ℕ) (u : List ℕ) → [] ≡ escape x ++ u → ⊥
some_escape x u e = by_byte x (λ h. let f : [] ≡ escape 0 ++ u = e ∙ ap (λ b. escape b ++ u) h in cc) (λ h. let f : [] ≡ escape 1 ++ u = e ∙ ap (λ b. escape b ++ u) h in cc) (λ h g. let f : [] ≡ (x ∷ []) ++ u = e ∙ ap (λ b. b ++ u) g in cc)

-- what is left of escaped bytes is that of the rest of the text
pub record GoesOnWith (read rest t : List ℕ) : Type 0 where
  pub more : List ℕ
  pub text : t ≡ read ++ more
  pub left : rest ≡ escaped more

pub left_of : (read rest t : List ℕ) → escaped read ++ rest ≡ escaped t → GoesOnWith read rest t
left_of [] rest t e = record { more = t; text = refl; left = e }
left_of (x ∷ read) rest [] e = absurd (some_escape x (escaped read ++ rest) (sym e ∙ append_assoc (escape x) (escaped read) rest))
left_of (x ∷ read) rest (y ∷ t) e =
    let one = one_escape x y (escaped read ++ rest) (escaped t) (sym (append_assoc (escape x) (escaped read) rest) ∙ e) in
    let on : GoesOnWith read rest t = left_of read rest t one.1 in
    record { more = on.more; text = (λ i. sym one.0 i ∷ on.text i); left = on.left }

pub escaped-push : (t : List ℕ) (b : ℕ) → escaped (t ++ b ∷ []) ≡ escaped t ++ escape b
escaped-push [] b = append-nil (escape b)
escaped-push (x ∷ t) b = ap (λ r. escape x ++ r) (escaped-push t b) ∙ sym (append_assoc (escape x) (escaped t) (escape b))

-- where a text's key stands in front, its bytes
pub record HasText (bytes s u : List ℕ) : Type 0 where
  pub other : is_canonic s ≡ false
  pub behind : bytes ≡ escaped s ++ 0 ∷ u

no_number : (s : List ℕ) (bytes u : List ℕ) → is_canonic s ≡ true → IsOfClass scale s → 5 ∷ bytes ≡ subscript_key long_form s ++ u → ⊥
no_number s bytes u is (Zero e) h = let f : 5 ∷ bytes ≡ 3 ∷ u = h ∙ ap (λ t. t ++ u) (zero_key long_form s e) in cc
no_number s bytes u is (Below p z m) h = let f : 5 ∷ bytes ≡ below_key long_form (point_at scale s) (digits_of s) ++ u = h ∙ ap (λ t. t ++ u) (key_below long_form s is z m) in cc
no_number s bytes u is (Above p z m) h = let f : 5 ∷ bytes ≡ above_key long_form (point_at scale s) (digits_of s) ++ u = h ∙ ap (λ t. t ++ u) (key_above long_form s is z m) in cc

pub has_text : (bytes s u : List ℕ) → IsSubscriptWithin long_form s → 5 ∷ bytes ≡ subscript_key long_form s ++ u → HasText bytes s u
has_text bytes s u bounds h =
    elim (is_canonic s) as (λ t. is_canonic s ≡ t → HasText bytes s u) [
      | true ↦ λ e. absurd (no_number s bytes u e (class_of_text scale s e bounds.short) h)
      | false ↦ λ e. record { other = e; behind = tails _ _ _ _ (h ∙ ap (λ t. t ++ u) (key_text long_form s e)) ∙ append_assoc (escaped s) (0 ∷ []) u }
    ] refl

-- two lists of subscripts whose keys begin alike
pub record GoesOnAfter (found : List (List ℕ)) (rest : List ℕ) (ss : List (List ℕ)) : Type 0 where
  pub more : List (List ℕ)
  pub all : ss ≡ found ++ more
  pub bounds : AreSubscriptsWithin long_form more
  pub left : rest ≡ subscripts_key long_form more

pub left_after : (found : List (List ℕ)) (rest : List ℕ) (ss : List (List ℕ)) → AreSubscriptsWithin long_form found → AreSubscriptsWithin long_form ss → subscripts_key long_form found ++ rest ≡ subscripts_key long_form ss → GoesOnAfter found rest ss
left_after [] rest ss p q e = record { more = ss; all = refl; bounds = q; left = e }
left_after (f ∷ found) rest [] p q e =
    let key = has_tag long_form f in
    let none : ((key.tag ∷ key.rest) ++ subscripts_key long_form found) ++ rest ≡ [] = ap (λ t. (t ++ subscripts_key long_form found) ++ rest) (sym key.is) ∙ e in cc
left_after (f ∷ found) rest (s ∷ ss) p q e =
    let one = one_subscript long_form long_form_is f s (subscripts_key long_form found ++ rest) (subscripts_key long_form ss) p.0 q.0 (sym (append_assoc (subscript_key long_form f) (subscripts_key long_form found) rest) ∙ e) in
    let on : GoesOnAfter found rest ss = left_after found rest ss p.1 q.1 one.1 in
    record { more = on.more; all = (λ i. sym one.0 i ∷ on.all i); bounds = on.bounds; left = on.left }

pub are_more : (found : List (List ℕ)) (s : List ℕ) → AreSubscriptsWithin long_form found → IsSubscriptWithin long_form s → AreSubscriptsWithin long_form (found ++ s ∷ [])
are_more [] s a is = (is, tt)
are_more (f ∷ found) s a is = (a.0, are_more found s a.1 is)

pub keys-push : (found : List (List ℕ)) (s : List ℕ) → subscripts_key long_form (found ++ s ∷ []) ≡ subscripts_key long_form found ++ subscript_key long_form s
keys-push [] s = append-nil (subscript_key long_form s)
keys-push (f ∷ found) s = ap (λ t. subscript_key long_form f ++ t) (keys-push found s) ∙ sym (append_assoc (subscript_key long_form f) (subscripts_key long_form found) (subscript_key long_form s))

-- two parts are the whole
pub joined_test : (all first second rest : List ℕ) (r : Bool) → all ≡ first ++ rest → rest ≡ drop (length first) all → r ≡ pointwise nat_eq rest second → (r ≡ true) ↔ (all ≡ first ++ second)
joined_test all first second rest r e d t = (
  λ h. e ∙ ap (λ x. first ++ x) ((bytes_decides rest second).0 (sym t ∙ h)),
  λ h. t ∙ (bytes_decides rest second).1 (d ∙ ap (drop (length first)) h ∙ drop-append_seam first second),
)

pub other_front : (all first second front : List ℕ) (r : Bool) → front ≡ take (length first) all → r ≡ pointwise nat_eq front first → r ≡ false → (r ≡ true) ↔ (all ≡ first ++ second)
other_front all first second front r d t n = (λ h. let f : false ≡ true = sym n ∙ h in cc, λ h. t ∙ (bytes_decides front first).1 (d ∙ ap (take (length first)) h ∙ take-append_seam first second))

-- where bytes are left, an escape stands next
pub next_left : (rest t : List ℕ) → (length rest == 0) ≡ false → rest ≡ escaped t → ((b : ℕ) (u : List ℕ) → rest ≡ escape b ++ u → ⊥) → ⊥
next_left rest [] h e none = let n : length rest ≡ 0 = ap length e in absurd (grind (arith, nat_tests))
next_left rest (b ∷ t) h e none = none b (escaped t) e

pub read_more : (text rest more bytes : List ℕ) (b : ℕ) → escaped text ++ rest ≡ bytes → rest ≡ escape b ++ more → escaped (text ++ b ∷ []) ++ more ≡ bytes
read_more text rest more bytes b i e = ap (λ t. t ++ more) (escaped-push text b) ∙ append_assoc (escaped text) (escape b) more ∙ ap (λ t. escaped text ++ t) (sym e) ∙ i

-- the text of escaped bytes is the subscript whose key stands in front
pub text_in_front : (bytes front rest s u : List ℕ) → IsSubscriptWithin long_form s → 5 ∷ bytes ≡ subscript_key long_form s ++ u → list_all (λ b. not (nat_eq b 0)) front ≡ true → bytes ≡ front ++ 0 ∷ rest → front ≡ escaped s
text_in_front bytes front rest s u bounds h free e =
    let has : HasText bytes s u = has_text bytes s u bounds h in
    let parted : AreSame front (escaped s) rest u = one_split 0 front (escaped s) rest u free (escaped_free s) (sym e ∙ has.behind) in
    parted.front

pub one_text : (s t : List ℕ) → escaped s ≡ escaped t → s ≡ t
one_text s t e =
    let on : GoesOnWith s [] t = left_of s [] t (append-nil (escaped s) ∙ e) in
    at on.more on.text on.left
  where
    at : (more : List ℕ) → t ≡ s ++ more → [] ≡ escaped more → s ≡ t
    at [] f g = sym (f ∙ append-nil s)
    at (b ∷ more) f g = absurd (some_escape b (escaped more) g)

pub is_other : (bytes front rest text s u : List ℕ) → IsSubscriptWithin long_form s → 5 ∷ bytes ≡ subscript_key long_form s ++ u → list_all (λ b. not (nat_eq b 0)) front ≡ true → bytes ≡ front ++ 0 ∷ rest → escaped text ≡ front → IsOtherText text
is_other bytes front rest text s u bounds h free e t =
    let same : s ≡ text = one_text s text (sym (text_in_front bytes front rest s u bounds h free e) ∙ sym t) in
    let has : HasText bytes s u = has_text bytes s u bounds h in
    subst IsOtherText same (record { bounds = bounds; other = has.other })

-- a next subscript stands in what is left of the keys
pub next_key : (found : List (List ℕ)) (rest bytes : List ℕ) (ss : List (List ℕ)) → AreSubscriptsWithin long_form found → bytes ≡ subscripts_key long_form found ++ rest → (length rest == 0) ≡ false → BeginsWithNone rest → AreSubscriptsWithin long_form ss → bytes ≡ subscripts_key long_form ss → ⊥
next_key found rest bytes ss a i full none b e =
    let on : GoesOnAfter found rest ss = left_after found rest ss a b (sym i ∙ e) in
    at on.more on.bounds on.left
  where
    at : (more : List (List ℕ)) → AreSubscriptsWithin long_form more → rest ≡ subscripts_key long_form more → ⊥
    at [] c f = let n : length rest ≡ 0 = ap length f in absurd (grind (arith, nat_tests))
    at (s ∷ more) c f = none s (subscripts_key long_form more) c.0 f

pub shorter : (rest more s : List ℕ) → rest ≡ subscript_key long_form s ++ more → length more < length rest
shorter rest more s e = let key = has_tag long_form s in omega (arith, ap length (e ∙ ap (λ t. t ++ more) key.is), length-append key.rest more)

pub one_more : (found : List (List ℕ)) (rest more bytes s : List ℕ) → bytes ≡ subscripts_key long_form found ++ rest → rest ≡ subscript_key long_form s ++ more → bytes ≡ subscripts_key long_form (found ++ s ∷ []) ++ more
one_more found rest more bytes s i e = i ∙ ap (λ t. subscripts_key long_form found ++ t) e ∙ sym (append_assoc (subscripts_key long_form found) (subscript_key long_form s) more) ∙ ap (λ t. t ++ more) (sym (keys-push found s))

pub same_subscripts : (a b : List (List ℕ)) → AreSubscriptsWithin long_form a → AreSubscriptsWithin long_form b → subscripts_key long_form a ≡ subscripts_key long_form b → a ≡ b
same_subscripts a b p q e = slice_cmp-IsAntisymmetric subscript_cmp-IsAntisymmetric a b (sym (lists_cmp long_form long_form_is a b p q) ∙ tied_same _ _ e)

-- the name and the subscripts of a key
pub record HasReference (front rest : List ℕ) (x : Reference) : Type 0 where
  pub name : front ≡ x.name
  pub is_name : is_name front ≡ true
  pub subscripts : AreSubscriptsWithin long_form x.subscripts
  pub keys : rest ≡ subscripts_key long_form x.subscripts

pub has_reference : (bytes front rest : List ℕ) (x : Reference) → IsFaultless x → bytes ≡ front ++ 0 ∷ rest → list_all (λ b. not (nat_eq b 0)) front ≡ true → bytes ≡ key_of x → HasReference front rest x
has_reference bytes front rest x is b free e =
    let fits : FitsForm long_form x = fits_long x is in
    let parted : AreSame front x.name rest (subscripts_key long_form x.subscripts) = one_split 0 front x.name rest (subscripts_key long_form x.subscripts) free (no_zero x.name (name_above x.name is.name)) (sym b ∙ e) in
    record { name = parted.front; is_name = ap is_name parted.front ∙ is.name; subscripts = fits.subscripts; keys = parted.rest }
