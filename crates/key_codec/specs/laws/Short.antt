-- Old keys: their order, and that the bytes that stand for one are the key of its reference.
use Rattle.std.proofs.Common.{◌≡◌, ℕ, ◌+◌, ◌-◌, ◌*◌, ◌/◌, ◌%◌, ◌≤◌, List, [], ◌∷◌, ◌++◌, length, map, not, true, false, refl, ap, sym, subst, ◌∙◌, arith, append_assoc}
use Rattle.std.proofs.lemmas.Bool.Decides.{nat_tests}
use Rattle.std.specs.Prelude.{◌==◌, nat_eq, nat_le, None}
use Rattle.std.specs.List.{list_all}
use Rattle.std.specs.Cmp.{first_so, second_so}
use Rattle.std.specs.Cmp.Lexicographic.{slice_cmp}
use Rattle.std.specs.Ordering.{nat_cmp, int_cmp, ordering_then}
use Rattle.canonic_number.specs.Number.{is_canonic, is_zero, value_at, scale}
use Rattle.canonic_number.specs.Place.{point_at, digits_of}
use Rattle.canonic_number.specs.laws.Canonic.{IsPlaced, is_placed, fraction_short}
use Rattle.canonic_number.specs.laws.Classes.{IsOfClass, Zero, Below, Above, class_of_text, zero_zero, zero_below, zero_above, below_zero, above_zero, below_above, above_below, above_cmp, below_cmp}
use Rattle.collation.specs.Reference.{Reference}
use Rattle.collation.specs.Order.{ref_cmp}
use Rattle.collation.specs.Faults.{subscripts_fault}
use Rattle.key_codec.specs.Key.{short_form, long_form, two_bytes, subscript_key, subscripts_key, key_of, escaped, IsSubscriptWithin, AreSubscriptsWithin}
use Rattle.key_codec.specs.Form.{IsKeyForm}
use Rattle.key_codec.specs.Reading.{digit_byte}
use Rattle.key_codec.specs.Back.{reference_of}
use Rattle.key_codec.specs.laws.Bytes.{same_cmp, word_back}
use Rattle.key_codec.specs.laws.Subscripts.{zero_key, key_below, key_above, key_text}
use Rattle.key_codec.specs.laws.Key.{FitsForm, subscripts_of, not_too_many, name_above, keys_cmp, one_key}
use Rattle.key_codec.specs.laws.Back.{no_end, no_zero, escaped_free, reference_of_key}
use Rattle.key_codec.specs.Short.{are_short, short_limit, IsShortReference, short_key_of, KeepsShort, KeepsShortOrder, lengthened, lengthened_from, next_stage, after_tag, short_reference_of}
use Rattle.key_codec.specs.declared.lengthen.Stage.{Stage}
use Rattle.key_codec.specs.declared.lengthen.Stage.TheVariants.{Tag, Place, Before}

-- ---- values at two scales show one order

-- the point's places differ by a number
point_further : (k j : ℕ) (s : List ℕ) → IsPlaced k s → k ≤ j → point_at j s ≡ point_at k s + (j - k)
point_further k j s is le = let form = is.form in omega (arith, form.some, form.within, le)

points_alike : (k j : ℕ) (s t : List ℕ) → IsPlaced k s → IsPlaced k t → k ≤ j → nat_cmp (point_at j s) (point_at j t) ≡ nat_cmp (point_at k s) (point_at k t)
points_alike k j s t a b le =
    let p = point_further k j s a le in
    let q = point_further k j t b le in
    same_cmp (point_at j s) (point_at j t) (point_at k s) (point_at k t) (λ h. omega (arith, p, q, h)) (λ h. omega (arith, p, q, h)) (λ h. omega (arith, p, q, h))

further : (k j : ℕ) (s : List ℕ) → is_canonic s ≡ true → is_zero s ≡ false → length s ≤ k + 1 → k ≤ j → IsPlaced j s
further k j s is z short le = is_placed j s is z (fraction_short j s is z (omega (arith, short, le)))

module _ (k j : ℕ) (x y : List ℕ) (le : k ≤ j) (p : is_canonic x ≡ true) (q : is_canonic y ≡ true) (h : length x ≤ k + 1) (g : length y ≤ k + 1) where
  abbrev ShowOneOrder : Type 0
  ShowOneOrder = int_cmp (value_at j x) (value_at j y) ≡ int_cmp (value_at k x) (value_at k y)

  by_classes : IsOfClass k x → IsOfClass k y → ShowOneOrder
  by_classes (Zero e) (Zero f) = zero_zero j x y e f ∙ sym (zero_zero k x y e f)
  by_classes (Zero e) (Below b z n) = zero_below j x y e (further k j y q z g le) n ∙ sym (zero_below k x y e b n)
  by_classes (Zero e) (Above b z n) = zero_above j x y e (further k j y q z g le) n ∙ sym (zero_above k x y e b n)
  by_classes (Below a w m) (Zero f) = below_zero j x y (further k j x p w h le) m f ∙ sym (below_zero k x y a m f)
  by_classes (Above a w m) (Zero f) = above_zero j x y (further k j x p w h le) m f ∙ sym (above_zero k x y a m f)
  by_classes (Below a w m) (Above b z n) = below_above j x y (further k j x p w h le) m (further k j y q z g le) n ∙ sym (below_above k x y a m b n)
  by_classes (Above a w m) (Below b z n) = above_below j x y (further k j x p w h le) m (further k j y q z g le) n ∙ sym (above_below k x y a m b n)
  by_classes (Above a w m) (Above b z n) =
      above_cmp j x y (further k j x p w h le) (further k j y q z g le) m n
      ∙ ap (λ o. ordering_then o (slice_cmp nat_cmp (digits_of x) (digits_of y))) (points_alike k j x y a b le) ∙ sym (above_cmp k x y a b m n)
  by_classes (Below a w m) (Below b z n) =
      below_cmp j x y (further k j x p w h le) (further k j y q z g le) m n
      ∙ ap (λ o. ordering_then o (slice_cmp nat_cmp (digits_of y) (digits_of x))) (points_alike k j y x b a le) ∙ sym (below_cmp k x y a b m n)

  pub show_one_order : ShowOneOrder
  show_one_order = by_classes (class_of_text k x p h) (class_of_text k y q g)

pub short_form_is : IsKeyForm short_form
short_form_is = record { places = λ m n u v _ _. refl; values = λ x y p q h g. show_one_order 126 scale x y (omega arith) p q h g }

-- ---- references within the old limit

pub short_within : (ss : List (List ℕ)) → subscripts_fault ss ≡ None → are_short ss ≡ true → AreSubscriptsWithin short_form ss
short_within [] e h = tt
short_within (s ∷ ss) e h =
    let is = subscripts_of s ss e in
    let few : nat_le (length s) short_limit ≡ true = first_so _ _ h in
    let here = is.here in
    (record { some = here.some; short = grind (arith, nat_tests) }, short_within ss is.rest (second_so (nat_le (length s) short_limit) _ h))

pub fits_short : (r : Reference) → IsShortReference r → FitsForm short_form r
fits_short r is = let form = is.form in record { name = form.name; subscripts = short_within r.subscripts (not_too_many r.subscripts form.subscripts) is.short }

-- old keys compare as references do
pub short_keys_cmp : (x y : Reference) → IsShortReference x → IsShortReference y → slice_cmp nat_cmp (short_key_of x) (short_key_of y) ≡ ref_cmp x y
short_keys_cmp x y a b = keys_cmp short_form short_form_is x y (fits_short x a) (fits_short y b)

pub keeps_short_order : (r : Reference) → IsShortReference r → KeepsShortOrder r (short_key_of r)
keeps_short_order r is = λ x a. short_keys_cmp r x is a

-- ---- the bytes that stand for an old key

-- up to an end they are the same
past : (end : ℕ) (xs u : List ℕ) → list_all (λ b. not (nat_eq b end)) xs ≡ true → lengthened_from (Before end) (xs ++ end ∷ u) ≡ xs ++ end ∷ lengthened_from Tag u
past end [] u e = let same : (end == end) ≡ true = grind (arith, nat_tests) in rw same refl
past end (x ∷ xs) u e =
    let no : not (nat_eq x end) ≡ true = first_so (not (nat_eq x end)) _ e in
    let other : (x == end) ≡ false = grind (arith, nat_tests) in
    rw other (ap (λ t. x ∷ t) (past end xs u (second_so (not (nat_eq x end)) _ e)))

module _ (s u : List ℕ) where
  abbrev IsLengthened : Type 0
  IsLengthened = lengthened_from Tag (subscript_key short_form s ++ u) ≡ subscript_key long_form s ++ lengthened_from Tag u

  number_lengthened : is_canonic s ≡ true → length s ≤ 127 → IsOfClass 126 s → IsLengthened
  number_lengthened is short (Zero e) = ap (λ t. lengthened_from Tag (t ++ u)) (zero_key short_form s e) ∙ sym (ap (λ t. t ++ lengthened_from Tag u) (zero_key long_form s e))
  number_lengthened is short (Below p z m) =
      let form = p.form in
      let digits = map (digit_byte true) (digits_of s) in
      let free = no_end true (digits_of s) form.digits in
      let further = point_further 126 scale s p (omega arith) in
      let place : 2 * 126 + 1 - point_at 126 s + 128 ≡ 2 * scale + 1 - point_at scale s = omega (arith, further, p.bound, short) in
      ap (λ t. lengthened_from Tag (t ++ u)) (key_below short_form s is z m)
      ∙ ap (λ t. 2 ∷ (two_bytes (2 * 126 + 1 - point_at 126 s + 128) ++ t)) (ap (lengthened_from (Before 255)) (append_assoc digits (255 ∷ []) u) ∙ past 255 digits u free)
      ∙ ap (λ n. 2 ∷ (two_bytes n ++ (digits ++ 255 ∷ lengthened_from Tag u))) place
      ∙ ap (λ t. 2 ∷ (two_bytes (2 * scale + 1 - point_at scale s) ++ t)) (sym (append_assoc digits (255 ∷ []) (lengthened_from Tag u)))
      ∙ sym (ap (λ t. t ++ lengthened_from Tag u) (key_below long_form s is z m))
  number_lengthened is short (Above p z m) =
      let form = p.form in
      let digits = map (digit_byte false) (digits_of s) in
      let free = no_end false (digits_of s) form.digits in
      let further = point_further 126 scale s p (omega arith) in
      let place : point_at 126 s + 2 + 128 ≡ point_at scale s + 2 = omega (arith, further) in
      ap (λ t. lengthened_from Tag (t ++ u)) (key_above short_form s is z m)
      ∙ ap (λ t. 4 ∷ (two_bytes (point_at 126 s + 2 + 128) ++ t)) (ap (lengthened_from (Before 0)) (append_assoc digits (0 ∷ []) u) ∙ past 0 digits u free)
      ∙ ap (λ n. 4 ∷ (two_bytes n ++ (digits ++ 0 ∷ lengthened_from Tag u))) place
      ∙ ap (λ t. 4 ∷ (two_bytes (point_at scale s + 2) ++ t)) (sym (append_assoc digits (0 ∷ []) (lengthened_from Tag u)))
      ∙ sym (ap (λ t. t ++ lengthened_from Tag u) (key_above long_form s is z m))

  text_lengthened : is_canonic s ≡ false → IsLengthened
  text_lengthened is =
      ap (λ t. lengthened_from Tag (t ++ u)) (key_text short_form s is)
      ∙ ap (λ t. 5 ∷ t) (ap (lengthened_from (Before 0)) (append_assoc (escaped s) (0 ∷ []) u) ∙ past 0 (escaped s) u (escaped_free s))
      ∙ ap (λ t. 5 ∷ t) (sym (append_assoc (escaped s) (0 ∷ []) (lengthened_from Tag u)))
      ∙ sym (ap (λ t. t ++ lengthened_from Tag u) (key_text long_form s is))

  subscript_lengthened : IsSubscriptWithin short_form s → IsLengthened
  subscript_lengthened bounds =
      elim (is_canonic s) as (λ t. is_canonic s ≡ t → IsLengthened) [
        | true ↦ λ e. number_lengthened e bounds.short (class_of_text 126 s e bounds.short)
        | false ↦ λ e. text_lengthened e
      ] refl

subscripts_lengthened : (ss : List (List ℕ)) → AreSubscriptsWithin short_form ss → lengthened_from Tag (subscripts_key short_form ss) ≡ subscripts_key long_form ss
subscripts_lengthened [] a = refl
subscripts_lengthened (s ∷ ss) a = subscript_lengthened s (subscripts_key short_form ss) a.0 ∙ ap (λ t. subscript_key long_form s ++ t) (subscripts_lengthened ss a.1)

-- they are the key of the same reference
pub key_lengthened : (r : Reference) → IsShortReference r → lengthened (short_key_of r) ≡ key_of r
key_lengthened r is =
    let fits = fits_short r is in
    past 0 r.name (subscripts_key short_form r.subscripts) (no_zero r.name (name_above r.name fits.name))
    ∙ ap (λ t. r.name ++ 0 ∷ t) (subscripts_lengthened r.subscripts fits.subscripts)

-- and of no other bytes
one_head : (a b : ℕ) (xs ys : List ℕ) → a ∷ xs ≡ b ∷ ys → a ≡ b
one_head a b xs ys e = cc

one_tail : (a b : ℕ) (xs ys : List ℕ) → a ∷ xs ≡ b ∷ ys → xs ≡ ys
one_tail a b xs ys e = cc

one_place : (v w : ℕ) (xs ys : List ℕ) → two_bytes (v + 128) ++ xs ≡ two_bytes (w + 128) ++ ys → v ≡ w
one_place v w xs ys e =
    let high : (v + 128) / 256 ≡ (w + 128) / 256 = one_head _ _ _ _ e in
    let low : (v + 128) % 256 ≡ (w + 128) % 256 = one_head _ _ _ _ (one_tail _ _ _ _ e) in
    let same : v + 128 ≡ w + 128 = sym (word_back (v + 128)) ∙ (λ i. high i * 256 + low i) ∙ word_back (w + 128) in
    omega (arith, same)

pub one_lengthened : (stage : Stage) (xs ys : List ℕ) → lengthened_from stage xs ≡ lengthened_from stage ys → xs ≡ ys
one_lengthened stage [] [] e = refl
one_lengthened Tag [] (y ∷ ys) e = cc
one_lengthened (Place end) [] (y ∷ ys) e = cc
one_lengthened (Before end) [] (y ∷ ys) e = cc
one_lengthened Tag (x ∷ xs) [] e = cc
one_lengthened (Place end) (x ∷ xs) [] e = cc
one_lengthened (Before end) (x ∷ xs) [] e = cc
one_lengthened Tag (x ∷ xs) (y ∷ ys) e =
    let same : x ≡ y = one_head _ _ _ _ e in
    let rest = one_lengthened (after_tag x) xs ys (one_tail _ _ _ _ e ∙ ap (λ b. lengthened_from (after_tag b) ys) (sym same)) in
    λ i. same i ∷ rest i
one_lengthened (Place end) (x ∷ xs) (y ∷ ys) e =
    let same : x ≡ y = one_place x y (lengthened_from (Before end) xs) (lengthened_from (Before end) ys) e in
    let rest = one_lengthened (Before end) xs ys (one_tail _ _ _ _ (one_tail _ _ _ _ e)) in
    λ i. same i ∷ rest i
one_lengthened (Before end) (x ∷ xs) (y ∷ ys) e =
    let same : x ≡ y = one_head _ _ _ _ e in
    let rest = one_lengthened (next_stage (Before end) x) xs ys (one_tail _ _ _ _ e ∙ ap (λ b. lengthened_from (next_stage (Before end) b) ys) (sym same)) in
    λ i. same i ∷ rest i

-- ---- an old key reads back as its reference

pub short_reference_of_key : (r : Reference) → IsShortReference r → short_reference_of (short_key_of r) ≡ r
unfolding short_reference_of
short_reference_of_key r is = ap reference_of (key_lengthened r is) ∙ reference_of_key r is.form

-- bytes that are known to be an old key
pub short_reads_back : (bytes : List ℕ) (r : Reference) → IsShortReference r → bytes ≡ short_key_of r → short_reference_of bytes ≡ r
short_reads_back bytes r is e = ap short_reference_of e ∙ short_reference_of_key r is

pub short_kept : (bytes : List ℕ) (r : Reference) → IsShortReference r → bytes ≡ short_key_of r → KeepsShort bytes (short_reference_of bytes)
short_kept bytes r is e = subst (KeepsShort bytes) (sym (short_reads_back bytes r is e)) (record { key = e; form = is })

-- equal bytes are one reference's
pub one_short_key : (x y : Reference) → IsShortReference x → IsShortReference y → short_key_of x ≡ short_key_of y → x ≡ y
one_short_key x y a b e = one_key short_form short_form_is x y (fits_short x a) (fits_short y b) e
