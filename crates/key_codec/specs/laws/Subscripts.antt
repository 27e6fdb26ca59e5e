-- Keys of subscripts, compared.
use Rattle.std.proofs.Common.{◌≡◌, ℕ, ◌+◌, ◌-◌, ◌*◌, ◌≤◌, List, [], ◌∷◌, ◌++◌, length, true, false, refl, ap, sym, ◌∙◌, arith, append_assoc}
use Rattle.std.specs.declared.cmp.Ordering.{Ordering}
use Rattle.std.specs.declared.cmp.Ordering.TheVariants.{Less, Equal, Greater}
use Rattle.std.specs.Ordering.{nat_cmp, int_cmp, ordering_then}
use Rattle.std.specs.Cmp.{tied_itself}
use Rattle.std.specs.Cmp.Lexicographic.{slice_cmp, nat_list_cmp_total}
use Rattle.std.specs.FinMap.{slice_cmp-IsAntisymmetric, nat_cmp-IsAntisymmetric}
use Rattle.canonic_number.specs.Number.{is_canonic, is_zero, is_negative, value_at}
use Rattle.canonic_number.specs.Place.{point_at, digits_of}
use Rattle.canonic_number.specs.laws.Canonic.{IsPlaced}
use Rattle.canonic_number.specs.laws.Classes.{IsOfClass, Zero, Below, Above, class_of_text, zero_zero, zero_below, zero_above, below_zero, above_zero, below_above, above_below, above_cmp, below_cmp, tied_text}
use Rattle.collation.specs.Order.{subscript_cmp}
use Rattle.collation.specs.laws.Order.{numbers, number_first, number_second, no_numbers}
use Rattle.key_codec.specs.Key.{KeyForm, subscript_key, below_key, above_key, text_key, rising, falling}
use Rattle.key_codec.specs.Form.{IsKeyForm}
use Rattle.key_codec.specs.laws.Bytes.{joined, no_tie, same_cmp, rising_cmp, falling_cmp, escaped_cmp}

-- bytes that tie are the same
pub tied_lists : (a b : List ℕ) → slice_cmp nat_cmp a b ≡ Equal → a ≡ b
tied_lists a b e = slice_cmp-IsAntisymmetric nat_cmp-IsAntisymmetric a b e

pub tied_same : (a b : List ℕ) → a ≡ b → slice_cmp nat_cmp a b ≡ Equal
tied_same a b e = ap (slice_cmp nat_cmp a) (sym e) ∙ tied_itself nat_list_cmp_total a

-- the key of each class
pub zero_key : (form : KeyForm) (s : List ℕ) → s ≡ 48 ∷ [] → subscript_key form s ≡ 3 ∷ []
zero_key form s e = ap (subscript_key form) e

pub key_below : (form : KeyForm) (s : List ℕ) → is_canonic s ≡ true → is_zero s ≡ false → is_negative s ≡ true → subscript_key form s ≡ below_key form (point_at form.fraction s) (digits_of s)
key_below form s p z n = rw (p, z, n) refl

pub key_above : (form : KeyForm) (s : List ℕ) → is_canonic s ≡ true → is_zero s ≡ false → is_negative s ≡ false → subscript_key form s ≡ above_key form (point_at form.fraction s) (digits_of s)
key_above form s p z n = rw (p, z, n) refl

pub key_text : (form : KeyForm) (s : List ℕ) → is_canonic s ≡ false → subscript_key form s ≡ text_key s
key_text form s p = rw p refl

-- a place's bytes before digits, compared
placed_cmp : (form : KeyForm) → IsKeyForm form → (m n : ℕ) (a b u v : List ℕ) → m ≤ 2 * form.fraction + 3 → n ≤ 2 * form.fraction + 3 →
    slice_cmp nat_cmp ((form.place_bytes m ++ a) ++ u) ((form.place_bytes n ++ b) ++ v) ≡ ordering_then (nat_cmp m n) (slice_cmp nat_cmp (a ++ u) (b ++ v))
placed_cmp form is m n a b u v h k =
    ap (λ t. slice_cmp nat_cmp t ((form.place_bytes n ++ b) ++ v)) (append_assoc (form.place_bytes m) a u)
    ∙ ap (slice_cmp nat_cmp (form.place_bytes m ++ (a ++ u))) (append_assoc (form.place_bytes n) b v) ∙ is.places m n (a ++ u) (b ++ v) h k

module _ (form : KeyForm) (x y u v : List ℕ) where
  -- the keys of two subscripts compare as the subscripts do, and then what follows them
  abbrev pub Compares : Type 0
  Compares = slice_cmp nat_cmp (subscript_key form x ++ u) (subscript_key form y ++ v) ≡ ordering_then (subscript_cmp x y) (slice_cmp nat_cmp u v)

  abbrev ComparesValues : Type 0
  ComparesValues = slice_cmp nat_cmp (subscript_key form x ++ u) (subscript_key form y ++ v) ≡ ordering_then (ordering_then (int_cmp (value_at form.fraction x) (value_at form.fraction y)) (slice_cmp nat_cmp x y)) (slice_cmp nat_cmp u v)

  pair : (kx ky : List ℕ) (o : Ordering) → subscript_key form x ≡ kx → subscript_key form y ≡ ky → int_cmp (value_at form.fraction x) (value_at form.fraction y) ≡ o →
      slice_cmp nat_cmp (kx ++ u) (ky ++ v) ≡ ordering_then (ordering_then o (slice_cmp nat_cmp x y)) (slice_cmp nat_cmp u v) → ComparesValues
  pair kx ky o e f g h =
      ap (λ t. slice_cmp nat_cmp (t ++ u) (subscript_key form y ++ v)) e ∙ ap (λ t. slice_cmp nat_cmp (kx ++ u) (t ++ v)) f ∙ h
      ∙ ap (λ r. ordering_then (ordering_then r (slice_cmp nat_cmp x y)) (slice_cmp nat_cmp u v)) (sym g)

  -- two numbers above zero
  two_above : IsKeyForm form → is_canonic x ≡ true → is_canonic y ≡ true → length x ≤ form.fraction + 1 → length y ≤ form.fraction + 1 →
      IsPlaced form.fraction x → is_zero x ≡ false → is_negative x ≡ false → IsPlaced form.fraction y → is_zero y ≡ false → is_negative y ≡ false → ComparesValues
  two_above is p q h k a w m b z n =
      pair _ _ _ (key_above form x p w m) (key_above form y q z n) (above_cmp form.fraction x y a b m n)
      (placed_cmp form is (point_at form.fraction x + 2) (point_at form.fraction y + 2) (rising (digits_of x)) (rising (digits_of y)) u v (omega (arith, a.bound)) (omega (arith, b.bound))
      ∙ joined (nat_cmp (point_at form.fraction x + 2) (point_at form.fraction y + 2)) (nat_cmp (point_at form.fraction x) (point_at form.fraction y)) _ (slice_cmp nat_cmp (digits_of x) (digits_of y)) _
      (same_cmp (point_at form.fraction x + 2) (point_at form.fraction y + 2) (point_at form.fraction x) (point_at form.fraction y) (λ l. omega arith) (λ l. omega arith) (λ l. omega arith))
      (rising_cmp (digits_of x) (digits_of y) u v a.form.digits b.form.digits)
      ∙ sym (no_tie _ _ _ (λ e. tied_same x y (tied_text form.fraction x y a b (m ∙ sym n) e))))

  -- two below zero, the other way round
  two_below : IsKeyForm form → is_canonic x ≡ true → is_canonic y ≡ true → length x ≤ form.fraction + 1 → length y ≤ form.fraction + 1 →
      IsPlaced form.fraction x → is_zero x ≡ false → is_negative x ≡ true → IsPlaced form.fraction y → is_zero y ≡ false → is_negative y ≡ true → ComparesValues
  two_below is p q h k a w m b z n =
      pair _ _ _ (key_below form x p w m) (key_below form y q z n) (below_cmp form.fraction x y a b m n)
      (placed_cmp form is (2 * form.fraction + 1 - point_at form.fraction x) (2 * form.fraction + 1 - point_at form.fraction y) (falling (digits_of x)) (falling (digits_of y)) u v (omega arith) (omega arith)
      ∙ joined (nat_cmp (2 * form.fraction + 1 - point_at form.fraction x) (2 * form.fraction + 1 - point_at form.fraction y)) (nat_cmp (point_at form.fraction y) (point_at form.fraction x)) _ (slice_cmp nat_cmp (digits_of y) (digits_of x)) _
      (same_cmp (2 * form.fraction + 1 - point_at form.fraction x) (2 * form.fraction + 1 - point_at form.fraction y) (point_at form.fraction y) (point_at form.fraction x)
      (λ l. omega (arith, a.bound, b.bound)) (λ l. omega (arith, a.bound, b.bound)) (λ l. omega (arith, a.bound, b.bound)))
      (falling_cmp (digits_of x) (digits_of y) u v a.form.digits b.form.digits)
      ∙ sym (no_tie _ _ _ (λ e. tied_same x y (sym (tied_text form.fraction y x b a (n ∙ sym m) e)))))

  by_classes : IsKeyForm form → is_canonic x ≡ true → is_canonic y ≡ true → length x ≤ form.fraction + 1 → length y ≤ form.fraction + 1 → IsOfClass form.fraction x → IsOfClass form.fraction y → ComparesValues
  by_classes is p q h k (Zero e) (Zero f) =
      pair _ _ Equal (zero_key form x e) (zero_key form y f) (zero_zero form.fraction x y e f) (sym (ap (λ o. ordering_then o (slice_cmp nat_cmp u v)) (tied_same x y (e ∙ sym f))))
  by_classes is p q h k (Zero e) (Below b z n) = pair _ _ Greater (zero_key form x e) (key_below form y q z n) (zero_below form.fraction x y e b n) refl
  by_classes is p q h k (Zero e) (Above b z n) = pair _ _ Less (zero_key form x e) (key_above form y q z n) (zero_above form.fraction x y e b n) refl
  by_classes is p q h k (Below a w m) (Zero f) = pair _ _ Less (key_below form x p w m) (zero_key form y f) (below_zero form.fraction x y a m f) refl
  by_classes is p q h k (Above a w m) (Zero f) = pair _ _ Greater (key_above form x p w m) (zero_key form y f) (above_zero form.fraction x y a m f) refl
  by_classes is p q h k (Below a w m) (Above b z n) = pair _ _ Less (key_below form x p w m) (key_above form y q z n) (below_above form.fraction x y a m b n) refl
  by_classes is p q h k (Above a w m) (Below b z n) = pair _ _ Greater (key_above form x p w m) (key_below form y q z n) (above_below form.fraction x y a m b n) refl
  by_classes is p q h k (Above a w m) (Above b z n) = two_above is p q h k a w m b z n
  by_classes is p q h k (Below a w m) (Below b z n) = two_below is p q h k a w m b z n

  number_before : is_canonic x ≡ true → subscript_key form y ≡ text_key y → IsOfClass form.fraction x → slice_cmp nat_cmp (subscript_key form x ++ u) (subscript_key form y ++ v) ≡ Less
  number_before p f (Zero e) = ap (λ t. slice_cmp nat_cmp (t ++ u) (subscript_key form y ++ v)) (zero_key form x e) ∙ ap (λ t. slice_cmp nat_cmp (3 ∷ u) (t ++ v)) f
  number_before p f (Below a w m) =
      ap (λ t. slice_cmp nat_cmp (t ++ u) (subscript_key form y ++ v)) (key_below form x p w m) ∙ ap (λ t. slice_cmp nat_cmp (below_key form (point_at form.fraction x) (digits_of x) ++ u) (t ++ v)) f
  number_before p f (Above a w m) =
      ap (λ t. slice_cmp nat_cmp (t ++ u) (subscript_key form y ++ v)) (key_above form x p w m) ∙ ap (λ t. slice_cmp nat_cmp (above_key form (point_at form.fraction x) (digits_of x) ++ u) (t ++ v)) f

  number_after : is_canonic y ≡ true → subscript_key form x ≡ text_key x → IsOfClass form.fraction y → slice_cmp nat_cmp (subscript_key form x ++ u) (subscript_key form y ++ v) ≡ Greater
  number_after q e (Zero f) = ap (λ t. slice_cmp nat_cmp (t ++ u) (subscript_key form y ++ v)) e ∙ ap (λ t. slice_cmp nat_cmp (text_key x ++ u) (t ++ v)) (zero_key form y f)
  number_after q e (Below b z n) = ap (λ t. slice_cmp nat_cmp (t ++ u) (subscript_key form y ++ v)) e ∙ ap (λ t. slice_cmp nat_cmp (text_key x ++ u) (t ++ v)) (key_below form y q z n)
  number_after q e (Above b z n) = ap (λ t. slice_cmp nat_cmp (t ++ u) (subscript_key form y ++ v)) e ∙ ap (λ t. slice_cmp nat_cmp (text_key x ++ u) (t ++ v)) (key_above form y q z n)

  pub subscripts_cmp : IsKeyForm form → length x ≤ form.fraction + 1 → length y ≤ form.fraction + 1 → Compares
  subscripts_cmp is h k =
      elim (is_canonic x) as (λ t. is_canonic x ≡ t → Compares) [
        | true ↦ λ p. elim (is_canonic y) as (λ t. is_canonic y ≡ t → Compares) [
          | true ↦ λ q. by_classes is p q h k (class_of_text form.fraction x p h) (class_of_text form.fraction y q k)
              ∙ ap (λ o. ordering_then (ordering_then o (slice_cmp nat_cmp x y)) (slice_cmp nat_cmp u v)) (sym (is.values x y p q h k)) ∙ ap (λ o. ordering_then o (slice_cmp nat_cmp u v)) (sym (numbers x y p q))
          | false ↦ λ q. number_before p (key_text form y q) (class_of_text form.fraction x p h) ∙ ap (λ o. ordering_then o (slice_cmp nat_cmp u v)) (sym (number_first x y p q))
        ] refl
        | false ↦ λ p. elim (is_canonic y) as (λ t. is_canonic y ≡ t → Compares) [
          | true ↦ λ q. number_after q (key_text form x p) (class_of_text form.fraction y q k) ∙ ap (λ o. ordering_then o (slice_cmp nat_cmp u v)) (sym (number_second x y p q))
          | false ↦ λ q. ap (λ t. slice_cmp nat_cmp (t ++ u) (subscript_key form y ++ v)) (key_text form x p) ∙ ap (λ t. slice_cmp nat_cmp (text_key x ++ u) (t ++ v)) (key_text form y q)
              ∙ escaped_cmp x y u v ∙ ap (λ o. ordering_then o (slice_cmp nat_cmp u v)) (sym (no_numbers x y p q))
        ] refl
      ] refl
