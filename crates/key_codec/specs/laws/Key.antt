-- Keys of references: their order, their beginnings, and that no two are alike.
use Rattle.std.proofs.Common.{◌≡◌, ℕ, ◌<◌, Bool, List, [], ◌∷◌, ◌++◌, length, true, false, refl, ap, sym, ◌∙◌, arith, zero, suc, append_assoc}
use Rattle.std.proofs.lemmas.Bool.{and_from}
use Rattle.std.proofs.lemmas.Bool.Decides.{nat_tests}
use Rattle.std.specs.Prelude.{◌==◌, ◌&&◌, cond, nat_lt, nat_le, nat_eq, Option, None, Some}
use Rattle.std.specs.List.{list_all}
use Rattle.std.specs.Ordering.{nat_cmp, ordering_then}
use Rattle.std.specs.Cmp.{first_so, second_so}
use Rattle.std.specs.Cmp.Lexicographic.{slice_cmp, pointwise, bytes_decides}
use Rattle.canonic_number.specs.Number.{is_canonic, is_zero, is_negative, limit}
use Rattle.canonic_number.specs.Place.{point_at, digits_of}
use Rattle.canonic_number.specs.laws.Classes.{AreTied, both_tied}
use Rattle.collation.specs.Reference.{Reference}
use Rattle.collation.specs.Limits.{most_name_bytes, most_subscripts}
use Rattle.collation.specs.Name.{is_name, is_letter_or_digit}
use Rattle.collation.specs.Faults.{subscripts_fault, reference_fault}
use Rattle.collation.specs.Database.{begins_with, is_under}
use Rattle.collation.specs.Order.{subscript_cmp, ref_cmp}
use Rattle.collation.specs.laws.Order.{subscript_cmp-IsAntisymmetric, ref_cmp-IsAntisymmetric}
use Rattle.refusal.specs.declared.Refusal.{Refusal}
use Rattle.key_codec.specs.Key.{KeyForm, long_form, subscript_key, subscripts_key, key_in, key_of, AreSubscriptsWithin, IsSubscriptWithin, IsFaultless, below_key, above_key, text_key}
use Rattle.key_codec.specs.Form.{IsKeyForm}
use Rattle.key_codec.specs.laws.Bytes.{named_cmp, two_cmp}
use Rattle.key_codec.specs.laws.Subscripts.{subscripts_cmp, tied_lists, tied_same}

-- a name has no byte 0
letter_above : (b : ℕ) → is_letter_or_digit b ≡ true → nat_lt 0 b ≡ true
letter_above zero e = cc
letter_above (suc b) e = grind (arith, nat_tests)

letters_above : (bs : List ℕ) → list_all is_letter_or_digit bs ≡ true → list_all (nat_lt 0) bs ≡ true
letters_above [] e = refl
letters_above (b ∷ bs) e = and_from _ _ (letter_above b (first_so _ _ e)) (letters_above bs (second_so (is_letter_or_digit b) _ e))

pub name_above : (bs : List ℕ) → is_name bs ≡ true → list_all (nat_lt 0) bs ≡ true
name_above [] e = cc
name_above (zero ∷ bs) e = cc
name_above (suc b ∷ bs) e = and_from _ _ (grind (arith, nat_tests)) (letters_above bs (first_so _ _ (second_so _ (list_all is_letter_or_digit bs && nat_le (length (suc b ∷ bs)) most_name_bytes) e)))

pub long_form_is : IsKeyForm long_form
long_form_is = record { places = λ m n u v _ _. two_cmp m n (slice_cmp nat_cmp u v); values = λ x y _ _ _ _. refl }

-- a reference within it
pub record FitsForm (form : KeyForm) (r : Reference) : Type 0 where
  pub name : is_name r.name ≡ true
  pub subscripts : AreSubscriptsWithin form r.subscripts

-- the first subscript, and the others, have no fault either
pub record HasFaultless (s : List ℕ) (ss : List (List ℕ)) : Type 0 where
  pub here : IsSubscriptWithin long_form s
  pub rest : subscripts_fault ss ≡ None

pub subscripts_of : (s : List ℕ) (ss : List (List ℕ)) → subscripts_fault (s ∷ ss) ≡ None → HasFaultless s ss
subscripts_of s ss e = at (length s == 0) (nat_lt limit (length s)) refl refl e
  where
    at : (t w : Bool) → (length s == 0) ≡ t → nat_lt limit (length s) ≡ w → cond t (Some Refusal.EmptySubscript) (cond w (Some Refusal.SubscriptTooLong) (subscripts_fault ss)) ≡ None → HasFaultless s ss
    at true w p q e = cc
    at false true p q e = cc
    at false false p q e = record { here = record { some = grind (arith, nat_tests); short = grind (arith, nat_tests) }; rest = e }

pub are_subscripts : (ss : List (List ℕ)) → subscripts_fault ss ≡ None → AreSubscriptsWithin long_form ss
are_subscripts [] e = tt
are_subscripts (s ∷ ss) e = let is = subscripts_of s ss e in (is.here, are_subscripts ss is.rest)

pub no_fault : (ss : List (List ℕ)) → AreSubscriptsWithin long_form ss → subscripts_fault ss ≡ None
no_fault [] a = refl
no_fault (s ∷ ss) a =
    let is = a.0 in
    let some : (length s == 0) ≡ false = grind (arith, nat_tests, is.some) in
    let short : nat_lt limit (length s) ≡ false = grind (arith, nat_tests, is.short) in
    rw (some, short) (no_fault ss a.1)

-- where there is no fault the count is none, and neither is what stands after it
pub not_over : (b : Bool) (o : Option Refusal) → cond b (Some Refusal.TooManySubscripts) o ≡ None → (b ≡ false) × (o ≡ None)
not_over true o e = absurd (cc)
not_over false o e = (refl, e)

pub not_too_many : (ss : List (List ℕ)) → reference_fault ss ≡ None → subscripts_fault ss ≡ None
not_too_many ss e = (not_over (nat_lt most_subscripts (length ss)) _ e).1

-- what a `Ref` keeps lies within the short form's limit
pub fits_long : (r : Reference) → IsFaultless r → FitsForm long_form r
fits_long r is = record { name = is.name; subscripts = are_subscripts r.subscripts (not_too_many r.subscripts is.subscripts) }

-- the keys of two lists of subscripts stand one after the other
pub subscripts_key-append : (form : KeyForm) (xs ys : List (List ℕ)) → subscripts_key form (xs ++ ys) ≡ subscripts_key form xs ++ subscripts_key form ys
subscripts_key-append form [] ys = refl
subscripts_key-append form (x ∷ xs) ys = ap (λ t. subscript_key form x ++ t) (subscripts_key-append form xs ys) ∙ sym (append_assoc (subscript_key form x) (subscripts_key form xs) (subscripts_key form ys))

-- the key of a reference with further subscripts is its key and theirs after it
pub key_of-append : (r : Reference) (more : List (List ℕ)) → key_of (record { name = r.name; subscripts = r.subscripts ++ more }) ≡ key_of r ++ subscripts_key long_form more
key_of-append r more = ap (λ t. r.name ++ 0 ∷ t) (subscripts_key-append long_form r.subscripts more) ∙ sym (append_assoc r.name (0 ∷ subscripts_key long_form r.subscripts) (subscripts_key long_form more))

-- a subscript's key has a first byte, from 2 to 5
pub record HasTag (key : List ℕ) : Type 0 where
  pub tag : ℕ
  pub rest : List ℕ
  pub is : key ≡ tag ∷ rest
  pub low : 1 < tag
  pub high : tag < 6

pub has_tag : (form : KeyForm) (s : List ℕ) → HasTag (subscript_key form s)
has_tag form s =
    elim (is_canonic s) as (λ t. HasTag (cond t (cond (is_zero s) (3 ∷ []) (cond (is_negative s) (below_key form (point_at form.fraction s) (digits_of s)) (above_key form (point_at form.fraction s) (digits_of s)))) (text_key s))) [
      | true ↦ elim (is_zero s) as (λ t. HasTag (cond t (3 ∷ []) (cond (is_negative s) (below_key form (point_at form.fraction s) (digits_of s)) (above_key form (point_at form.fraction s) (digits_of s))))) [
        | true ↦ record { tag = 3; rest = []; is = refl; low = omega arith; high = omega arith }
        | false ↦ elim (is_negative s) as (λ t. HasTag (cond t (below_key form (point_at form.fraction s) (digits_of s)) (above_key form (point_at form.fraction s) (digits_of s)))) [
          | true ↦ record { tag = 2; rest = _; is = refl; low = omega arith; high = omega arith }
          | false ↦ record { tag = 4; rest = _; is = refl; low = omega arith; high = omega arith }
        ]
      ]
      | false ↦ record { tag = 5; rest = _; is = refl; low = omega arith; high = omega arith }
    ]

module _ (form : KeyForm) (is : IsKeyForm form) where
  -- lists of subscripts
  pub lists_cmp : (xs ys : List (List ℕ)) → AreSubscriptsWithin form xs → AreSubscriptsWithin form ys → slice_cmp nat_cmp (subscripts_key form xs) (subscripts_key form ys) ≡ slice_cmp subscript_cmp xs ys
  lists_cmp [] [] p q = refl
  lists_cmp [] (y ∷ ys) p q = let key = has_tag form y in ap (λ t. slice_cmp nat_cmp [] (t ++ subscripts_key form ys)) key.is
  lists_cmp (x ∷ xs) [] p q = let key = has_tag form x in ap (λ t. slice_cmp nat_cmp (t ++ subscripts_key form xs) []) key.is
  lists_cmp (x ∷ xs) (y ∷ ys) p q =
      let a = p.0 in
      let b = q.0 in
      subscripts_cmp form x y (subscripts_key form xs) (subscripts_key form ys) is a.short b.short ∙ ap (ordering_then (subscript_cmp x y)) (lists_cmp xs ys p.1 q.1)

  -- keys compare byte by byte as references do
  pub keys_cmp : (x y : Reference) → FitsForm form x → FitsForm form y → slice_cmp nat_cmp (key_in form x) (key_in form y) ≡ ref_cmp x y
  unfolding ref_cmp
  keys_cmp x y a b =
      named_cmp x.name y.name (subscripts_key form x.subscripts) (subscripts_key form y.subscripts) (name_above x.name a.name) (name_above y.name b.name)
      ∙ ap (ordering_then (slice_cmp nat_cmp x.name y.name)) (lists_cmp x.subscripts y.subscripts a.subscripts b.subscripts)

  -- one key, one reference
  pub one_key : (x y : Reference) → FitsForm form x → FitsForm form y → key_in form x ≡ key_in form y → x ≡ y
  one_key x y a b e = ref_cmp-IsAntisymmetric x y (sym (keys_cmp x y a b) ∙ tied_same (key_in form x) (key_in form y) e)

  -- what begins alike
  pub one_subscript : (x y u v : List ℕ) → IsSubscriptWithin form x → IsSubscriptWithin form y → subscript_key form x ++ u ≡ subscript_key form y ++ v → (x ≡ y) × (u ≡ v)
  one_subscript x y u v a b e =
      let ties : AreTied (subscript_cmp x y) (slice_cmp nat_cmp u v) = both_tied (subscript_cmp x y) (slice_cmp nat_cmp u v) (sym (subscripts_cmp form x y u v is a.short b.short) ∙ tied_same _ _ e) in
      (subscript_cmp-IsAntisymmetric x y ties.first, tied_lists u v ties.second)

  begins_from : (xs rs : List (List ℕ)) (u : List ℕ) → AreSubscriptsWithin form xs → AreSubscriptsWithin form rs → subscripts_key form xs ≡ subscripts_key form rs ++ u → begins_with xs rs ≡ true
  begins_from xs [] u p q e = refl
  begins_from [] (r ∷ rs) u p q e = let key = has_tag form r in let f : [] ≡ ((key.tag ∷ key.rest) ++ subscripts_key form rs) ++ u = e ∙ ap (λ t. (t ++ subscripts_key form rs) ++ u) key.is in cc
  begins_from (x ∷ xs) (r ∷ rs) u p q e =
      let same = one_subscript x r (subscripts_key form xs) (subscripts_key form rs ++ u) p.0 q.0 (e ∙ append_assoc (subscript_key form r) (subscripts_key form rs) u) in
      and_from _ _ ((bytes_decides x r).1 same.0) (begins_from xs rs u p.1 q.1 same.1)

pub one_name : (x y u v : List ℕ) → is_name x ≡ true → is_name y ≡ true → x ++ 0 ∷ u ≡ y ++ 0 ∷ v → (x ≡ y) × (u ≡ v)
one_name x y u v a b e =
    let ties : AreTied (slice_cmp nat_cmp x y) (slice_cmp nat_cmp u v) = both_tied (slice_cmp nat_cmp x y) (slice_cmp nat_cmp u v) (sym (named_cmp x y u v (name_above x a) (name_above y b)) ∙ tied_same _ _ e) in
    (tied_lists x y ties.first, tied_lists u v ties.second)

-- a key begins with another exactly where its reference lies under the other
pub begins_under : (form : KeyForm) → IsKeyForm form → (r x : Reference) (u : List ℕ) → FitsForm form r → FitsForm form x → key_in form x ≡ key_in form r ++ u → is_under r x ≡ true
begins_under form is r x u a b e =
    let same = one_name x.name r.name (subscripts_key form x.subscripts) (subscripts_key form r.subscripts ++ u) b.name a.name (e ∙ append_assoc r.name (0 ∷ subscripts_key form r.subscripts) u) in
    and_from _ _ ((bytes_decides r.name x.name).1 (sym same.0)) (begins_from form is x.subscripts r.subscripts u b.subscripts a.subscripts same.1)

-- the key of what lies under a reference goes on with keys of subscripts
pub record GoesOn (form : KeyForm) (key front : List ℕ) : Type 0 where
  pub more : List (List ℕ)
  pub is : key ≡ front ++ subscripts_key form more

goes_on : (form : KeyForm) (xs rs : List (List ℕ)) → begins_with xs rs ≡ true → GoesOn form (subscripts_key form xs) (subscripts_key form rs)
goes_on form xs [] e = record { more = xs; is = refl }
goes_on form [] (r ∷ rs) e = cc
goes_on form (x ∷ xs) (r ∷ rs) e =
    let rest = goes_on form xs rs (second_so (pointwise nat_eq x r) _ e) in
    let same : x ≡ r = (bytes_decides x r).0 (first_so _ _ e) in
    record { more = rest.more; is = ap (λ s. subscript_key form s ++ subscripts_key form xs) same ∙ ap (λ t. subscript_key form r ++ t) rest.is ∙ sym (append_assoc (subscript_key form r) (subscripts_key form rs) (subscripts_key form rest.more)) }

pub under_begins : (form : KeyForm) (r x : Reference) → is_under r x ≡ true → GoesOn form (key_in form x) (key_in form r)
under_begins form r x e =
    let rest = goes_on form x.subscripts r.subscripts (second_so (pointwise nat_eq r.name x.name) _ e) in
    let same : r.name ≡ x.name = (bytes_decides r.name x.name).0 (first_so _ _ e) in
    record { more = rest.more; is = ap (λ n. n ++ 0 ∷ subscripts_key form x.subscripts) (sym same) ∙ ap (λ t. r.name ++ 0 ∷ t) rest.is ∙ sym (append_assoc r.name (0 ∷ subscripts_key form r.subscripts) (subscripts_key form rest.more)) }
