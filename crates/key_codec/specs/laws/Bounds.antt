-- What lies between a key and the key with a byte above all tags; the laws of keys.
use Rattle.std.proofs.Common.{◌≡◌, ℕ, List, [], ◌∷◌, ◌++◌, refl, ap, sym, ◌∙◌, append-nil, ◌↔◌}
use Rattle.std.proofs.lemmas.Cmp.{by_ranked}
use Rattle.std.specs.declared.cmp.Ordering.TheVariants.{Less, Equal, Greater}
use Rattle.std.specs.Ordering.{nat_cmp, ordering_then}
use Rattle.std.specs.Cmp.{ranked, nat_cmp_is, tied_itself, nat_cmp_total}
use Rattle.std.specs.Cmp.Lexicographic.{slice_cmp}
use Rattle.collation.specs.Reference.{Reference}
use Rattle.collation.specs.Database.{IsUnder}
use Rattle.key_codec.specs.Key.{KeyForm, long_form, subscript_key, subscripts_key, key_in, key_of, IsFaultless}
use Rattle.key_codec.specs.Form.{IsKeyForm}
use Rattle.key_codec.specs.laws.Key.{long_form_is, FitsForm, fits_long, keys_cmp, one_key, one_subscript, begins_under, under_begins, has_tag}
use Rattle.key_codec.specs.Bounds.{Begins, KeepsOrder, IsPrefixOf, AreBounds, BytesAreBefore, IsUpTo, KeysCompareAsReferences, EqualKeysAreEqualReferences, NoSubscriptBeginsAnother, KeysBeginAsReferences}

pub same_front : (a u v : List ℕ) → slice_cmp nat_cmp (a ++ u) (a ++ v) ≡ slice_cmp nat_cmp u v
same_front [] u v = refl
same_front (x ∷ a) u v = ap (λ o. ordering_then o (slice_cmp nat_cmp (a ++ u) (a ++ v))) (tied_itself nat_cmp_total x) ∙ same_front a u v

-- what lies from a key on, and before the key with one more byte, begins with the key
begins_within : (a x : List ℕ) (t : ℕ) → IsUpTo a x → BytesAreBefore x (a ++ t ∷ []) → Begins x a
begins_within [] x t h k = (x, refl)
begins_within (c ∷ a) [] t h k = absurd (h refl)
begins_within (c ∷ a) (d ∷ x) t h k =
    by_ranked _ _ _ (nat_cmp c d) (ranked c d _ refl)
    (λ r l. let g : Greater ≡ Less = ap (λ o. ordering_then o (slice_cmp nat_cmp x (a ++ t ∷ []))) (nat_cmp_is d c Greater l) ∙ k in cc)
    (λ r l.
    let same : Equal ≡ nat_cmp d c = nat_cmp_is d c Equal (sym l) in
    let rest = begins_within a x t (λ g. h (ap (λ o. ordering_then o (slice_cmp nat_cmp a x)) r ∙ g)) (ap (λ o. ordering_then o (slice_cmp nat_cmp x (a ++ t ∷ []))) same ∙ k) in
    (rest.0, (λ i. sym l i ∷ rest.1 i)))
    (λ r l. absurd (h (ap (λ o. ordering_then o (slice_cmp nat_cmp a x)) r)))

module _ (form : KeyForm) where
  more_after : (a : List ℕ) (more : List (List ℕ)) → IsUpTo a (a ++ subscripts_key form more)
  more_after a [] e = let f : Equal ≡ Greater = sym (same_front a [] []) ∙ ap (λ t. slice_cmp nat_cmp t (a ++ [])) (append-nil a) ∙ e in cc
  more_after a (s ∷ more) e =
      let key = has_tag form s in
      let f : Less ≡ Greater = sym (same_front a [] (subscript_key form s ++ subscripts_key form more) ∙ ap (λ t. slice_cmp nat_cmp [] (t ++ subscripts_key form more)) key.is) ∙ ap (λ t. slice_cmp nat_cmp t (a ++ (subscript_key form s ++ subscripts_key form more))) (append-nil a) ∙ e in
      cc

  more_before : (a : List ℕ) (more : List (List ℕ)) → BytesAreBefore (a ++ subscripts_key form more) (a ++ 6 ∷ [])
  more_before a [] = same_front a [] (6 ∷ [])
  more_before a (s ∷ more) =
      let key = has_tag form s in
      same_front a (subscript_key form s ++ subscripts_key form more) (6 ∷ []) ∙ ap (λ t. slice_cmp nat_cmp (t ++ subscripts_key form more) (6 ∷ [])) key.is
      ∙ ap (λ o. ordering_then o (slice_cmp nat_cmp (key.rest ++ subscripts_key form more) [])) (sym (nat_cmp_is key.tag 6 Less key.high))

  -- everything under a reference lies from its key on and before its key with byte 6 after it, and nothing else does
  pub under_between : IsKeyForm form → (r x : Reference) → FitsForm form r → FitsForm form x → IsUnder r x ↔ (IsUpTo (key_in form r) (key_in form x) × BytesAreBefore (key_in form x) (key_in form r ++ 6 ∷ []))
  under_between is r x a b = (
    λ e. let on = under_begins form r x e in (
      λ g. more_after (key_in form r) on.more (ap (slice_cmp nat_cmp (key_in form r)) (sym on.is) ∙ g),
      ap (λ t. slice_cmp nat_cmp t (key_in form r ++ 6 ∷ [])) on.is ∙ more_before (key_in form r) on.more,
    ),
    λ w. let begins = begins_within (key_in form r) (key_in form x) 6 w.0 w.1 in begins_under form is r x begins.0 a b begins.1,
  )

  pub under_begins_with : IsKeyForm form → (r x : Reference) → FitsForm form r → FitsForm form x → IsUnder r x ↔ Begins (key_in form x) (key_in form r)
  under_begins_with is r x a b = (λ e. let on = under_begins form r x e in (subscripts_key form on.more, on.is), λ w. begins_under form is r x w.0 a b w.1)

-- the laws of the keys of `Ref`
pub compare_as_references : KeysCompareAsReferences
compare_as_references x y a b = keys_cmp long_form long_form_is x y (fits_long x a) (fits_long y b)

pub equal_keys : EqualKeysAreEqualReferences
equal_keys x y a b e = one_key long_form long_form_is x y (fits_long x a) (fits_long y b) e

pub no_subscript_begins : NoSubscriptBeginsAnother
no_subscript_begins s t a b w = (one_subscript long_form long_form_is s t w.0 [] a b (sym w.1 ∙ sym (append-nil (subscript_key long_form t)))).0

pub begin_as_references : KeysBeginAsReferences
begin_as_references r x a b = under_begins_with long_form long_form_is r x (fits_long r a) (fits_long x b)

pub keeps_order : (r : Reference) → IsFaultless r → KeepsOrder r (key_of r)
keeps_order r a x b = compare_as_references r x a b

pub is_prefix : (r : Reference) → IsFaultless r → IsPrefixOf r (key_of r)
is_prefix r a x b = begin_as_references r x a b

pub are_bounds : (r : Reference) → IsFaultless r → AreBounds r (key_of r) (key_of r ++ 6 ∷ [])
are_bounds r a x b = under_between long_form long_form_is r x (fits_long r a) (fits_long x b)
