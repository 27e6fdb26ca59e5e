-- Lock names, one after the other, and lists of them.
use Rattle.std.proofs.Common.{◌≡◌, ℕ, Bool, true, false, cond, List, [], ◌∷◌, ◌++◌, drop, Option, Some, None, Result, Ok, Err, Bor, refl, sym, ap, ◌∙◌, subst}
use Rattle.std.specs.Prelude.{is_some, OnOk}
use Rattle.std.specs.Option.{option_map, option_or}
use Rattle.refusal.specs.declared.Refusal.{Refusal}
use Rattle.collation.specs.Reference.{Reference, Resource}
use Rattle.m_text.specs.Reading.{with_front, begins_with_byte, some_at, parted_at, then_closing, IsUnread}
use Rattle.m_text.specs.laws.Reading.{with_front-nil, refused_too}
use Rattle.m_text.specs.Place.{named_at, ref_fault}
use Rattle.script.specs.declared.names.Names.{Names}
use Rattle.script.specs.Locking.{past_caret, lock_name_at, lock_names_at, names_fault}
use Rattle.script.specs.Sentence.{AreNamed, NamesSpelled}

-- faults

nothing_else : (f : Option Refusal) → option_or f None ≡ f
nothing_else None = refl
nothing_else (Some refusal) = refl

regrouped : (f g h : Option Refusal) → option_or f (option_or g h) ≡ option_or (option_or f g) h
regrouped None g h = refl
regrouped (Some refusal) g h = refl

fault_of_more : (ns : List Resource) (n : Resource) → names_fault (ns ++ n ∷ []) ≡ option_or (names_fault ns) (ref_fault n.reference)
fault_of_more [] n = nothing_else (ref_fault n.reference)
fault_of_more (m ∷ ns) n = ap (option_or (ref_fault m.reference)) (fault_of_more ns n) ∙ regrouped (ref_fault m.reference) (names_fault ns) (ref_fault n.reference)

faulty_more : (ns : List Resource) (n : Resource) (f g : Option Refusal) → names_fault ns ≡ f → ref_fault n.reference ≡ g → names_fault (ns ++ n ∷ []) ≡ option_or f g
faulty_more ns n f g p q = fault_of_more ns n ∙ (λ i. option_or (p i) (q i))

-- one name more: one before it was at fault already
pub kept : (names : Names) (ns : List Resource) (n : Resource) → AreNamed names ns → is_some names.fault ≡ true → AreNamed names (ns ++ n ∷ [])
kept names ns n h some = at (names_fault ns) refl
  where
    at : (o : Option Refusal) → names_fault ns ≡ o → AreNamed names (ns ++ n ∷ [])
    at None e = absurd (let none : is_some names.fault ≡ false = ap is_some (h.fault ∙ e) in let both : true ≡ false = sym some ∙ none in cc)
    at (Some f) e =
        let now = faulty_more ns n (Some f) (ref_fault n.reference) e refl in
        record { fault = h.fault ∙ e ∙ sym now; found = λ none. absurd (let both : Some f ≡ None = sym now ∙ none in cc) }

no_fault : (names : Names) (ns : List Resource) → AreNamed names ns → is_some names.fault ≡ false → names_fault ns ≡ None
no_fault names ns h none = at (names_fault ns) refl
  where
    at : (o : Option Refusal) → names_fault ns ≡ o → o ≡ None
    at None e = refl
    at (Some f) e = absurd (let some : is_some names.fault ≡ true = ap is_some (h.fault ∙ e) in let both : true ≡ false = sym some ∙ none in cc)

-- it is at fault
pub faulty : (names after : Names) (ns : List Resource) (n : Resource) (fault : Refusal) → AreNamed names ns → is_some names.fault ≡ false → ref_fault n.reference ≡ Some fault → after.fault ≡ Some fault → AreNamed after (ns ++ n ∷ [])
faulty names after ns n fault h none due told =
    let now = faulty_more ns n None (Some fault) (no_fault names ns h none) due in
    record { fault = told ∙ sym now; found = λ good. absurd (let both : Some fault ≡ None = sym now ∙ good in cc) }

-- it isn't, and is added
pub added : (names after : Names) (ns : List Resource) (n : Resource) → AreNamed names ns → is_some names.fault ≡ false → ref_fault n.reference ≡ None → after.fault ≡ names.fault → after.found.items ≡ names.found.items ++ n ∷ [] → AreNamed after (ns ++ n ∷ [])
added names after ns n h none good same more =
    let before = no_fault names ns h none in
    let now = faulty_more ns n None None before good in
    record { fault = same ∙ h.fault ∙ before ∙ sym now; found = λ _. more ∙ ap (λ (xs : List Resource). xs ++ n ∷ []) (h.found before) }

pub on_ok : {X E P Q : Type 0} → (result : Result X E) → (P → Q) → OnOk result P → OnOk result Q
on_ok (Ok x) f h = f h
on_ok (Err e) f h = tt

pub same_name : (n : Resource) (caret : Bool) (r : Reference) → n.has_caret ≡ caret → n.reference ≡ r → n ≡ record { has_caret = caret; reference = r }
same_name n caret r p q = λ i. record { has_caret = p i; reference = q i }

-- a name after others

pub name_after : (text named rest : List ℕ) (caret : Bool) (r : Reference) (ns : List Resource) → caret ≡ begins_with_byte 94 text → named ≡ past_caret text → named_at named ≡ Some (r, rest) →
    with_front ns (lock_name_at text) ≡ Some (ns ++ record { has_caret = caret; reference = r } ∷ [], rest)
unfolding lock_name_at
name_after text named rest caret r ns c p e =
    ap (λ (read : Option (Reference × List ℕ)). with_front ns (option_map (λ x. (record { has_caret = begins_with_byte 94 text; reference = x.0 } ∷ [], x.1)) read)) (ap named_at (sym p) ∙ e)
    ∙ ap (λ (b : Bool). Some (ns ++ record { has_caret = b; reference = r } ∷ [], rest)) (sym c)

pub no_name : (refusal : Refusal) (text named : List ℕ) (ns : List Resource) → named ≡ past_caret text → IsUnread refusal (named_at named) → IsUnread refusal (with_front ns (lock_name_at text))
unfolding lock_name_at
no_name refusal text named ns p h =
    refused_too refusal (named_at named) (with_front ns (lock_name_at text))
    (λ none. ap (λ (read : Option (Reference × List ℕ)). with_front ns (option_map (λ x. (record { has_caret = begins_with_byte 94 text; reference = x.0 } ∷ [], x.1)) read)) (ap named_at (sym p) ∙ none)) h

-- what has been read, and what the rest will add
pub record Stands (names : Names) (ns : List Resource) (n : ℕ) (rest text : List ℕ) : Type 0 where
  pub so_far : List Resource
  pub named : AreNamed names so_far
  pub left : with_front so_far (some_at lock_name_at 44 n rest) ≡ with_front ns (parted_at lock_name_at 44 text)

-- names in parentheses
list_is : (text list : List ℕ) (read : Option (List Resource × List ℕ)) → list ≡ drop 1 text → with_front [] (parted_at lock_name_at 44 list) ≡ read → parted_at lock_name_at 44 (drop 1 text) ≡ read
list_is text list read e h = ap (parted_at lock_name_at 44) (sym e) ∙ sym (with_front-nil (parted_at lock_name_at 44 list)) ∙ h

pub names_closed : (text list rest last : List ℕ) (ns : List Resource) → begins_with_byte 40 text ≡ true → list ≡ drop 1 text → with_front [] (parted_at lock_name_at 44 list) ≡ Some (ns, rest) → begins_with_byte 41 rest ≡ true → last ≡ drop 1 rest →
    lock_names_at text ≡ Some (ns, last)
unfolding lock_names_at
names_closed text list rest last ns goes e h shut l =
    ap (λ t. cond t (then_closing (parted_at lock_name_at 44 (drop 1 text))) (lock_name_at text)) goes ∙ ap then_closing (list_is text list (Some (ns, rest)) e h)
    ∙ ap (λ t. cond t (Some (ns, drop 1 rest)) None) shut ∙ ap (λ (u : List ℕ). Some (ns, u)) (sym l)

pub names_unclosed : (text list rest : List ℕ) (ns : List Resource) → begins_with_byte 40 text ≡ true → list ≡ drop 1 text → with_front [] (parted_at lock_name_at 44 list) ≡ Some (ns, rest) → begins_with_byte 41 rest ≡ false → lock_names_at text ≡ None
unfolding lock_names_at
names_unclosed text list rest ns goes e h other =
    ap (λ t. cond t (then_closing (parted_at lock_name_at 44 (drop 1 text))) (lock_name_at text)) goes ∙ ap then_closing (list_is text list (Some (ns, rest)) e h) ∙ ap (λ t. cond t (Some (ns, drop 1 rest)) None) other

pub names_refused : (refusal : Refusal) (text list : List ℕ) → begins_with_byte 40 text ≡ true → list ≡ drop 1 text → IsUnread refusal (with_front [] (parted_at lock_name_at 44 list)) → IsUnread refusal (lock_names_at text)
unfolding lock_names_at
names_refused refusal text list goes e h =
    refused_too refusal (with_front [] (parted_at lock_name_at 44 list)) (lock_names_at text)
    (λ none. ap (λ t. cond t (then_closing (parted_at lock_name_at 44 (drop 1 text))) (lock_name_at text)) goes ∙ ap then_closing (list_is text list None e none)) h

-- a name without parentheses
pub name_alone : (names : Names) (text : List ℕ) (result : Result (Bor (List ℕ)) Refusal) → begins_with_byte 40 text ≡ false → NamesSpelled names result (with_front [] (lock_name_at text)) → NamesSpelled names result (lock_names_at text)
unfolding lock_names_at
name_alone names text result other h = rw other (subst (NamesSpelled names result) (with_front-nil (lock_name_at text)) h)
