-- A draft with one subscript more.
use Rattle.std.proofs.Common.{◌≡◌, ℕ, ◌+◌, ◌<◌, ◌≤◌, Bool, true, false, cond, List, [], ◌∷◌, ◌++◌, length, Option, Some, None, Result, Ok, Err, OnOk, refl, ap, sym, ◌∙◌, arith, length-append, append_assoc}
use Rattle.std.proofs.lemmas.Bool.Decides.{nat_tests}
use Rattle.std.specs.Prelude.{◌==◌, nat_lt}
use Rattle.std.specs.Option.{option_or}
use Rattle.canonic_number.specs.Number.{limit}
use Rattle.refusal.specs.declared.Refusal.{Refusal}
use Rattle.refusal.specs.declared.Refusal.TheVariants.{SubscriptTooLong, TooManySubscripts, BadName}
use Rattle.collation.specs.Reference.{Reference}
use Rattle.collation.specs.Name.{is_name}
use Rattle.collation.specs.Faults.{subscripts_fault, reference_fault, ends_open, closed_part}
use Rattle.key_codec.specs.Key.{long_form, subscript_key, subscripts_key, key_of, IsFaultless}
use Rattle.key_codec.specs.Draft.{IsDraft, longer, place_due, reference_due, place_of, open_fault, AreOfKey}
use Rattle.key_codec.specs.laws.Draft.{ends_open-more, closed_part-more, closed_part-whole, fault-closed, fault-pushed, fault-opened, AreFaultless, faultless}
use Rattle.key_codec.specs.declared.draft.KeyDraft.{KeyDraft}
use Rattle.key_codec.proofs.Reading.{keys-push}

-- what going on leaves
pub record GoesOn (d e : KeyDraft) : Type 0 where
  pub few : d.count ≤ 31 → e.count ≡ d.count + 1
  pub many : 31 < d.count → e.count ≡ d.count
  pub name : e.is_name ≡ d.is_name

few_more : (d e : KeyDraft) (r : Reference) (s : List ℕ) → IsDraft d r → GoesOn d e → length (r.subscripts ++ s ∷ []) ≤ 31 → e.count ≡ length (r.subscripts ++ s ∷ [])
few_more d e r s is on h =
    let all = length-append r.subscripts (s ∷ []) in
    let before : d.count ≡ length r.subscripts = is.few (omega (arith, h, all)) in
    on.few (omega (arith, before, h, all)) ∙ omega (arith, before, all)

many_more : (d e : KeyDraft) (r : Reference) (s : List ℕ) → IsDraft d r → GoesOn d e → 31 < length (r.subscripts ++ s ∷ []) → 31 < e.count
many_more d e r s is on h = at (nat_lt 31 (length r.subscripts)) refl
  where
    at : (t : Bool) → nat_lt 31 (length r.subscripts) ≡ t → 31 < e.count
    at true p =
        let over : 31 < length r.subscripts = grind (arith, nat_tests) in
        let before : 31 < d.count = is.many over in
        omega (arith, before, on.many before)
    at false p =
        let under : length r.subscripts ≤ 31 = grind (arith, nat_tests) in
        let before : d.count ≡ length r.subscripts = is.few under in
        omega (arith, before, on.few (omega (arith, before, under)), h, length-append r.subscripts (s ∷ []))

-- the bytes, where nothing is at fault so far
before : (d : KeyDraft) (r : Reference) (s : List ℕ) → IsDraft d r → is_name r.name ≡ true → length (r.subscripts ++ s ∷ []) ≤ 31 → option_or (subscripts_fault (closed_part r.subscripts)) (open_fault (ends_open r.subscripts)) ≡ None →
    d.bytes.items ≡ r.name ++ 0 ∷ subscripts_key long_form r.subscripts
before d r s is n h f =
    let none : AreFaultless (subscripts_fault (closed_part r.subscripts)) (ends_open r.subscripts) = faultless _ _ f in
    is.bytes n (omega (arith, h, length-append r.subscripts (s ∷ []))) none.fault
    ∙ ap (λ ss. r.name ++ 0 ∷ subscripts_key long_form ss) (closed_part-whole r.subscripts none.closed)

fault_before : (d : KeyDraft) (r : Reference) → IsDraft d r → option_or d.fault (open_fault d.ends_open) ≡ option_or (subscripts_fault (closed_part r.subscripts)) (open_fault (ends_open r.subscripts))
fault_before d r is = λ i. option_or (is.fault i) (open_fault (is.open_end i))

or_none : (a : Option Refusal) → option_or a None ≡ a
or_none None = refl
or_none (Some x) = refl

-- ---- what is kept

pub begun_key : (bytes word : List ℕ) → is_name word ≡ true → bytes ≡ word ++ 0 ∷ [] → AreOfKey bytes word
begun_key bytes word n b = record { subscripts = []; form = record { name = n; subscripts = refl }; key = b }

-- where nothing was added it is what it was
held_on : (d e : KeyDraft) (r : Reference) → IsDraft d r → e.bytes.items ≡ d.bytes.items → is_name r.name ≡ true → AreOfKey e.bytes.items r.name
held_on d e r is b n = let had : AreOfKey d.bytes.items r.name = is.held n in record { subscripts = had.subscripts; form = had.form; key = b ∙ had.key }

-- where something was, the bytes are those of what is spelled, which is faultless
added_key : (e : KeyDraft) (r : Reference) (s : List ℕ) → closed_part (r.subscripts ++ s ∷ []) ≡ r.subscripts ++ s ∷ [] → is_name r.name ≡ true → length (r.subscripts ++ s ∷ []) ≤ 31 → subscripts_fault (closed_part (r.subscripts ++ s ∷ [])) ≡ None
    → e.bytes.items ≡ r.name ++ 0 ∷ subscripts_key long_form (closed_part (r.subscripts ++ s ∷ [])) → AreOfKey e.bytes.items r.name
added_key e r s whole n few none b =
    let within : nat_lt 31 (length (r.subscripts ++ s ∷ [])) ≡ false = grind (arith, nat_tests, few) in
    record {
      subscripts = r.subscripts ++ s ∷ [];
      form = record { name = n; subscripts = rw within (ap subscripts_fault (sym whole) ∙ none) };
      key = b ∙ ap (λ ss. r.name ++ 0 ∷ subscripts_key long_form ss) whole;
    }

held_more : (d e : KeyDraft) (r : Reference) (s : List ℕ) → IsDraft d r → closed_part (r.subscripts ++ s ∷ []) ≡ r.subscripts ++ s ∷ [] → e.fault ≡ subscripts_fault (closed_part (r.subscripts ++ s ∷ []))
    → (31 < length (r.subscripts ++ s ∷ []) → 31 < e.count)
    → (is_name r.name ≡ true → length (r.subscripts ++ s ∷ []) ≤ 31 → subscripts_fault (closed_part (r.subscripts ++ s ∷ [])) ≡ None → e.bytes.items ≡ r.name ++ 0 ∷ subscripts_key long_form (closed_part (r.subscripts ++ s ∷ [])))
    → (31 < e.count → e.bytes.items ≡ d.bytes.items) → ((fault : Refusal) → e.fault ≡ Some fault → e.bytes.items ≡ d.bytes.items) → is_name r.name ≡ true → AreOfKey e.bytes.items r.name
held_more d e r s is whole f over bytes many at_fault n = by_count (nat_lt 31 (length (r.subscripts ++ s ∷ []))) refl
  where
    by_fault : length (r.subscripts ++ s ∷ []) ≤ 31 → (o : Option Refusal) → e.fault ≡ o → AreOfKey e.bytes.items r.name
    by_fault few None q = let none : subscripts_fault (closed_part (r.subscripts ++ s ∷ [])) ≡ None = sym f ∙ q in added_key e r s whole n few none (bytes n few none)
    by_fault few (Some x) q = held_on d e r is (at_fault x q) n

    by_count : (t : Bool) → nat_lt 31 (length (r.subscripts ++ s ∷ [])) ≡ t → AreOfKey e.bytes.items r.name
    by_count true p = let long : 31 < length (r.subscripts ++ s ∷ []) = grind (arith, nat_tests) in held_on d e r is (many (over long)) n
    by_count false p = let few : length (r.subscripts ++ s ∷ []) ≤ 31 = grind (arith, nat_tests) in by_fault few e.fault refl

-- an empty one
pub drafted_empty : (d e : KeyDraft) (r : Reference) (s : List ℕ) → (length s == 0) ≡ true → IsDraft d r → GoesOn d e → e.fault ≡ option_or d.fault (open_fault d.ends_open) → e.bytes.items ≡ d.bytes.items → e.ends_open ≡ (length s == 0) → IsDraft e (longer r s)
drafted_empty d e r s empty is on f b o = record {
  name = on.name ∙ is.name;
  few = few_more d e r s is on;
  many = many_more d e r s is on;
  open_end = o ∙ sym (ends_open-more r.subscripts s);
  fault = f ∙ fault_before d r is ∙ sym (fault-opened r.subscripts s empty);
  bytes = λ n h none. b ∙ before d r s is n h (sym (fault-opened r.subscripts s empty) ∙ none)
      ∙ ap (λ ss. r.name ++ 0 ∷ subscripts_key long_form ss) (sym (closed_part-more r.subscripts s ∙ ap (λ t. cond t r.subscripts (r.subscripts ++ s ∷ [])) empty));
  nameless = λ n. b ∙ is.nameless n;
  held = held_on d e r is b;
}

-- one that is too long
long_fault : (s : List ℕ) → (length s == 0) ≡ false → limit < length s → subscripts_fault (s ∷ []) ≡ Some SubscriptTooLong
long_fault s some h = let over : nat_lt limit (length s) ≡ true = grind (arith, nat_tests) in rw (some, over) refl

or_some : (a : Option Refusal) (x : Refusal) → option_or a (Some x) ≡ None → ⊥
or_some None x e = cc
or_some (Some y) x e = cc

pub drafted_long : (d e : KeyDraft) (r : Reference) (s : List ℕ) → (length s == 0) ≡ false → limit < length s → IsDraft d r → GoesOn d e → e.fault ≡ option_or (option_or d.fault (open_fault d.ends_open)) (Some SubscriptTooLong) → e.bytes.items ≡ d.bytes.items → e.ends_open ≡ (length s == 0) → IsDraft e (longer r s)
drafted_long d e r s some long is on f b o =
    let due : subscripts_fault (closed_part (r.subscripts ++ s ∷ [])) ≡ option_or (option_or (subscripts_fault (closed_part r.subscripts)) (open_fault (ends_open r.subscripts))) (Some SubscriptTooLong) =
    fault-pushed r.subscripts s some ∙ ap (option_or (option_or (subscripts_fault (closed_part r.subscripts)) (open_fault (ends_open r.subscripts)))) (long_fault s some long) in
    record {
      name = on.name ∙ is.name;
      few = few_more d e r s is on;
      many = many_more d e r s is on;
      open_end = o ∙ sym (ends_open-more r.subscripts s);
      fault = f ∙ ap (λ t. option_or t (Some SubscriptTooLong)) (fault_before d r is) ∙ sym due;
      bytes = λ n h none. absurd (or_some _ _ (sym due ∙ none));
      nameless = λ n. b ∙ is.nameless n;
      held = held_on d e r is b;
    }

-- any other
good_fault : (s : List ℕ) → (length s == 0) ≡ false → length s ≤ limit → subscripts_fault (s ∷ []) ≡ None
good_fault s some h = let within : nat_lt limit (length s) ≡ false = grind (arith, nat_tests) in rw (some, within) refl

pub drafted_good : (d e : KeyDraft) (r : Reference) (s : List ℕ) → (length s == 0) ≡ false → length s ≤ limit → IsDraft d r → GoesOn d e → e.fault ≡ option_or d.fault (open_fault d.ends_open) → e.ends_open ≡ (length s == 0)
    → (e.is_name ≡ true → e.count ≤ 31 → e.fault ≡ None → e.bytes.items ≡ d.bytes.items ++ subscript_key long_form s)
    → (e.is_name ≡ false → e.bytes.items ≡ d.bytes.items) → (31 < e.count → e.bytes.items ≡ d.bytes.items) → ((fault : Refusal) → e.fault ≡ Some fault → e.bytes.items ≡ d.bytes.items) → IsDraft e (longer r s)
drafted_good d e r s some short is on f o b nameless many at_fault =
    let due : subscripts_fault (closed_part (r.subscripts ++ s ∷ [])) ≡ option_or (subscripts_fault (closed_part r.subscripts)) (open_fault (ends_open r.subscripts)) =
    fault-pushed r.subscripts s some ∙ ap (option_or (option_or (subscripts_fault (closed_part r.subscripts)) (open_fault (ends_open r.subscripts)))) (good_fault s some short) ∙ or_none _ in
    let whole : closed_part (r.subscripts ++ s ∷ []) ≡ r.subscripts ++ s ∷ [] = closed_part-more r.subscripts s ∙ ap (λ t. cond t r.subscripts (r.subscripts ++ s ∷ [])) some in
    let fault : e.fault ≡ subscripts_fault (closed_part (r.subscripts ++ s ∷ [])) = f ∙ fault_before d r is ∙ sym due in
    let bytes : is_name r.name ≡ true → length (r.subscripts ++ s ∷ []) ≤ 31 → subscripts_fault (closed_part (r.subscripts ++ s ∷ [])) ≡ None → e.bytes.items ≡ r.name ++ 0 ∷ subscripts_key long_form (closed_part (r.subscripts ++ s ∷ [])) = λ n h none.
    let count : e.count ≡ length (r.subscripts ++ s ∷ []) = few_more d e r s is on h in
    b (on.name ∙ is.name ∙ n) (omega (arith, count, h)) (fault ∙ none)
    ∙ ap (λ t. t ++ subscript_key long_form s) (before d r s is n h (sym due ∙ none))
    ∙ append_assoc r.name (0 ∷ subscripts_key long_form r.subscripts) (subscript_key long_form s)
    ∙ ap (λ t. r.name ++ 0 ∷ t) (sym (keys-push r.subscripts s) ∙ ap (subscripts_key long_form) (sym whole)) in
    record {
      name = on.name ∙ is.name;
      few = few_more d e r s is on;
      many = many_more d e r s is on;
      open_end = o ∙ sym (ends_open-more r.subscripts s);
      fault = fault;
      bytes = bytes;
      nameless = λ n. nameless (on.name ∙ is.name ∙ n) ∙ is.nameless n;
      held = held_more d e r s is whole fault (many_more d e r s is on) bytes many at_fault;
    }

pub on_ok : {T E : Type 0} (r : Result T E) (P Q : Type 0) → (P → Q) → OnOk r P → OnOk r Q
on_ok (Ok x) P Q f p = f p
on_ok (Err x) P Q f p = tt

-- what a whole draft is due
shorter_closed : (ss : List (List ℕ)) → length (closed_part ss) ≤ length ss
shorter_closed [] = omega arith
shorter_closed (s ∷ []) = at (length s == 0)
  where
    at : (t : Bool) → length (cond t [] (s ∷ [])) ≤ 1
    at true = omega arith
    at false = omega arith
shorter_closed (s ∷ t ∷ ss) = omega (arith, shorter_closed (t ∷ ss))

few_so : (ss : List (List ℕ)) → nat_lt 31 (length ss) ≡ false → nat_lt 31 (length (closed_part ss)) ≡ false
few_so ss e = let less = shorter_closed ss in let few : length ss ≤ 31 = grind (arith, nat_tests) in let both : length (closed_part ss) ≤ 31 = omega (arith, less, few) in grind (arith, nat_tests)

not_many : (d : KeyDraft) (r : Reference) → IsDraft d r → d.count ≤ 31 → nat_lt 31 (length r.subscripts) ≡ false
not_many d r is h = at (nat_lt 31 (length r.subscripts)) refl
  where
    at : (t : Bool) → nat_lt 31 (length r.subscripts) ≡ t → t ≡ false
    at true e = let over : 31 < length r.subscripts = grind (arith, nat_tests) in absurd (omega (arith, is.many over))
    at false e = refl

pub last_due : (d : KeyDraft) (r : Reference) → IsDraft d r → d.is_name ≡ true → d.count ≤ 31 → d.fault ≡ place_due r
last_due d r is n h =
    let name : is_name r.name ≡ true = sym is.name ∙ n in
    let few : nat_lt 31 (length r.subscripts) ≡ false = not_many d r is h in
    is.fault ∙ sym (rw (name, few, few_so r.subscripts few) refl)

-- a place that isn't refused
pub record IsGood (r : Reference) : Type 0 where
  pub name : is_name r.name ≡ true
  pub few : nat_lt 31 (length r.subscripts) ≡ false
  pub form : reference_fault (closed_part r.subscripts) ≡ None
  pub fault : subscripts_fault (closed_part r.subscripts) ≡ None

pub good : (r : Reference) → place_due r ≡ None → IsGood r
good r e = at (is_name r.name) (nat_lt 31 (length r.subscripts)) refl refl e
  where
    at : (n m : Bool) → is_name r.name ≡ n → nat_lt 31 (length r.subscripts) ≡ m → cond n (cond m (Some TooManySubscripts) (reference_fault (closed_part r.subscripts))) (Some BadName) ≡ None → IsGood r
    at false m p q e = cc
    at true true p q e = cc
    at true false p q e = record { name = p; few = q; form = e; fault = sym (ap (λ t. cond t (Some TooManySubscripts) (subscripts_fault (closed_part r.subscripts))) (few_so r.subscripts q)) ∙ e }

pub good_form : (r : Reference) → IsGood r → IsFaultless (place_of r).reference
good_form r is = record { name = is.name; subscripts = is.form }

pub good_bytes : (d : KeyDraft) (r : Reference) → IsDraft d r → IsGood r → d.bytes.items ≡ key_of (place_of r).reference
good_bytes d r is fine = is.bytes fine.name (grind (arith, nat_tests, fine.few)) fine.fault

-- a reference is due what the place is, or has an empty end
pub reference_too : (r : Reference) (refusal : Refusal) → place_due r ≡ Some refusal → reference_due r ≡ Some refusal
reference_too r refusal e = at (is_name r.name) (nat_lt 31 (length r.subscripts)) refl e
  where
    at : (n m : Bool) → nat_lt 31 (length r.subscripts) ≡ m → cond n (cond m (Some TooManySubscripts) (reference_fault (closed_part r.subscripts))) (Some BadName) ≡ Some refusal → cond n (cond m (Some TooManySubscripts) (subscripts_fault r.subscripts)) (Some BadName) ≡ Some refusal
    at false m q e = e
    at true true q e = e
    at true false q e =
        let first : subscripts_fault (closed_part r.subscripts) ≡ Some refusal = sym (ap (λ t. cond t (Some TooManySubscripts) (subscripts_fault (closed_part r.subscripts))) (few_so r.subscripts q)) ∙ e in
        fault-closed r.subscripts ∙ ap (λ f. option_or f (open_fault (ends_open r.subscripts))) first

pub reference_good : (r : Reference) (is_open : Bool) → IsGood r → is_open ≡ ends_open r.subscripts → reference_due r ≡ open_fault is_open
reference_good r is_open is o =
    rw (is.name, is.few) (fault-closed r.subscripts ∙ ap (λ f. option_or f (open_fault (ends_open r.subscripts))) is.fault ∙ ap open_fault (sym o))

pub closed_reference : (r : Reference) → ends_open r.subscripts ≡ false → (place_of r).reference ≡ r
closed_reference r e = λ i. record { name = r.name; subscripts = closed_part-whole r.subscripts e i }
