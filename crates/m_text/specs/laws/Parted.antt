-- Forms with a byte between two: what is read of them is spelled so, and what is spelled so is read.
use Rattle.std.proofs.Common.{◌≡◌, ℕ, zero, suc, ◌<◌, ◌≤◌, Bool, true, false, cond, List, [], ◌∷◌, ◌++◌, length, drop, Option, Some, None, refl, sym, ap, ◌∙◌, append_assoc, arith, length-append}
use Rattle.std.proofs.lemmas.Bool.{eqb-true, eq-eqb}
use Rattle.std.proofs.lemmas.Option.{some_pair_parts}
use Rattle.std.specs.Option.{option_and_then}
use Rattle.m_text.specs.Reading.{with_front, begins_with_byte, some_at, parted_at}
use Rattle.m_text.specs.Forms.{IsParted}
use Rattle.m_text.specs.Forms.IsParted.{one, more}

-- what a form is found as
pub record Found {A : Type 0} (Form : List ℕ → List A → Type 0) (bytes : List ℕ) (x : List A) (rest : List ℕ) : Type 0 where
  pub text : List ℕ
  pub form : Form text x
  pub parts : bytes ≡ text ++ rest

-- what was read with more before it
pub front_some : {A : Type 0} → (front : List A) (read : Option (List A × List ℕ)) (out : List A) (rest : List ℕ) → with_front front read ≡ Some (out, rest) → (x : List A) × (read ≡ Some (x, rest)) × (out ≡ front ++ x)
front_some front None out rest e = absurd cc
front_some {A} front (Some x) out rest e =
    let p = some_pair_parts (front ++ x.0) out x.1 rest e in
    (x.0, ap (λ (r : List ℕ). Some (x.0, r)) p.1, sym p.0)

pub begins : (b : ℕ) (bytes : List ℕ) → begins_with_byte b bytes ≡ true → bytes ≡ b ∷ drop 1 bytes
begins b [] e = absurd cc
begins b (c ∷ bs) e = ap (λ x. x ∷ bs) (eqb-true c b e)

module _ {A : Type 0} (read : List ℕ → Option (List A × List ℕ)) (Form : List ℕ → List A → Type 0) (b : ℕ) where
  abbrev IsFound : Type 0
  IsFound = (bytes : List ℕ) (x : List A) (rest : List ℕ) → read bytes ≡ Some (x, rest) → Found Form bytes x rest

  found_more : IsFound → (t : Bool) (bytes : List ℕ) (x : List A) (behind : List ℕ) (xs : List A) (rest : List ℕ) (others : Option (List A × List ℕ)) → begins_with_byte b behind ≡ t → Found Form bytes x behind →
      ((ys : List A) (r : List ℕ) → others ≡ Some (ys, r) → Found (IsParted Form b) (drop 1 behind) ys r) → cond t (with_front x others) (Some (x, behind)) ≡ Some (xs, rest) → Found (IsParted Form b) bytes xs rest
  found_more found true bytes x behind xs rest None goes first ih e = absurd cc
  found_more found true bytes x behind xs rest (Some (ys, r)) goes first ih e =
      let p = some_pair_parts (x ++ ys) xs r rest e in
      let second = ih ys r refl in
      let regrouped : bytes ≡ (first.text ++ b ∷ second.text) ++ r = first.parts ∙ ap (λ u. first.text ++ u) (begins b behind goes ∙ ap (λ u. b ∷ u) second.parts) ∙ sym (append_assoc first.text (b ∷ second.text) r) in
      rw (← p.0, ← p.1) (record { text = first.text ++ b ∷ second.text; form = more first.form second.form; parts = regrouped })
  found_more found false bytes x behind xs rest others goes first ih e =
      let p = some_pair_parts x xs behind rest e in
      rw (← p.0, ← p.1) (record { text = first.text; form = one first.form; parts = first.parts })

  pub some_found : IsFound → (n : ℕ) (bytes : List ℕ) (xs : List A) (rest : List ℕ) → some_at read b n bytes ≡ Some (xs, rest) → Found (IsParted Form b) bytes xs rest
  unfolding some_at
  some_found found zero bytes xs rest e = absurd cc
  some_found found (suc n) bytes xs rest e = at (some_found found n) (read bytes) refl e
    where
      at : ((bytes : List ℕ) (xs : List A) (rest : List ℕ) → some_at read b n bytes ≡ Some (xs, rest) → Found (IsParted Form b) bytes xs rest) → (r : Option (List A × List ℕ)) → read bytes ≡ r →
          option_and_then (λ x. cond (begins_with_byte b x.1) (with_front x.0 (some_at read b n (drop 1 x.1))) (Some x)) r ≡ Some (xs, rest) → Found (IsParted Form b) bytes xs rest
      at ih None f e = absurd cc
      at ih (Some (x, behind)) f e = found_more found (begins_with_byte b behind) bytes x behind xs rest (some_at read b n (drop 1 behind)) refl (found bytes x behind f) (λ ys r g. ih (drop 1 behind) ys r g) e

  pub parted_found : IsFound → (bytes : List ℕ) (xs : List A) (rest : List ℕ) → parted_at read b bytes ≡ Some (xs, rest) → Found (IsParted Form b) bytes xs rest
  parted_found found bytes xs rest e = some_found found (length bytes) bytes xs rest e

  -- a form is read before what ends it
  abbrev IsRead : (List ℕ → Type 0) → Type 0
  IsRead Stops = (text : List ℕ) (x : List A) (rest : List ℕ) → Form text x → Stops rest → read (text ++ rest) ≡ Some (x, rest)

  read_step : (n : ℕ) (bytes : List ℕ) (x : List A) (behind : List ℕ) → read bytes ≡ Some (x, behind) → some_at read b (suc n) bytes ≡ cond (begins_with_byte b behind) (with_front x (some_at read b n (drop 1 behind))) (Some (x, behind))
  unfolding some_at
  read_step n bytes x behind e = rw e refl

  pub some_read : (Stops : List ℕ → Type 0) → IsRead Stops → ((rest : List ℕ) → Stops (b ∷ rest)) → ((text : List ℕ) (x : List A) → Form text x → 0 < length text) →
      (n : ℕ) (text : List ℕ) (xs : List A) (rest : List ℕ) → IsParted Form b text xs → length text ≤ n → Stops rest → begins_with_byte b rest ≡ false → some_at read b n (text ++ rest) ≡ Some (xs, rest)
  some_read Stops again parted some zero text xs rest (one form) short stops ends = absurd (omega (arith, some text xs form))
  some_read Stops again parted some (suc n) text xs rest (one form) short stops ends = read_step n (text ++ rest) xs rest (again text xs rest form stops) ∙ rw ends refl
  some_read Stops again parted some zero _ _ rest (more {text} {texts} {x} {xs} form forms) short stops ends = absurd (omega (arith, some text x form, length-append text (b ∷ texts)))
  some_read Stops again parted some (suc n) _ _ rest (more {text} {texts} {x} {xs} form forms) short stops ends =
      let first : read ((text ++ b ∷ texts) ++ rest) ≡ Some (x, b ∷ (texts ++ rest)) = ap read (append_assoc text (b ∷ texts) rest) ∙ again text x (b ∷ (texts ++ rest)) form (parted (texts ++ rest)) in
      let others : some_at read b n (texts ++ rest) ≡ Some (xs, rest) = some_read Stops again parted some n texts xs rest forms (omega (arith, some text x form, length-append text (b ∷ texts))) stops ends in
      read_step n ((text ++ b ∷ texts) ++ rest) x (b ∷ (texts ++ rest)) first ∙ rw (eq-eqb b b refl, others) refl

  pub parted_read : (Stops : List ℕ → Type 0) → IsRead Stops → ((rest : List ℕ) → Stops (b ∷ rest)) → ((text : List ℕ) (x : List A) → Form text x → 0 < length text) →
      (text : List ℕ) (xs : List A) (rest : List ℕ) → IsParted Form b text xs → Stops rest → begins_with_byte b rest ≡ false → parted_at read b (text ++ rest) ≡ Some (xs, rest)
  parted_read Stops again parted some text xs rest forms stops ends = some_read Stops again parted some (length (text ++ rest)) text xs rest forms (omega (arith, length-append text rest)) stops ends
