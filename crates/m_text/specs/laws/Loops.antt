-- Reading one after the other, as loops do.
use Rattle.std.proofs.Common.{◌≡◌, ℕ, suc, Bool, true, false, cond, List, ◌++◌, drop, Option, Some, None, refl, sym, ap, ◌∙◌}
use Rattle.std.specs.Option.{option_and_then}
use Rattle.std.proofs.lemmas.Option.{same_Some}
use Rattle.m_text.specs.Reading.{with_front, rest_of, begins_with_byte, some_at, IsUnread, IsRefusedAlways}
use Rattle.refusal.specs.declared.Refusal.{Refusal}
use Rattle.m_text.specs.laws.Parted.{front_some}
use Rattle.m_text.specs.laws.Reading.{with_front-append, rest_of-front, refused_too, refused_always_too}

abbrev Read : Type 0 → Type 0
Read A = Option (List A × List ℕ)

-- what follows one that was read
abbrev next_of : {A : Type 0} → (List ℕ → Read A) → ℕ → ℕ → List A × List ℕ → Read A
next_of read b n x = cond (begins_with_byte b x.1) (with_front x.0 (some_at read b n (drop 1 x.1))) (Some x)

some_step : {A : Type 0} → (read : List ℕ → Read A) (b n k : ℕ) (text : List ℕ) → k ≡ suc n → some_at read b k text ≡ option_and_then (next_of read b n) (read text)
unfolding some_at
some_step read b n k text e = rw e refl

front_none : {A : Type 0} → (front : List A) (read : Read A) → with_front front read ≡ None → read ≡ None
front_none front None e = refl
front_none front (Some x) e = absurd cc

front_next : {A : Type 0} → (t : Bool) (front x : List A) (rest : List ℕ) (more : Read A) → with_front front (cond t (with_front x more) (Some (x, rest))) ≡ cond t (with_front (front ++ x) more) (Some (front ++ x, rest))
front_next true front x rest more = with_front-append front x more
front_next false front x rest more = refl

-- one was read, to the end of what was read before, and the byte follows
read_one : {A : Type 0} → (read : List ℕ → Read A) (b n k : ℕ) (front out : List A) (text rest : List ℕ) (total : Read A) → k ≡ suc n → with_front front (read text) ≡ Some (out, rest) →
    with_front front (some_at read b k text) ≡ total → cond (begins_with_byte b rest) (with_front out (some_at read b n (drop 1 rest))) (Some (out, rest)) ≡ total
read_one {A} read b n k front out text rest total e one so_far =
    let p = front_some front (read text) out rest one in
    let two : some_at read b k text ≡ next_of read b n (p.0, rest) = some_step read b n k text e ∙ ap (option_and_then (next_of read b n)) p.1 in
    ap (λ (o : List A). cond (begins_with_byte b rest) (with_front o (some_at read b n (drop 1 rest))) (Some (o, rest))) p.2
    ∙ sym (front_next (begins_with_byte b rest) front p.0 rest (some_at read b n (drop 1 rest))) ∙ ap (with_front front) (sym two) ∙ so_far

pub reads_on : {A : Type 0} → (read : List ℕ → Read A) (b n k : ℕ) (front out : List A) (text rest more : List ℕ) (total : Read A) → k ≡ suc n → with_front front (read text) ≡ Some (out, rest) →
    begins_with_byte b rest ≡ true → more ≡ drop 1 rest → with_front front (some_at read b k text) ≡ total → with_front out (some_at read b n more) ≡ total
reads_on {A} read b n k front out text rest more total e one goes past so_far =
    rw past (ap (λ (t : Bool). cond t (with_front out (some_at read b n (drop 1 rest))) (Some (out, rest))) (sym goes) ∙ read_one read b n k front out text rest total e one so_far)

-- one was read, and the byte doesn't follow
pub reads_last : {A : Type 0} → (read : List ℕ → Read A) (b n k : ℕ) (front out : List A) (text rest : List ℕ) (total : Read A) → k ≡ suc n → with_front front (read text) ≡ Some (out, rest) →
    begins_with_byte b rest ≡ false → with_front front (some_at read b k text) ≡ total → total ≡ Some (out, rest)
reads_last read b n k front out text rest total e one ends so_far =
    sym (ap (λ (t : Bool). cond t (with_front out (some_at read b n (drop 1 rest))) (Some (out, rest))) (sym ends) ∙ read_one read b n k front out text rest total e one so_far)

-- none was read
pub reads_none : {A : Type 0} → (read : List ℕ → Read A) (b n k : ℕ) (front : List A) (text : List ℕ) (total : Read A) → k ≡ suc n → with_front front (read text) ≡ None →
    with_front front (some_at read b k text) ≡ total → total ≡ None
reads_none read b n k front text total e one so_far = sym so_far ∙ ap (with_front front) (some_step read b n k text e ∙ ap (option_and_then (next_of read b n)) (front_none front (read text) one))

rest_some : {A : Type 0} → (read : Read A) (rest : List ℕ) → rest_of read ≡ Some rest → (x : List A) × (read ≡ Some (x, rest))
rest_some None rest e = absurd cc
rest_some (Some x) rest e = (x.0, ap (λ (r : List ℕ). Some (x.0, r)) (same_Some x.1 rest e))

rest_none : {A : Type 0} → (read : Read A) → rest_of read ≡ None → read ≡ None
rest_none None e = refl
rest_none (Some x) e = absurd cc

rest_next : {A : Type 0} → (t : Bool) (x : List A) (rest : List ℕ) (more : Read A) → rest_of (cond t (with_front x more) (Some (x, rest))) ≡ cond t (rest_of more) (Some rest)
rest_next true x rest more = rest_of-front x more
rest_next false x rest more = refl

skip_one : {A : Type 0} → (read : List ℕ → Read A) (b n k : ℕ) (text rest : List ℕ) (total : Option (List ℕ)) → k ≡ suc n → rest_of (read text) ≡ Some rest →
    rest_of (some_at read b k text) ≡ total → cond (begins_with_byte b rest) (rest_of (some_at read b n (drop 1 rest))) (Some rest) ≡ total
skip_one read b n k text rest total e one so_far =
    let p = rest_some (read text) rest one in
    let two : some_at read b k text ≡ next_of read b n (p.0, rest) = some_step read b n k text e ∙ ap (option_and_then (next_of read b n)) p.1 in
    sym (rest_next (begins_with_byte b rest) p.0 rest (some_at read b n (drop 1 rest))) ∙ ap rest_of (sym two) ∙ so_far

-- one was skipped, and the byte follows
pub skips_on : {A : Type 0} → (read : List ℕ → Read A) (b n k : ℕ) (text rest more : List ℕ) (total : Option (List ℕ)) → k ≡ suc n → rest_of (read text) ≡ Some rest →
    begins_with_byte b rest ≡ true → more ≡ drop 1 rest → rest_of (some_at read b k text) ≡ total → rest_of (some_at read b n more) ≡ total
skips_on read b n k text rest more total e one goes past so_far =
    rw past (ap (λ (t : Bool). cond t (rest_of (some_at read b n (drop 1 rest))) (Some rest)) (sym goes) ∙ skip_one read b n k text rest total e one so_far)

-- one was skipped, and the byte doesn't follow
pub skips_last : {A : Type 0} → (read : List ℕ → Read A) (b n k : ℕ) (text rest : List ℕ) (total : Option (List ℕ)) → k ≡ suc n → rest_of (read text) ≡ Some rest →
    begins_with_byte b rest ≡ false → rest_of (some_at read b k text) ≡ total → total ≡ Some rest
skips_last read b n k text rest total e one ends so_far =
    sym (ap (λ (t : Bool). cond t (rest_of (some_at read b n (drop 1 rest))) (Some rest)) (sym ends) ∙ skip_one read b n k text rest total e one so_far)

pub skips_none : {A : Type 0} → (read : List ℕ → Read A) (b n k : ℕ) (text : List ℕ) (total : Option (List ℕ)) → k ≡ suc n → rest_of (read text) ≡ None →
    rest_of (some_at read b k text) ≡ total → total ≡ None
skips_none read b n k text total e one so_far = sym so_far ∙ ap rest_of (some_step read b n k text e ∙ ap (option_and_then (next_of read b n)) (rest_none (read text) one))

-- the last one was followed by the byte
pub none_left : {A : Type 0} → (read : List ℕ → Read A) (b k : ℕ) (front : List A) (text : List ℕ) (total : Read A) → k ≡ 0 → with_front front (some_at read b k text) ≡ total → total ≡ None
unfolding some_at
none_left read b k front text total e so_far = sym so_far ∙ rw e refl

pub none_to_skip : {A : Type 0} → (read : List ℕ → Read A) (b k : ℕ) (text : List ℕ) (total : Option (List ℕ)) → k ≡ 0 → rest_of (some_at read b k text) ≡ total → total ≡ None
unfolding some_at
none_to_skip read b k text total e so_far = sym so_far ∙ rw e refl

pub read_refused : {A : Type 0} → (refusal : Refusal) (read : List ℕ → Read A) (b n k : ℕ) (front : List A) (text : List ℕ) (total : Read A) → k ≡ suc n → IsUnread refusal (with_front front (read text)) →
    with_front front (some_at read b k text) ≡ total → IsUnread refusal total
read_refused refusal read b n k front text total e one so_far = refused_too refusal (with_front front (read text)) total (λ none. reads_none read b n k front text total e none so_far) one

pub skip_refused : {A : Type 0} → (refusal : Refusal) (read : List ℕ → Read A) (b n k : ℕ) (text : List ℕ) (total : Option (List ℕ)) → k ≡ suc n → IsRefusedAlways refusal (rest_of (read text)) →
    rest_of (some_at read b k text) ≡ total → IsRefusedAlways refusal total
skip_refused refusal read b n k text total e one so_far = refused_always_too refusal (rest_of (read text)) total (λ none. skips_none read b n k text total e none so_far) one
