-- Reading into a draft, one subscript after another.
use Rattle.std.proofs.Common.{◌≡◌, ℕ, true, false, cond, List, [], drop, length, Option, Some, None, Result, Ok, Err, Bor, refl, sym, ap, ◌∙◌}
use Rattle.std.specs.Option.{option_map}
use Rattle.refusal.specs.declared.Refusal.{Refusal}
use Rattle.refusal.specs.declared.Refusal.TheVariants.{BadLine, OutOfMemory}
use Rattle.collation.specs.Reference.{Reference}
use Rattle.key_codec.specs.Draft.{IsDraft, IsDueOrMemory, reference_due}
use Rattle.key_codec.specs.declared.draft.KeyDraft.{KeyDraft}
use Rattle.m_text.specs.Reading.{with_front, begins_with_byte, some_at, parted_at, then_closing, IsUnread, IsDue}
use Rattle.m_text.specs.Place.{subscript_at, subscripts_at, front_word, past_word, named_at, place_at, ref_fault, unless, without_fault, ref_at}
use Rattle.m_text.specs.Drafts.{Drafts, DraftsSpelled}
use Rattle.m_text.specs.laws.Faults.{ref_due, due_or_memory}
use Rattle.m_text.specs.laws.Reading.{with_front-nil, refused_too}
use Rattle.std.specs.Prelude.{◌==◌}

-- what has been read, and what the rest will add
pub record Stands (draft : KeyDraft) (r : Reference) (n : ℕ) (rest text : List ℕ) : Type 0 where
  pub subscripts : List (List ℕ)
  pub spelled : IsDraft draft (record { name = r.name; subscripts = subscripts })
  pub left : with_front subscripts (some_at subscript_at 44 n rest) ≡ with_front r.subscripts (parted_at subscript_at 44 text)

-- a list in parentheses, or none
list_of : (text list : List ℕ) (front : List (List ℕ)) (read : Option (List (List ℕ) × List ℕ)) → list ≡ drop 1 text → front ≡ [] → with_front front (parted_at subscript_at 44 list) ≡ read → parted_at subscript_at 44 (drop 1 text) ≡ read
list_of text list front read e f h = sym (with_front-nil (parted_at subscript_at 44 (drop 1 text))) ∙ (λ i. with_front (sym f i) (parted_at subscript_at 44 (sym e i))) ∙ h

pub list_closed : (text list rest last : List ℕ) (front ss : List (List ℕ)) → begins_with_byte 40 text ≡ true → list ≡ drop 1 text → front ≡ [] → with_front front (parted_at subscript_at 44 list) ≡ Some (ss, rest) → begins_with_byte 41 rest ≡ true → last ≡ drop 1 rest → subscripts_at text ≡ Some (ss, last)
unfolding subscripts_at
list_closed text list rest last front ss goes e f h shut l =
    let read : parted_at subscript_at 44 (drop 1 text) ≡ Some (ss, rest) = list_of text list front (Some (ss, rest)) e f h in
    ap (λ t. cond t (then_closing (parted_at subscript_at 44 (drop 1 text))) (Some ([], text))) goes ∙ ap then_closing read
    ∙ ap (λ t. cond t (Some (ss, drop 1 rest)) None) shut ∙ ap (λ (u : List ℕ). Some (ss, u)) (sym l)

pub list_unclosed : (text list rest : List ℕ) (front ss : List (List ℕ)) → begins_with_byte 40 text ≡ true → list ≡ drop 1 text → front ≡ [] → with_front front (parted_at subscript_at 44 list) ≡ Some (ss, rest) → begins_with_byte 41 rest ≡ false → subscripts_at text ≡ None
unfolding subscripts_at
list_unclosed text list rest front ss goes e f h other =
    let read : parted_at subscript_at 44 (drop 1 text) ≡ Some (ss, rest) = list_of text list front (Some (ss, rest)) e f h in
    ap (λ t. cond t (then_closing (parted_at subscript_at 44 (drop 1 text))) (Some ([], text))) goes ∙ ap then_closing read
    ∙ ap (λ t. cond t (Some (ss, drop 1 rest)) None) other

pub list_refused : (refusal : Refusal) (text list : List ℕ) (front : List (List ℕ)) → begins_with_byte 40 text ≡ true → list ≡ drop 1 text → front ≡ [] → IsUnread refusal (with_front front (parted_at subscript_at 44 list)) → IsUnread refusal (subscripts_at text)
unfolding subscripts_at
list_refused refusal text list front goes e f h =
    refused_too refusal (with_front front (parted_at subscript_at 44 list)) (subscripts_at text)
    (λ none. ap (λ t. cond t (then_closing (parted_at subscript_at 44 (drop 1 text))) (Some ([], text))) goes ∙ ap then_closing (list_of text list front None e f none)) h

pub no_list : (text : List ℕ) → begins_with_byte 40 text ≡ false → subscripts_at text ≡ Some ([], text)
unfolding subscripts_at
no_list text e = rw e refl

-- a name word and what follows it
named_is : (text word rest : List ℕ) → word ≡ front_word text → (length word == 0) ≡ false → rest ≡ past_word text → named_at text ≡ option_map (λ x. (record { name = word; subscripts = x.0 }, x.1)) (subscripts_at rest)
unfolding named_at
named_is text word rest w some r =
    ap (λ t. cond t None (option_map (λ x. (record { name = front_word text; subscripts = x.0 }, x.1)) (subscripts_at (past_word text)))) (ap (λ (u : List ℕ). length u == 0) (sym w) ∙ some)
    ∙ (λ i. option_map (λ x. (record { name = sym w i; subscripts = x.0 }, x.1)) (subscripts_at (sym r i)))

pub named : (draft : KeyDraft) (text word rest : List ℕ) (res : Result (Bor (List ℕ)) Refusal) → word ≡ front_word text → (length word == 0) ≡ false → rest ≡ past_word text → Drafts draft word res (subscripts_at rest) → DraftsSpelled draft res (named_at text)
named draft text word rest (Ok behind) w some r h =
    (record { name = word; subscripts = h.0 }, named_is text word rest w some r ∙ ap (option_map (λ x. (record { name = word; subscripts = x.0 }, x.1))) h.1, h.2)
named draft text word rest (Err refusal) w some r h =
    refused_too refusal (subscripts_at rest) (named_at text) (λ none. named_is text word rest w some r ∙ ap (option_map (λ x. (record { name = word; subscripts = x.0 }, x.1))) none) h

pub unnamed : (text word : List ℕ) → word ≡ front_word text → (length word == 0) ≡ true → named_at text ≡ None
unfolding named_at
unnamed text word w none = ap (λ t. cond t None (option_map (λ x. (record { name = front_word text; subscripts = x.0 }, x.1)) (subscripts_at (past_word text)))) (ap (λ (u : List ℕ). length u == 0) (sym w) ∙ none)

-- after a caret
pub place_is : (text rest : List ℕ) → begins_with_byte 94 text ≡ true → rest ≡ drop 1 text → place_at text ≡ named_at rest
unfolding place_at
place_is text rest e r = rw e (ap named_at (sym r))

pub no_place : (text : List ℕ) → begins_with_byte 94 text ≡ false → place_at text ≡ None
unfolding place_at
no_place text e = rw e refl

-- the draft's key

ref_read : (text : List ℕ) (r : Reference) (rest : List ℕ) → place_at text ≡ Some (r, rest) → ref_at text ≡ unless {A = Reference × List ℕ} (reference_due r) (r, rest)
ref_read text r rest e = ap (without_fault ref_fault) e ∙ ap (λ f. unless {A = Reference × List ℕ} f (r, rest)) (ref_due r)

pub key_good : (text : List ℕ) (r key : Reference) (rest : List ℕ) → place_at text ≡ Some (r, rest) → reference_due r ≡ None → key ≡ r → ref_at text ≡ Ok (key, rest)
key_good text r key rest e none same = ref_read text r rest e ∙ ap (λ f. unless {A = Reference × List ℕ} f (r, rest)) none ∙ ap (λ (k : Reference). Ok (k, rest)) (sym same)

pub key_due : (text : List ℕ) (r : Reference) (rest : List ℕ) (refusal : Refusal) → place_at text ≡ Some (r, rest) → IsDueOrMemory refusal (reference_due r) → IsDue refusal (ref_at text)
key_due text r rest refusal e h = due_or_memory refusal (reference_due r) (r, rest) (ref_at text) (ref_read text r rest e) h

unread : {A : Type 0} (refusal : Refusal) (read : Option (Reference × List ℕ)) (all : Result A Refusal) → (read ≡ None → all ≡ Err BadLine) → IsUnread refusal read → IsDue refusal all
unread BadLine read all f h = f h
unread OutOfMemory read all f h = tt
unread refusal read all f h = absurd h

pub key_unread : (text : List ℕ) (refusal : Refusal) → IsUnread refusal (place_at text) → IsDue refusal (ref_at text)
key_unread text refusal h = unread refusal (place_at text) (ref_at text) (λ none. ap (without_fault ref_fault) none) h
