-- What calls in turn refuse: the first refusal, and that of a bad name before all.
use Rattle.std.proofs.Common.{◌≡◌, ◌∙◌, ℕ, ◌+◌, ◌<◌, ◌≤◌, ◌++◌, Bool, true, false, List, [], ◌∷◌, length, length-append, take, drop, get_or, refl, sym, ap, subst}
use Rattle.std.proofs.lemmas.Grind.{take_at_read}
use Rattle.std.proofs.lemmas.List.{at_drop_all, at_drop_more, map-append, take_all}
use Rattle.std.specs.Option.{option_or}
use Rattle.std.specs.Prelude.{Option, None, Some, cond}
use Rattle.refusal.specs.declared.Refusal.{Refusal}
use Rattle.refusal.specs.declared.Refusal.TheVariants.{BadName}
use Rattle.collation.specs.Faults.{reference_fault}
use Rattle.collation.specs.Name.{is_name}
use Rattle.collation.specs.Reference.{Reference}
use Rattle.key_codec.specs.Draft.{IsDraft, longer, reference_due}
use Rattle.key_codec.specs.declared.draft.KeyDraft.{KeyDraft}
use Rattle.typed_calls.proofs.Below.{fault_is}
use Rattle.typed_calls.specs.Commands.{below_fault}
use Rattle.typed_calls.specs.Spelled.{due_in_turn, texts_of}
use Rattle.typed_calls.specs.declared.keys.LentText.{LentText}

first_due : (r : Reference) (ss : List (List ℕ)) (f : Refusal) → reference_due r ≡ Some f → due_in_turn r ss ≡ Some f
first_due r [] f e = e
first_due r (s ∷ ss) f e = ap (λ (o : Option Refusal). option_or o (due_in_turn (longer r s) ss)) e

bad_name : (r : Reference) (ss : List (List ℕ)) → is_name r.name ≡ false → due_in_turn r ss ≡ Some BadName
bad_name r ss is = first_due r ss BadName (ap (λ (b : Bool). cond b (reference_fault r.subscripts) (Some BadName)) is)

-- behind subscripts that aren't at fault, the next call tells what is due
pub goes_on : (r : Reference) (s : List ℕ) (ss : List (List ℕ)) → reference_fault r.subscripts ≡ None → due_in_turn r (s ∷ ss) ≡ due_in_turn (longer r s) ss
goes_on r s ss e = at (is_name r.name) refl
  where
    at : (b : Bool) → is_name r.name ≡ b → due_in_turn r (s ∷ ss) ≡ due_in_turn (longer r s) ss
    at true is = ap (λ (o : Option Refusal). option_or o (due_in_turn (longer r s) ss)) (ap (λ (b : Bool). cond b (reference_fault r.subscripts) (Some BadName)) is ∙ e)
    at false is = bad_name r (s ∷ ss) is ∙ sym (bad_name (longer r s) ss is)

-- at the first subscript at fault that is told, where the name is one
pub stops : (r : Reference) (s : List ℕ) (ss : List (List ℕ)) (f : Refusal) → reference_fault r.subscripts ≡ None → below_fault (length r.subscripts) s ≡ Some f
    → due_in_turn r (s ∷ ss) ≡ Some (cond (is_name r.name) f BadName)
stops r s ss f e stop = goes_on r s ss e ∙ at (is_name r.name) refl
  where
    at : (b : Bool) → is_name r.name ≡ b → due_in_turn (longer r s) ss ≡ Some (cond (is_name r.name) f BadName)
    at true is = first_due (longer r s) ss f (ap (λ (b : Bool). cond b (reference_fault (r.subscripts ++ s ∷ [])) (Some BadName)) is ∙ fault_is r.subscripts s e ∙ stop) ∙ ap (λ (b : Bool). Some (cond b f BadName)) (sym is)
    at false is = bad_name (longer r s) ss is ∙ ap (λ (b : Bool). Some (cond b f BadName)) (sym is)

-- the reference of a name and the first texts
abbrev pub so_far : List ℕ → List LentText → ℕ → Reference
so_far n ts i = record { name = n; subscripts = texts_of (take i ts) }

-- what is due of all calls is what is due behind the first texts
abbrev pub IsDueBehind : List ℕ → List LentText → ℕ → Type 0
IsDueBehind n ts i = due_in_turn (record { name = n; subscripts = [] }) (texts_of ts) ≡ due_in_turn (so_far n ts i) (texts_of (drop i ts))

more : (ts : List LentText) (i : ℕ) (d : LentText) → i < length ts → texts_of (take (i + 1) ts) ≡ texts_of (take i ts) ++ (get_or ts i d).bytes.now ∷ []
more ts i d low = ap texts_of (take_at_read ts i d low).1 ∙ map-append (λ t. t.bytes.now) (take i ts) (get_or ts i d ∷ [])

behind : (n : List ℕ) (ts : List LentText) (i : ℕ) (d : LentText) → i < length ts → IsDueBehind n ts i
    → due_in_turn (record { name = n; subscripts = [] }) (texts_of ts) ≡ due_in_turn (so_far n ts i) ((get_or ts i d).bytes.now ∷ texts_of (drop (i + 1) ts))
behind n ts i d low due = due ∙ ap (due_in_turn (so_far n ts i)) (at_drop_more texts_of ts i d low)

below_is : (n : List ℕ) (ts : List LentText) (i depth : ℕ) (s : List ℕ) (told : Option Refusal) → depth ≡ length (texts_of (take i ts)) → told ≡ below_fault depth s → below_fault (length (so_far n ts i).subscripts) s ≡ told
below_is n ts i depth s told counted is = ap (λ (m : ℕ). below_fault m s) (sym counted) ∙ sym is

-- the loop stops at a fault
pub stopped : (n : List ℕ) (ts : List LentText) (i depth : ℕ) (d : LentText) (fault : Option Refusal) (f told : Refusal) → i < length ts → reference_fault (texts_of (take i ts)) ≡ None
    → depth ≡ length (texts_of (take i ts)) → IsDueBehind n ts i → fault ≡ below_fault depth (get_or ts i d).bytes.now → fault ≡ Some f → told ≡ cond (is_name n) f BadName
    → due_in_turn (record { name = n; subscripts = [] }) (texts_of ts) ≡ Some told
stopped n ts i depth d fault f told low faultless counted due is there told_is =
    behind n ts i d low due
    ∙ stops (so_far n ts i) (get_or ts i d).bytes.now (texts_of (drop (i + 1) ts)) f faultless (below_is n ts i depth (get_or ts i d).bytes.now fault counted is ∙ there)
    ∙ ap (λ (r : Refusal). Some r) (sym told_is)

-- what is kept of a text more
pub record IsOneMore (n : List ℕ) (ts : List LentText) (i depth : ℕ) (draft : KeyDraft) : Type 0 where
  pub spelled : IsDraft draft (so_far n ts (i + 1))
  pub faultless : reference_fault (texts_of (take (i + 1) ts)) ≡ None
  pub counted : depth + 1 ≡ length (texts_of (take (i + 1) ts))
  pub due : IsDueBehind n ts (i + 1)

pub one_more : (n : List ℕ) (ts : List LentText) (i depth : ℕ) (d : LentText) (fault : Option Refusal) (draft : KeyDraft) → i < length ts → reference_fault (texts_of (take i ts)) ≡ None
    → depth ≡ length (texts_of (take i ts)) → IsDueBehind n ts i → fault ≡ below_fault depth (get_or ts i d).bytes.now → fault ≡ None
    → IsDraft draft (longer (so_far n ts i) (get_or ts i d).bytes.now) → IsOneMore n ts i depth draft
one_more n ts i depth d fault draft low faultless counted due is none spelled =
    let s : List ℕ = (get_or ts i d).bytes.now in
    let same : texts_of (take (i + 1) ts) ≡ texts_of (take i ts) ++ s ∷ [] = more ts i d low in
    record {
      spelled = subst (λ (ss : List (List ℕ)). IsDraft draft (record { name = n; subscripts = ss })) (sym same) spelled;
      faultless = ap reference_fault same ∙ fault_is (texts_of (take i ts)) s faultless ∙ below_is n ts i depth s fault counted is ∙ none;
      counted = ap (λ (m : ℕ). m + 1) counted ∙ sym (length-append (texts_of (take i ts)) (s ∷ [])) ∙ ap (λ (ss : List (List ℕ)). length ss) (sym same);
      due = behind n ts i d low due ∙ goes_on (so_far n ts i) s (texts_of (drop (i + 1) ts)) faultless
          ∙ ap (λ (ss : List (List ℕ)). due_in_turn (record { name = n; subscripts = ss }) (texts_of (drop (i + 1) ts))) (sym same);
    }

-- at the end all is spelled, and what is due of all calls is what is due of the reference
pub record AreAll (n : List ℕ) (ts : List LentText) (draft : KeyDraft) : Type 0 where
  pub spelled : IsDraft draft (record { name = n; subscripts = texts_of ts })
  pub due : reference_due (record { name = n; subscripts = texts_of ts }) ≡ due_in_turn (record { name = n; subscripts = [] }) (texts_of ts)

pub all : (n : List ℕ) (ts : List LentText) (i : ℕ) (draft : KeyDraft) → length ts ≤ i → IsDueBehind n ts i → IsDraft draft (so_far n ts i) → AreAll n ts draft
all n ts i draft over due spelled =
    let same : texts_of (take i ts) ≡ texts_of ts = ap texts_of (take_all i ts over) in
    record {
      spelled = subst (λ (ss : List (List ℕ)). IsDraft draft (record { name = n; subscripts = ss })) same spelled;
      due = sym (due ∙ at_drop_all (λ (us : List LentText). due_in_turn (so_far n ts i) (texts_of us)) ts i over ∙ ap (λ (ss : List (List ℕ)). reference_due (record { name = n; subscripts = ss })) same);
    }
