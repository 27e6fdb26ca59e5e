-- References: what is read of them is spelled so, and what is spelled so is read.
use Rattle.std.proofs.Common.{◌≡◌, ℕ, ◌<◌, Bool, true, false, cond, List, [], ◌∷◌, ◌++◌, length, drop, Option, Some, None, refl, sym, ap, ◌∙◌, append_assoc}
use Rattle.std.proofs.lemmas.Bool.{or_parts}
use Rattle.std.proofs.lemmas.Option.{some_pair_parts}
use Rattle.std.specs.Prelude.{not, ◌==◌}
use Rattle.std.specs.Option.{option_map}
use Rattle.collation.specs.Reference.{Reference}
use Rattle.m_text.specs.Reading.{begins_with_byte, parted_at, then_closing}
use Rattle.m_text.specs.Literal.{literal_at}
use Rattle.m_text.specs.Place.{ends_word, front_word, past_word, subscript_at, subscripts_at, named_at, place_at}
use Rattle.m_text.specs.Forms.{IsSubscript, AreSubscripts, is_word_byte, IsNamed, IsReference, IsBreak, IsReferenceBreak}
use Rattle.m_text.specs.Forms.AreSubscripts.{none, listed}
use Rattle.m_text.specs.laws.Front.{Ends, some_length, some_test, run_passes, run_parts, run_is}
use Rattle.m_text.specs.laws.Parted.{Found, begins, parted_found, parted_read}
use Rattle.m_text.specs.laws.Parts.{closed_found}
use Rattle.m_text.specs.laws.Literal.{literal_found, literal_read, literal_some}

-- subscripts

subscript_found : (bytes : List ℕ) (ss : List (List ℕ)) (rest : List ℕ) → subscript_at bytes ≡ Some (ss, rest) → Found IsSubscript bytes ss rest
subscript_found bytes ss rest e = at (literal_at bytes) refl e
  where
    at : (r : Option (List ℕ × List ℕ)) → literal_at bytes ≡ r → ◌≡◌ {A = Option (List (List ℕ) × List ℕ)} (option_map (λ x. (x.0 ∷ [], x.1)) r) (Some (ss, rest)) → Found IsSubscript bytes ss rest
    at None f e = absurd cc
    at (Some (s, r)) f e =
        let p = some_pair_parts (s ∷ []) ss r rest e in
        let found = literal_found bytes s r f in
        record { text = found.text; form = record { string = s; literal = found.form; alone = sym p.0 }; parts = found.parts ∙ ap (λ u. found.text ++ u) p.1 }

subscript_read : (text : List ℕ) (ss : List (List ℕ)) (rest : List ℕ) → IsSubscript text ss → IsBreak rest → subscript_at (text ++ rest) ≡ Some (ss, rest)
subscript_read text ss rest form ends = rw (literal_read text form.string rest form.literal ends, form.alone) refl

subscript_some : (text : List ℕ) (ss : List (List ℕ)) → IsSubscript text ss → 0 < length text
subscript_some text ss form = literal_some text form.string form.literal

-- what is found of a thing that isn't a list
pub record FoundOf {A : Type 0} (Form : List ℕ → A → Type 0) (bytes : List ℕ) (x : A) (rest : List ℕ) : Type 0 where
  pub text : List ℕ
  pub form : Form text x
  pub parts : bytes ≡ text ++ rest

subscripts_found : (bytes : List ℕ) (ss : List (List ℕ)) (rest : List ℕ) → subscripts_at bytes ≡ Some (ss, rest) → FoundOf AreSubscripts bytes ss rest
unfolding subscripts_at
subscripts_found bytes ss rest e = at (begins_with_byte 40 bytes) refl e
  where
    at : (t : Bool) → begins_with_byte 40 bytes ≡ t → cond t (then_closing (parted_at subscript_at 44 (drop 1 bytes))) (Some ([], bytes)) ≡ Some (ss, rest) → FoundOf AreSubscripts bytes ss rest
    at true f e =
        let list = parted_found subscript_at IsSubscript 44 subscript_found (drop 1 bytes) ss (41 ∷ rest) (closed_found _ ss rest e) in
        record { text = 40 ∷ (list.text ++ 41 ∷ []); form = listed list.form; parts = begins 40 bytes f ∙ ap (λ u. 40 ∷ u) (list.parts ∙ sym (append_assoc list.text (41 ∷ []) rest)) }
    at false f e =
        let p = some_pair_parts [] ss bytes rest e in
        rw (← p.0) (record { text = []; form = none; parts = p.1 })

subscripts_read : {text : List ℕ} {ss : List (List ℕ)} (rest : List ℕ) → AreSubscripts text ss → begins_with_byte 40 rest ≡ false → subscripts_at (text ++ rest) ≡ Some (ss, rest)
unfolding subscripts_at
subscripts_read rest none ends = rw ends refl
subscripts_read rest (listed {texts} {ss} forms) ends =
    let list : parted_at subscript_at 44 ((texts ++ 41 ∷ []) ++ rest) ≡ Some (ss, 41 ∷ rest) =
    ap (parted_at subscript_at 44) (append_assoc texts (41 ∷ []) rest) ∙ parted_read subscript_at IsSubscript 44 IsBreak subscript_read (λ r. refl) subscript_some texts ss (41 ∷ rest) forms refl refl in
    rw list refl

-- a name word and subscripts

word_kind : (b : ℕ) → ends_word b ≡ not (is_word_byte b)
word_kind b = refl

pub named_found : (bytes : List ℕ) (r : Reference) (rest : List ℕ) → named_at bytes ≡ Some (r, rest) → FoundOf IsNamed bytes r rest
unfolding named_at
named_found bytes r rest e = at (length (front_word bytes) == 0) (subscripts_at (past_word bytes)) refl refl e
  where
    at : (t : Bool) (s : Option (List (List ℕ) × List ℕ)) → (length (front_word bytes) == 0) ≡ t → subscripts_at (past_word bytes) ≡ s →
        ◌≡◌ {A = Option (Reference × List ℕ)} (cond t None (option_map (λ x. (record { name = front_word bytes; subscripts = x.0 }, x.1)) s)) (Some (r, rest)) → FoundOf IsNamed bytes r rest
    at true s f g e = absurd cc
    at false None f g e = absurd cc
    at false (Some (ss, behind)) f g e =
        let made : Reference = record { name = front_word bytes; subscripts = ss } in
        let p = some_pair_parts made r behind rest e in
        let found = subscripts_found (past_word bytes) ss behind g in
        rw (← p.0, ← p.1) (record {
          text = front_word bytes ++ found.text;
          form = record { texts = found.text; word = run_passes ends_word is_word_byte word_kind bytes; some = some_length (front_word bytes) f; subscripts = found.form; parts = refl };
          parts = run_parts ends_word bytes ∙ ap (λ u. front_word bytes ++ u) found.parts ∙ sym (append_assoc (front_word bytes) found.text behind);
        })

-- what ends a reference ends its word, and opens no list
break_ends : (rest : List ℕ) → IsReferenceBreak rest → Ends ends_word rest × (begins_with_byte 40 rest ≡ false)
break_ends [] h = (tt, refl)
break_ends (b ∷ bs) h = let p = or_parts (is_word_byte b) (b == 40) h in (ap not p.0, p.1)

subscripts_end : {text : List ℕ} {ss : List (List ℕ)} (rest : List ℕ) → AreSubscripts text ss → Ends ends_word rest → Ends ends_word (text ++ rest)
subscripts_end rest none h = h
subscripts_end rest (listed forms) h = refl

pub named_read : (text : List ℕ) (r : Reference) (rest : List ℕ) → IsNamed text r → IsReferenceBreak rest → named_at (text ++ rest) ≡ Some (r, rest)
unfolding named_at
named_read text r rest form ends =
    let b = break_ends rest ends in
    let p = run_is ends_word is_word_byte word_kind r.name (form.texts ++ rest) form.word (subscripts_end rest form.subscripts b.0) in
    let parts : text ++ rest ≡ r.name ++ (form.texts ++ rest) = ap (λ u. u ++ rest) form.parts ∙ append_assoc r.name form.texts rest in
    rw (parts, p.0, p.1, some_test r.name form.some, subscripts_read rest form.subscripts b.1) refl

pub place_found : (bytes : List ℕ) (r : Reference) (rest : List ℕ) → place_at bytes ≡ Some (r, rest) → FoundOf IsReference bytes r rest
unfolding place_at
place_found bytes r rest e = at (begins_with_byte 94 bytes) refl e
  where
    at : (t : Bool) → begins_with_byte 94 bytes ≡ t → cond t (named_at (drop 1 bytes)) None ≡ Some (r, rest) → FoundOf IsReference bytes r rest
    at true f e =
        let found = named_found (drop 1 bytes) r rest e in
        record { text = 94 ∷ found.text; form = record { named = found.text; spelled = found.form; parts = refl }; parts = begins 94 bytes f ∙ ap (λ u. 94 ∷ u) found.parts }
    at false f e = absurd cc

pub place_read : (text : List ℕ) (r : Reference) (rest : List ℕ) → IsReference text r → IsReferenceBreak rest → place_at (text ++ rest) ≡ Some (r, rest)
unfolding place_at
place_read text r rest form ends = rw form.parts (named_read form.named r rest form.spelled ends)
