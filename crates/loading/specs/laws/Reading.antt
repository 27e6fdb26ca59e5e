-- What a script reads of such a line is a SET, and what is read of bytes is a node.
use Rattle.std.proofs.Common.{◌≡◌, inl, inr, ℕ, Bool, true, false, cond, List, [], ◌∷◌, ◌++◌, length, take, drop, Option, Some, None, Result, Ok, Err, refl, sym, ap, ◌∙◌, arith}
use Rattle.std.proofs.lemmas.Bool.{and_parts, and_from, le-leb, leb-true, eqb-true}
use Rattle.std.proofs.lemmas.List.{take-append-drop}
use Rattle.std.proofs.lemmas.List.Folds.{list_all-append}
use Rattle.std.specs.Prelude.{◌⊎◌, ◌==◌, nat_le}
use Rattle.std.specs.List.{list_all, flat_map}
use Rattle.std.specs.Option.{option_or}
use Rattle.refusal.specs.declared.Refusal.{Refusal}
use Rattle.refusal.specs.declared.Refusal.TheVariants.{BadLine}
use Rattle.canonic_number.specs.Literal.{canonic_of}
use Rattle.canonic_number.specs.laws.Literal.{canonic_is_literal, literal_is_spelled, answers_are_canonic}
use Rattle.collation.specs.Reference.{Reference}
use Rattle.command.specs.declared.access.DataCommand.{DataCommand}
use Rattle.command.specs.declared.access.DataCommand.TheVariants.{Set}
use Rattle.command.specs.declared.request.Command.{Command}
use Rattle.command.specs.declared.request.Command.TheVariants.{Access}
use Rattle.m_text.specs.Reading.{◌>>=◌, after_byte}
use Rattle.m_text.specs.Literal.{literal_at}
use Rattle.m_text.specs.Place.{place_at, ref_fault, unless}
use Rattle.m_text.specs.Written.{is_plain, doubled, quoted}
use Rattle.m_text.specs.Forms.{IsParted, IsCode, IsPart, IsLiteral, IsSubscript, AreSubscripts, IsReference, are_bytes}
use Rattle.m_text.specs.Forms.IsParted.{one, more}
use Rattle.m_text.specs.Forms.AreSubscripts.{none, listed}
use Rattle.m_text.specs.laws.Literal.{literal_found}
use Rattle.m_text.specs.laws.Place.{place_found}
use Rattle.script.specs.Commands.{past_blank, set_value_at, placed_at, operands_at, command_at, acts_at, value_fault, data_fault}
use Rattle.script.specs.Line.{end_of, spelled_by, judged, reading_of}
use Rattle.script.specs.laws.Commands.{and_then_some, after_found}
use Rattle.loading.specs.Settings.{Setting, set_line, asked_in, setting_at}
use Rattle.loading.specs.Statements.{step_for, is_node, LinesAskForSets}
use Rattle.loading.specs.laws.Plain.{are_plain, number_plain}

-- what stands after the word and its blank
abbrev pub operand : List ℕ → List ℕ
operand line = past_blank (32 ∷ line)

-- a reference, and what SET wants after it
abbrev pub sets : Option (Reference × List ℕ) → Option (DataCommand × List ℕ)
sets place = place >>= λ p. set_value_at p.1 >>= λ v. Some (Set p.0 v.0, v.1)

-- a command at the end of a line of job 1
abbrev pub finished : Option (DataCommand × List ℕ) → Result (ℕ × Command) Refusal
finished read = judged 1 ((read >>= λ command. Some (Access command.0, command.1)) >>= λ x. end_of x)

pub reading_is : (line : List ℕ) → reading_of (set_line line) ≡ finished (sets (place_at (operand line)))
unfolding reading_of spelled_by command_at acts_at operands_at placed_at
reading_is line = refl

-- a reference, '=' and a value stand there, and neither is at fault
record IsFound (line : List ℕ) (s : Setting) : Type 0 where
  rest : List ℕ
  behind : List ℕ
  place : place_at (operand line) ≡ Some (s.0, rest)
  value : set_value_at rest ≡ Some (s.1, behind)
  sound : data_fault (Set s.0 s.1) ≡ None

-- a SET of job 1, or a refusal
abbrev IsRead : List ℕ → Result (ℕ × Command) Refusal → Type 0
IsRead line result = ((s : Setting) × (result ≡ Ok (1, Access (Set s.0 s.1))) × IsFound line s) ⊎ ((refusal : Refusal) × (result ≡ Err refusal))

read_sound : (line : List ℕ) (r : Reference) (v rest behind : List ℕ) → place_at (operand line) ≡ Some (r, rest) → set_value_at rest ≡ Some (v, behind) → (fault : Option Refusal) → data_fault (Set r v) ≡ fault → IsRead line (unless fault (1, Access (Set r v)))
read_sound line r v rest behind f g None h = inl ((r, v), refl, record { rest = rest; behind = behind; place = f; value = g; sound = h })
read_sound line r v rest behind f g (Some refusal) h = inr (refusal, refl)

read_value : (line : List ℕ) (r : Reference) (rest : List ℕ) → place_at (operand line) ≡ Some (r, rest) → (value : Option (List ℕ × List ℕ)) → set_value_at rest ≡ value → IsRead line (finished (value >>= λ v. Some (Set r v.0, v.1)))
read_value line r rest f None g = inr (BadLine, refl)
read_value line r rest f (Some (v, behind)) g = at (length (past_blank behind) == 0)
  where
    at : (t : Bool) → IsRead line (judged 1 (cond t (Some (Access (Set r v))) None))
    at true = read_sound line r v rest behind f g (data_fault (Set r v)) refl
    at false = inr (BadLine, refl)

read_place : (line : List ℕ) (place : Option (Reference × List ℕ)) → place_at (operand line) ≡ place → IsRead line (finished (sets place))
read_place line None f = inr (BadLine, refl)
read_place line (Some (r, rest)) f = read_value line r rest f (set_value_at rest) refl

line_read : (line : List ℕ) → IsRead line (reading_of (set_line line))
line_read line = rw (reading_is line) (read_place line (place_at (operand line)) refl)

pub asks_for_set : LinesAskForSets
asks_for_set line = at (reading_of (set_line line)) (line_read line)
  where
    at : (result : Result (ℕ × Command) Refusal) → IsRead line result → result ≡ step_for (asked_in result)
    at result (inl (s, is, found)) = rw is refl
    at result (inr (refusal, is)) = rw is refl

found : (line : List ℕ) (s : Setting) → setting_at line ≡ Ok s → IsFound line s
found line s e = at (reading_of (set_line line)) (line_read line) e
  where
    at : (result : Result (ℕ × Command) Refusal) → IsRead line result → asked_in result ≡ Ok s → IsFound line s
    at result (inl (t, is, there)) e = let same : t ≡ s = ok_same (ap asked_in (sym is) ∙ e) in rw (← same) there
      where
        ok_same : {a b : Setting} → ◌≡◌ {A = Result Setting Refusal} (Ok a) (Ok b) → a ≡ b
        ok_same h = cc
    at result (inr (refusal, is)) e = let never : ◌≡◌ {A = Result Setting Refusal} (Err refusal) (Ok s) = ap asked_in (sym is) ∙ e in absurd cc

-- bytes

abbrev is_byte : ℕ → Bool
is_byte b = nat_le b 255

pub front_bytes : (xs ys : List ℕ) → are_bytes (xs ++ ys) ≡ true → (are_bytes xs ≡ true) × (are_bytes ys ≡ true)
front_bytes xs ys e = and_parts (are_bytes xs) (are_bytes ys) (sym (list_all-append is_byte xs ys) ∙ e)

joined_bytes : (xs ys : List ℕ) → are_bytes xs ≡ true → are_bytes ys ≡ true → are_bytes (xs ++ ys) ≡ true
joined_bytes xs ys e f = list_all-append is_byte xs ys ∙ and_from _ _ e f

pub take_bytes : (n : ℕ) (xs : List ℕ) → are_bytes xs ≡ true → are_bytes (take n xs) ≡ true
take_bytes n xs e = (front_bytes (take n xs) (drop n xs) (ap are_bytes (take-append-drop n xs) ∙ e)).0

drop_bytes : (n : ℕ) (xs : List ℕ) → are_bytes xs ≡ true → are_bytes (drop n xs) ≡ true
drop_bytes n xs e = (front_bytes (take n xs) (drop n xs) (ap are_bytes (take-append-drop n xs) ∙ e)).1

plain_byte : (b : ℕ) → is_plain b ≡ true → is_byte b ≡ true
plain_byte b e =
    let low = leb-true b 126 (and_parts (nat_le 32 b) _ e).1 in
    le-leb b 255 (omega (arith, low))

plain_bytes : (xs : List ℕ) → are_plain xs ≡ true → are_bytes xs ≡ true
plain_bytes [] e = refl
plain_bytes (b ∷ bs) e = let p = and_parts (is_plain b) _ e in and_from _ _ (plain_byte b p.0) (plain_bytes bs p.1)

undoubled : (s : List ℕ) → are_bytes (flat_map doubled s) ≡ true → are_bytes s ≡ true
undoubled [] e = refl
undoubled (b ∷ bs) e = let p = front_bytes (doubled b) (flat_map doubled bs) e in and_from _ _ (at (b == 34) refl p.0) (undoubled bs p.1)
  where
    at : (t : Bool) → (b == 34) ≡ t → are_bytes (cond t (34 ∷ 34 ∷ []) (b ∷ [])) ≡ true → is_byte b ≡ true
    at true f h = rw (eqb-true b 34 f) refl
    at false f h = (and_parts (is_byte b) true h).0

unquoted : (s : List ℕ) → are_bytes (quoted s) ≡ true → are_bytes s ≡ true
unquoted s e = undoubled s (front_bytes (flat_map doubled s) (34 ∷ []) e).0

codes_bytes : {text s : List ℕ} → IsParted IsCode 44 text s → are_bytes s ≡ true
codes_bytes (one {text} {x} form) = ap are_bytes form.byte ∙ and_from _ _ (le-leb _ 255 form.small) refl
codes_bytes (more {text} {texts} {x} {xs} form forms) = joined_bytes x xs (ap are_bytes form.byte ∙ and_from _ _ (le-leb _ 255 form.small) refl) (codes_bytes forms)

part_bytes : (text s : List ℕ) → IsPart text s → are_bytes text ≡ true → are_bytes s ≡ true
part_bytes text s (inl e) h = unquoted s (ap are_bytes (sym e) ∙ h)
part_bytes text s (inr form) h = codes_bytes form.listed

parts_bytes : {text s : List ℕ} → IsParted IsPart 95 text s → are_bytes text ≡ true → are_bytes s ≡ true
parts_bytes (one {text} {x} form) h = part_bytes text x form h
parts_bytes (more {text} {texts} {x} {xs} form forms) h =
    let p = front_bytes text (95 ∷ texts) h in
    joined_bytes x xs (part_bytes text x form p.0) (parts_bytes forms p.1)

literal_bytes : (text s : List ℕ) → IsLiteral text s → are_bytes text ≡ true → are_bytes s ≡ true
literal_bytes text s (inl form) h =
    let canonic = answers_are_canonic text ((literal_is_spelled text).1 form.0) in
    ap are_bytes form.1 ∙ plain_bytes (canonic_of text) (number_plain ((literal_is_spelled (canonic_of text)).0 (canonic_is_literal (canonic_of text) canonic)))
literal_bytes text s (inr form) h = parts_bytes form h

subscripts_bytes : {text : List ℕ} {ss : List (List ℕ)} → IsParted IsSubscript 44 text ss → are_bytes text ≡ true → list_all are_bytes ss ≡ true
subscripts_bytes (one {text} {x} form) h = ap (list_all are_bytes) form.alone ∙ and_from _ _ (literal_bytes text form.string form.literal h) refl
subscripts_bytes (more {text} {texts} {x} {xs} form forms) h =
    let p = front_bytes text (44 ∷ texts) h in
    list_all-append are_bytes x xs ∙ and_from _ _ (ap (list_all are_bytes) form.alone ∙ and_from _ _ (literal_bytes text form.string form.literal p.0) refl) (subscripts_bytes forms p.1)

list_bytes : {text : List ℕ} {ss : List (List ℕ)} → AreSubscripts text ss → are_bytes text ≡ true → list_all are_bytes ss ≡ true
list_bytes none h = refl
list_bytes (listed {texts} {ss} forms) h = subscripts_bytes forms (front_bytes texts (41 ∷ []) h).0

reference_bytes : (text : List ℕ) (r : Reference) → IsReference text r → are_bytes text ≡ true → list_all are_bytes r.subscripts ≡ true
reference_bytes text r form h =
    let named : are_bytes form.named ≡ true = ap are_bytes (sym form.parts) ∙ h in
    list_bytes form.spelled.subscripts (front_bytes r.name form.spelled.texts (ap are_bytes (sym form.spelled.parts) ∙ named)).1

no_faults : (a b : Option Refusal) → option_or a b ≡ None → (a ≡ None) × (b ≡ None)
no_faults None b e = (refl, e)
no_faults (Some x) b e = absurd cc

-- what a line of bytes sets is a node
pub setting_node : (line : List ℕ) (s : Setting) → are_bytes line ≡ true → setting_at line ≡ Ok s → is_node s ≡ true
unfolding set_value_at
setting_node line s bytes e =
    let there = found line s e in
    let place = place_found (operand line) s.0 there.rest there.place in
    let all : are_bytes (place.text ++ there.rest) ≡ true = ap are_bytes (sym place.parts) ∙ drop_bytes _ (32 ∷ line) bytes in
    let p = front_bytes place.text there.rest all in
    let a = and_then_some (after_byte 61 there.rest) (λ rest. literal_at rest) (s.1, there.behind) there.value in
    let behind : are_bytes (61 ∷ a.0) ≡ true = ap are_bytes (sym (after_found 61 there.rest a.0 a.1)) ∙ p.1 in
    let value = literal_found a.0 s.1 there.behind a.2 in
    let text : are_bytes (value.text ++ there.behind) ≡ true = ap are_bytes (sym value.parts) ∙ behind in
    let faults = no_faults (ref_fault s.0) (value_fault s.1) there.sound in
    rw (faults.0, faults.1, reference_bytes place.text s.0 place.form p.0, literal_bytes value.text s.1 value.form (front_bytes value.text there.behind text).0) refl
