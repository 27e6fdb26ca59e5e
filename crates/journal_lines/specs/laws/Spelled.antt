-- The line of a step is of the grammar, and so is read as the step.
use Rattle.std.proofs.Common.{◌≡◌, ℕ, ◌<◌, ◌≤◌, ◌^◌, Bool, true, false, cond, List, [], ◌∷◌, ◌++◌, length, drop, Option, Some, None, Ok, refl, sym, ap, subst, ◌∙◌, arith, rules, decimal}
use Rattle.std.proofs.lemmas.Bool.{and_parts, and_from, leb-true}
use Rattle.std.proofs.lemmas.Bool.Decides.{nat_tests}
use Rattle.std.proofs.lemmas.List.{append-nil}
use Rattle.std.proofs.lemmas.List.Folds.{list_all-append}
use Rattle.std.proofs.lemmas.Str.Parse.{IsNumeralModel, numerals_by_fold}
use Rattle.std.proofs.lemmas.Fmt.{digits_decimal, digits_value-decimal, decimal_nonempty}
use Rattle.std.specs.Prelude.{codes, nat_le, nat_lt, ◌==◌}
use Rattle.std.specs.List.{list_all}
use Rattle.std.specs.Option.{option_or, option_and_then}
use Rattle.std.specs.Char.{is_ascii_digit}
use Rattle.refusal.specs.declared.Refusal.{Refusal}
use Rattle.refusal.specs.declared.Refusal.TheVariants.{BadName, TooManySubscripts, EmptySubscript, SubscriptTooLong}
use Rattle.collation.specs.Limits.{most_jobs, most_subscripts}
use Rattle.collation.specs.Name.{is_name}
use Rattle.collation.specs.Reference.{Reference, Spot, Resource}
use Rattle.collation.specs.Faults.{subscripts_fault, reference_fault, ends_open}
use Rattle.collation.specs.declared.direction.Direction.{Direction}
use Rattle.collation.specs.declared.direction.Direction.TheVariants.{Forward, Backward}
use Rattle.lock_name.specs.declared.lock.LockCommand.{LockCommand}
use Rattle.lock_name.specs.declared.lock.LockCommand.TheVariants.{Release, Only, More, Fewer}
use Rattle.key_codec.specs.laws.Draft.{closed_part-more, closed_part-whole}
use Rattle.command.specs.declared.access.DataCommand.{DataCommand}
use Rattle.command.specs.declared.access.DataCommand.TheVariants.{Set, Kill, Merge, Increment, Look}
use Rattle.command.specs.declared.access.Extent.{Extent}
use Rattle.command.specs.declared.access.Extent.TheVariants.{All, Value, Below}
use Rattle.canonic_number.specs.Number.{is_canonic}
use Rattle.command.specs.declared.access.Look.{Look as LookCommand}
use Rattle.command.specs.declared.access.Look.TheVariants.{Data, Get, Order, Query, Name}
use Rattle.command.specs.declared.request.Command.{Command}
use Rattle.command.specs.declared.request.Command.TheVariants.{Access, Lock, Start, Commit, Rollback, Restart, Level, Restarts, Halt}
use Rattle.m_text.specs.Reading.{◌>>=◌, after_byte}
use Rattle.m_text.specs.Literal.{number_from, literal_at}
use Rattle.m_text.specs.Place.{place_at, name_fault, ref_fault, spot_fault, spot_of, subscript_count}
use Rattle.m_text.specs.Written.{parted, literal_text, subscripts_text, reference_text}
use Rattle.m_text.specs.Forms.{IsParted, IsNamed, IsReferenceBreak, are_bytes, is_word_byte}
use Rattle.m_text.specs.Forms.IsParted.{one, more}
use Rattle.m_text.specs.laws.Place.{place_read}
use Rattle.m_text.specs.laws.Written.{literal_again, reference_form}
use Rattle.script.specs.Locking.{names_fault, lock_fault}
use Rattle.script.specs.Commands.{set_value_at, source_at, default_at, direction_at, step_at, placed_at, start_of, argument_at, names_at, structured_at, operands_by, operands_at, acts_at, functions_at, command_at, look_fault, data_fault, command_fault}
use Rattle.script.specs.Grammar.{IsTail, IsBlank, IsLockName, IsOneName, AreLockNames, IsLocking, IsCommand, IsLine}
use Rattle.script.specs.Grammar.IsTail.{order_of}
use Rattle.script.specs.Grammar.IsDirection.{no_direction}
use Rattle.script.specs.Grammar.IsLockName.{with_caret, without_caret}
use Rattle.script.specs.Grammar.AreLockNames.{one_name, names}
use Rattle.script.specs.Grammar.IsSign.{no_sign, plus, minus}
use Rattle.script.specs.Grammar.IsTimeout.{no_timeout}
use Rattle.script.specs.Grammar.IsCommand.{release, lock}
use Rattle.script.specs.Line.{is_job, reading_of}
use Rattle.script.specs.laws.Commands.{structured_none}
use Rattle.script.specs.laws.Line.{command_found, line_judged}
use Rattle.journal_lines.specs.Steps.{asked_reference, direction_text, start_text, kill_word, look_text, data_text, name_text, names_text, lock_text, command_text, step_text}
use Rattle.journal_lines.specs.Statements.{has_bytes, LooksAtBytes, HoldsBytes, AreNames, LocksBytes, CanBeSpelled}

-- a text without a fault has none in its parts

pub both_none : (a b : Option Refusal) → option_or a b ≡ None → (a ≡ None) × (b ≡ None)
both_none None b e = (refl, e)
both_none (Some f) b e = absurd cc

pub named : (r : Reference) → ref_fault r ≡ None → is_name r.name ≡ true
named r e = at (is_name r.name) refl
  where
    at : (t : Bool) → is_name r.name ≡ t → t ≡ true
    at true f = refl
    at false f = let g : ref_fault r ≡ Some BadName = rw f refl in absurd cc

-- references

one_blank : IsBlank (32 ∷ [])
one_blank = record { bytes = refl; some = omega arith }

reference_read : (r : Reference) (rest : List ℕ) → is_name r.name ≡ true → has_bytes r ≡ true → IsReferenceBreak rest → place_at (reference_text r ++ rest) ≡ Some (r, rest)
reference_read r rest name bytes ends = place_read (reference_text r) r rest (reference_form r name bytes) ends

literal_alone : (s : List ℕ) → are_bytes s ≡ true → literal_at (literal_text s) ≡ Some (s, [])
literal_alone s bytes = ap literal_at (sym (append-nil (literal_text s))) ∙ literal_again s [] bytes tt

reference_alone : (r : Reference) → is_name r.name ≡ true → has_bytes r ≡ true → place_at (reference_text r) ≡ Some (r, [])
reference_alone r name bytes = ap place_at (sym (append-nil (reference_text r))) ∙ reference_read r [] name bytes tt

-- a whole text that is read as a command is one
is_command : (text : List ℕ) (c : Command) → command_at text ≡ Some (c, []) → IsCommand text c
is_command text c e =
    let found = command_found text c [] e in
    subst (λ (u : List ℕ). IsCommand u c) (sym (found.parts ∙ append-nil found.text)) found.form

-- places

ends_open_more : (ss : List (List ℕ)) → ends_open (ss ++ [] ∷ []) ≡ true
ends_open_more [] = refl
ends_open_more (s ∷ []) = refl
ends_open_more (s ∷ t ∷ ss) = ends_open_more (t ∷ ss)

-- a list without a fault has no empty subscript
first_some : (s : List ℕ) (ss : List (List ℕ)) → subscripts_fault (s ∷ ss) ≡ None → ((length s == 0) ≡ false) × (subscripts_fault ss ≡ None)
first_some s ss e = at (length s == 0) (nat_lt 255 (length s)) refl e
  where
    at : (t u : Bool) → (length s == 0) ≡ t → cond t (Some EmptySubscript) (cond u (Some SubscriptTooLong) (subscripts_fault ss)) ≡ None → ((length s == 0) ≡ false) × (subscripts_fault ss ≡ None)
    at true u f e = absurd cc
    at false true f e = absurd cc
    at false false f e = (f, e)

ends_closed : (ss : List (List ℕ)) → subscripts_fault ss ≡ None → ends_open ss ≡ false
ends_closed [] e = refl
ends_closed (s ∷ []) e = (first_some s [] e).0
ends_closed (s ∷ t ∷ ss) e = ends_closed (t ∷ ss) (first_some s (t ∷ ss) e).1

abbrev pub spot : Reference → Bool → Spot
spot r t = record { reference = r; is_open = t }

-- what a place is spelled by
pub record IsAsked (r : Reference) (t : Bool) : Type 0 where
  pub again : spot_of (asked_reference (spot r t)) ≡ spot r t
  pub name : is_name (asked_reference (spot r t)).name ≡ true
  pub bytes : has_bytes (asked_reference (spot r t)) ≡ true

asked : (r : Reference) (t : Bool) → is_name r.name ≡ true → has_bytes r ≡ true → subscripts_fault r.subscripts ≡ None → IsAsked r t
asked r true name bytes sound = record {
  again = rw (closed_part-more r.subscripts [], ends_open_more r.subscripts) refl;
  name = name;
  bytes = list_all-append are_bytes r.subscripts ([] ∷ []) ∙ and_from _ _ bytes refl;
}
asked r false name bytes sound =
    let closed = ends_closed r.subscripts sound in
    record { again = rw (closed_part-whole r.subscripts closed, closed) refl; name = name; bytes = bytes }

not_too_many : (t : Bool) (r : Option Refusal) → cond t (Some TooManySubscripts) r ≡ None → r ≡ None
not_too_many true r e = absurd cc
not_too_many false r e = e

spot_name : (p : Spot) → spot_fault p ≡ None → is_name p.reference.name ≡ true
spot_name p e = at (is_name p.reference.name) (both_none _ _ e).0
  where
    at : (t : Bool) → cond t None (Some BadName) ≡ None → t ≡ true
    at true f = refl
    at false f = absurd cc

spot_sound : (p : Spot) → spot_fault p ≡ None → subscripts_fault p.reference.subscripts ≡ None
spot_sound p e =
    not_too_many (nat_lt most_subscripts (length p.reference.subscripts)) (subscripts_fault p.reference.subscripts)
    (not_too_many (nat_lt most_subscripts (subscript_count p)) (reference_fault p.reference.subscripts) (both_none _ _ e).1)

pub spelled : (p : Spot) → spot_fault p ≡ None → has_bytes p.reference ≡ true → IsAsked p.reference p.is_open
spelled p e bytes = asked p.reference p.is_open (spot_name p e) bytes (spot_sound p e)

-- acts

-- what a word wants after its reference, and the command of it
abbrev Wants : Type 0
Wants = Reference × List ℕ → Option (DataCommand × List ℕ)

-- after a word and a blank
abbrev acted : Wants → List ℕ → Option (Command × List ℕ)
acted wants text = (place_at text >>= wants) >>= λ command. Some (Access command.0, command.1)

set_wants : Wants
set_wants p = set_value_at p.1 >>= λ value. Some (Set p.0 value.0, value.1)

merge_wants : Wants
merge_wants p = source_at p.1 >>= λ source. Some (Merge p.0 source.0, source.1)

kill_wants : Extent → Wants
kill_wants extent p = Some (Kill p.0 extent, p.1)

set_text : (text : List ℕ) → command_at (codes "SET " ++ (94 ∷ text)) ≡ acted set_wants (94 ∷ text)
unfolding command_at acts_at operands_at placed_at set_wants
set_text text = refl

merge_text : (text : List ℕ) → command_at (codes "MERGE " ++ (94 ∷ text)) ≡ acted merge_wants (94 ∷ text)
unfolding command_at acts_at operands_at placed_at merge_wants
merge_text text = refl

kill_text : (extent : Extent) (text : List ℕ) → command_at (kill_word extent ++ (94 ∷ text)) ≡ acted (kill_wants extent) (94 ∷ text)
unfolding command_at acts_at operands_at placed_at kill_wants
kill_text All text = refl
kill_text Value text = refl
kill_text Below text = refl

acted_is : (wants : Wants) (r : Reference) (rest : List ℕ) (c : DataCommand) → is_name r.name ≡ true → has_bytes r ≡ true → IsReferenceBreak rest → wants (r, rest) ≡ Some (c, []) → acted wants (reference_text r ++ rest) ≡ Some (Access c, [])
acted_is wants r rest c name bytes ends e = rw (reference_read r rest name bytes ends, e) refl

set_is : (r : Reference) (value : List ℕ) → is_name r.name ≡ true → has_bytes r ≡ true → are_bytes value ≡ true → IsCommand (data_text (Set r value)) (Access (Set r value))
unfolding set_value_at set_wants
set_is r value name bytes string =
    is_command (data_text (Set r value)) (Access (Set r value))
    (set_text (r.name ++ subscripts_text r.subscripts ++ (61 ∷ literal_text value)) ∙ acted_is set_wants r (61 ∷ literal_text value) (Set r value) name bytes refl (rw (literal_alone value string) refl))

merge_is : (a b : Reference) → is_name a.name ≡ true → has_bytes a ≡ true → is_name b.name ≡ true → has_bytes b ≡ true → IsCommand (data_text (Merge a b)) (Access (Merge a b))
unfolding source_at merge_wants
merge_is a b name bytes source_name source_bytes =
    is_command (data_text (Merge a b)) (Access (Merge a b))
    (merge_text _ ∙ acted_is merge_wants a (61 ∷ reference_text b) (Merge a b) name bytes refl (rw (reference_alone b source_name source_bytes) refl))

kill_is : (r : Reference) (extent : Extent) → is_name r.name ≡ true → has_bytes r ≡ true → IsCommand (data_text (Kill r extent)) (Access (Kill r extent))
unfolding kill_wants
kill_is r extent name bytes =
    is_command (data_text (Kill r extent)) (Access (Kill r extent))
    (kill_text extent _ ∙ ap (acted (kill_wants extent)) (sym (append-nil (reference_text r))) ∙ acted_is (kill_wants extent) r [] (Kill r extent) name bytes tt refl)

-- functions

-- after a word and '(', before ')'
abbrev asking : Wants → List ℕ → Option (Command × List ℕ)
asking wants text = (place_at text >>= wants) >>= λ command. after_byte 41 command.1 >>= λ rest. Some (Access command.0, rest)

data_wants : Wants
data_wants p = Some (Look (Data p.0), p.1)

get_wants : Wants
get_wants p = default_at p.1 >>= λ default. Some (Look (Get p.0 default.0), default.1)

order_wants : Wants
order_wants p = direction_at p.1 >>= λ direction. Some (Look (Order (spot_of p.0) direction.0), direction.1)

increment_wants : Wants
increment_wants p = step_at p.1 >>= λ number. Some (Increment p.0 number.0, number.1)

query_wants : Wants
query_wants p = direction_at p.1 >>= λ direction. Some (Look (Query (spot_of p.0) direction.0), direction.1)

data_asks : (text : List ℕ) → command_at (codes "$DATA(" ++ text) ≡ asking data_wants text
unfolding command_at functions_at operands_at placed_at data_wants
data_asks text = refl

get_asks : (text : List ℕ) → command_at (codes "$GET(" ++ text) ≡ asking get_wants text
unfolding command_at functions_at operands_at placed_at get_wants
get_asks text = refl

-- behind the word of this tail a reference is none of names
placed_behind : {w : _} {s : Reference} {tail : List ℕ} {c : DataCommand} → IsTail w s tail c → (r : Reference) (rest : List ℕ) → is_name r.name ≡ true → has_bytes r ≡ true →
    operands_by (structured_at w (reference_text r ++ rest)) w (reference_text r ++ rest) ≡ placed_at w (reference_text r ++ rest)
placed_behind {w} of r rest name bytes = ap (λ s. operands_by s w (reference_text r ++ rest)) (structured_none w (reference_text r) r rest (reference_form r name bytes))

order_asks : (r : Reference) (rest : List ℕ) → is_name r.name ≡ true → has_bytes r ≡ true → command_at (codes "$ORDER(" ++ (reference_text r ++ rest)) ≡ asking order_wants (reference_text r ++ rest)
unfolding command_at functions_at operands_at placed_at order_wants
order_asks r rest name bytes =
    ap (λ (read : Option (DataCommand × List ℕ)). read >>= λ command. ◌>>=◌ {B = Command × List ℕ} (after_byte 41 command.1) (λ rest. Some (Access command.0, rest)))
    (placed_behind (order_of {r = r} no_direction) r rest name bytes)

increment_asks : (text : List ℕ) → command_at (codes "$INCREMENT(" ++ (94 ∷ text)) ≡ asking increment_wants (94 ∷ text)
unfolding command_at functions_at operands_at placed_at increment_wants
increment_asks text = refl

query_asks : (text : List ℕ) → command_at (codes "$QUERY(" ++ text) ≡ asking query_wants text
unfolding command_at functions_at operands_at placed_at query_wants
query_asks text = refl

asking_is : (wants : Wants) (r : Reference) (rest : List ℕ) (c : DataCommand) → is_name r.name ≡ true → has_bytes r ≡ true → IsReferenceBreak rest → wants (r, rest) ≡ Some (c, 41 ∷ []) → asking wants (reference_text r ++ rest) ≡ Some (Access c, [])
asking_is wants r rest c name bytes ends e = rw (reference_read r rest name bytes ends, e) refl

direction_read : (d : Direction) → direction_at (direction_text d ++ 41 ∷ []) ≡ Some (d, 41 ∷ [])
unfolding direction_at
direction_read Forward = refl
direction_read Backward = rw (literal_again (codes "-1") (41 ∷ []) refl refl) refl

direction_ends : (d : Direction) → IsReferenceBreak (direction_text d ++ 41 ∷ [])
direction_ends Forward = refl
direction_ends Backward = refl

order_wanted : (p : Spot) (d : Direction) → IsAsked p.reference p.is_open → order_wants (asked_reference p, direction_text d ++ 41 ∷ []) ≡ Some (Look (Order p d), 41 ∷ [])
unfolding order_wants
order_wanted p d h = rw (direction_read d) (ap (λ (q : Spot). Some (Look (Order q d), 41 ∷ [])) h.again)

query_wanted : (p : Spot) (d : Direction) → IsAsked p.reference p.is_open → query_wants (asked_reference p, direction_text d ++ 41 ∷ []) ≡ Some (Look (Query p d), 41 ∷ [])
unfolding query_wants
query_wanted p d h = rw (direction_read d) (ap (λ (q : Spot). Some (Look (Query q d), 41 ∷ [])) h.again)

default_read : (value : List ℕ) → are_bytes value ≡ true → default_at (44 ∷ (literal_text value ++ 41 ∷ [])) ≡ Some (Some value, 41 ∷ [])
unfolding default_at
default_read value bytes = rw (literal_again value (41 ∷ []) bytes refl) refl

data_of_is : (r : Reference) → is_name r.name ≡ true → has_bytes r ≡ true → command_at (look_text (Data r)) ≡ Some (Access (Look (Data r)), [])
unfolding data_wants
data_of_is r name bytes = data_asks _ ∙ asking_is data_wants r (41 ∷ []) (Look (Data r)) name bytes refl refl

get_is : (r : Reference) → is_name r.name ≡ true → has_bytes r ≡ true → command_at (look_text (Get r None)) ≡ Some (Access (Look (Get r None)), [])
unfolding get_wants default_at
get_is r name bytes = get_asks _ ∙ asking_is get_wants r (41 ∷ []) (Look (Get r None)) name bytes refl refl

get_or_is : (r : Reference) (value : List ℕ) → is_name r.name ≡ true → has_bytes r ≡ true → are_bytes value ≡ true → command_at (look_text (Get r (Some value))) ≡ Some (Access (Look (Get r (Some value))), [])
unfolding get_wants
get_or_is r value name bytes string =
    get_asks _ ∙ asking_is get_wants r (44 ∷ (literal_text value ++ 41 ∷ [])) (Look (Get r (Some value))) name bytes refl (rw (default_read value string) refl)

order_is : (p : Spot) (d : Direction) → IsAsked p.reference p.is_open → command_at (look_text (Order p d)) ≡ Some (Access (Look (Order p d)), [])
order_is p d h = order_asks (asked_reference p) (direction_text d ++ 41 ∷ []) h.name h.bytes ∙ asking_is order_wants (asked_reference p) (direction_text d ++ 41 ∷ []) (Look (Order p d)) h.name h.bytes (direction_ends d) (order_wanted p d h)

query_is : (p : Spot) (d : Direction) → IsAsked p.reference p.is_open → command_at (look_text (Query p d)) ≡ Some (Access (Look (Query p d)), [])
query_is p d h = query_asks _ ∙ asking_is query_wants (asked_reference p) (direction_text d ++ 41 ∷ []) (Look (Query p d)) h.name h.bytes (direction_ends d) (query_wanted p d h)

-- names of globals

word_byte : (b : ℕ) → is_word_byte b ≡ true → nat_le b 255 ≡ true
word_byte b e = grind (arith, nat_tests)

word_bytes : (bs : List ℕ) → list_all is_word_byte bs ≡ true → are_bytes bs ≡ true
word_bytes [] e = refl
word_bytes (b ∷ bs) e = let p = and_parts (is_word_byte b) _ e in and_from _ _ (word_byte b p.0) (word_bytes bs p.1)

name_sound : (n : List ℕ) → name_fault n ≡ None → is_name n ≡ true
name_sound n e = at (is_name n) refl
  where
    at : (t : Bool) → is_name n ≡ t → t ≡ true
    at true f = refl
    at false f = let g : name_fault n ≡ Some BadName = rw f refl in absurd cc

pub start_bytes : (start : Option (List ℕ)) → option_and_then name_fault start ≡ None → are_bytes (start_text start) ≡ true
start_bytes None sound = refl
start_bytes (Some n) sound =
    let form = reference_form (record { name = n; subscripts = [] }) (name_sound n sound) refl in
    word_bytes n form.spelled.word

start_again : (start : Option (List ℕ)) → start_of (start_text start) ≡ start
start_again None = refl
start_again (Some n) = refl

names_is : (start : Option (List ℕ)) (d : Direction) → are_bytes (start_text start) ≡ true → command_at (look_text (Name start d)) ≡ Some (Access (Look (Name start d)), [])
unfolding command_at functions_at operands_at names_at argument_at
names_is start d bytes =
    rw (literal_again (start_text start) (41 ∷ (direction_text d ++ 41 ∷ [])) bytes refl, direction_read d) (ap (λ (n : Option (List ℕ)). Some (Access (Look (Name n d)), [])) (start_again start))

look_read : (look : LookCommand) → LooksAtBytes look → look_fault look ≡ None → command_at (look_text look) ≡ Some (Access (Look look), [])
look_read (Data r) bytes sound = data_of_is r (named r sound) bytes
look_read (Get r None) bytes sound = get_is r (named r (both_none _ _ sound).0) bytes
look_read (Get r (Some value)) bytes sound = get_or_is r value (named r (both_none _ _ sound).0) bytes.0 bytes.1
look_read (Order p d) bytes sound = order_is p d (spelled p sound bytes)
look_read (Query p d) bytes sound = query_is p d (spelled p sound bytes)
look_read (Name start d) bytes sound = names_is start d (start_bytes start sound)

-- data commands

step_read_of : (n : List ℕ) → are_bytes n ≡ true → is_canonic n ≡ true → step_at (44 ∷ (literal_text n ++ 41 ∷ [])) ≡ Some (n, 41 ∷ [])
unfolding step_at
step_read_of n bytes canonic = rw (literal_again n (41 ∷ []) bytes refl, canonic) refl

increment_is : (r : Reference) (n : List ℕ) → is_name r.name ≡ true → has_bytes r ≡ true → are_bytes n ≡ true → is_canonic n ≡ true → command_at (data_text (Increment r n)) ≡ Some (Access (Increment r n), [])
unfolding increment_wants
increment_is r n name bytes string canonic = increment_asks _ ∙ asking_is increment_wants r (44 ∷ (literal_text n ++ 41 ∷ [])) (Increment r n) name bytes refl (rw (step_read_of n string canonic) refl)

data_is : (c : DataCommand) → HoldsBytes c → data_fault c ≡ None → IsCommand (data_text c) (Access c)
data_is (Set r value) bytes sound = set_is r value (named r (both_none _ _ sound).0) bytes.0 bytes.1
data_is (Kill r extent) bytes sound = kill_is r extent (named r sound) bytes
data_is (Merge a b) bytes sound =
    let e = both_none (ref_fault a) (ref_fault b) sound in
    merge_is a b (named a e.0) bytes.0 (named b e.1) bytes.1
data_is (Increment r n) bytes sound = is_command (data_text (Increment r n)) (Access (Increment r n)) (increment_is r n (named r (both_none _ _ sound).0) bytes.0 bytes.1 bytes.2)
data_is (Look look) bytes sound = is_command (look_text look) (Access (Look look)) (look_read look bytes sound)

-- lock names

named_form : (r : Reference) → is_name r.name ≡ true → has_bytes r ≡ true → IsNamed (r.name ++ subscripts_text r.subscripts) r
named_form r name bytes = let form = reference_form r name bytes in subst (λ (u : List ℕ). IsNamed u r) (sym (ap (drop 1) form.parts)) form.spelled

name_is : (n : Resource) → is_name n.reference.name ≡ true → has_bytes n.reference ≡ true → IsLockName (name_text n) n
name_is n name bytes = at n.has_caret
  where
    at : (t : Bool) → IsLockName (cond t (reference_text n.reference) (n.reference.name ++ subscripts_text n.reference.subscripts)) (record { has_caret = t; reference = n.reference })
    at true = with_caret (reference_form n.reference name bytes)
    at false = without_caret (named_form n.reference name bytes)

-- the bytes of lock names
abbrev pub holds_bytes : Resource → Bool
holds_bytes n = has_bytes n.reference

one_is : (n : Resource) → ref_fault n.reference ≡ None → has_bytes n.reference ≡ true → IsOneName (name_text n) (n ∷ [])
one_is n sound bytes = record { name = n; spelled = name_is n (named n.reference sound) bytes; alone = refl }

parted_is : (n : Resource) (ns : List Resource) → names_fault (n ∷ ns) ≡ None → list_all holds_bytes (n ∷ ns) ≡ true → IsParted IsOneName 44 (parted 44 name_text (n ∷ ns)) (n ∷ ns)
parted_is n [] sound bytes =
    subst (λ (u : List ℕ). IsParted IsOneName 44 u (n ∷ [])) (sym (append-nil (name_text n)))
    (one (one_is n (both_none _ _ sound).0 (and_parts (holds_bytes n) true bytes).0))
parted_is n (m ∷ ns) sound bytes =
    let e = both_none (ref_fault n.reference) (names_fault (m ∷ ns)) sound in
    let b = and_parts (holds_bytes n) (list_all holds_bytes (m ∷ ns)) bytes in
    more {text = name_text n} {texts = parted 44 name_text (m ∷ ns)} {x = n ∷ []} {xs = m ∷ ns} (one_is n e.0 b.0) (parted_is m ns e.1 b.1)

names_are : (ns : List Resource) → names_fault ns ≡ None → AreNames ns → AreLockNames (names_text ns) ns
names_are [] sound h = absurd (omega (arith, h.0))
names_are (n ∷ []) sound h = one_name (one_is n (both_none _ _ sound).0 (and_parts (holds_bytes n) true h.1).0)
names_are (n ∷ m ∷ ns) sound h = names (parted_is n (m ∷ ns) sound h.1)

names_are_locked : (ns : List Resource) → names_fault ns ≡ None → AreNames ns → IsLocking (names_text ns) (Only ns)
names_are_locked ns sound h = record { sign = []; listed = names_text ns; ending = []; form = _; resources = ns; signed = no_sign; spelled = names_are ns sound h; timed = no_timeout; asked = refl; parts = sym (append-nil (names_text ns)) }

names_are_added : (ns : List Resource) → names_fault ns ≡ None → AreNames ns → IsLocking (43 ∷ names_text ns) (More ns)
names_are_added ns sound h = record {
  sign = 43 ∷ [];
  listed = names_text ns;
  ending = [];
  form = _;
  resources = ns;
  signed = plus;
  spelled = names_are ns sound h;
  timed = no_timeout;
  asked = refl;
  parts = ap (λ (u : List ℕ). 43 ∷ u) (sym (append-nil (names_text ns)));
}

names_are_released : (ns : List Resource) → names_fault ns ≡ None → AreNames ns → IsLocking (45 ∷ names_text ns) (Fewer ns)
names_are_released ns sound h = record {
  sign = 45 ∷ [];
  listed = names_text ns;
  ending = [];
  form = _;
  resources = ns;
  signed = minus;
  spelled = names_are ns sound h;
  timed = no_timeout;
  asked = refl;
  parts = ap (λ (u : List ℕ). 45 ∷ u) (sym (append-nil (names_text ns)));
}

names_lock : (text : List ℕ) (c : LockCommand) → IsLocking text c → IsCommand (codes "LOCK" ++ (32 ∷ text)) (Lock c)
names_lock text c is = lock {letters = codes "LOCK"} {blank = 32 ∷ []} {text = text} {c = c} (record { named = refl }) one_blank is

lock_is : (c : LockCommand) → LocksBytes c → lock_fault c ≡ None → IsCommand (lock_text c) (Lock c)
lock_is Release h sound = release (record { named = refl })
lock_is (Only ns) h sound = names_lock (names_text ns) (Only ns) (names_are_locked ns sound h)
lock_is (More ns) h sound = names_lock (43 ∷ names_text ns) (More ns) (names_are_added ns sound h)
lock_is (Fewer ns) h sound = names_lock (45 ∷ names_text ns) (Fewer ns) (names_are_released ns sound h)

-- words alone

word_start : command_at (codes "TSTART") ≡ Some (Start, [])
unfolding command_at acts_at
word_start = refl

word_commit : command_at (codes "TCOMMIT") ≡ Some (Commit, [])
unfolding command_at acts_at
word_commit = refl

word_rollback : command_at (codes "TROLLBACK") ≡ Some (Rollback, [])
unfolding command_at acts_at
word_rollback = refl

word_restart : command_at (codes "TRESTART") ≡ Some (Restart, [])
unfolding command_at acts_at
word_restart = refl

word_level : command_at (codes "$TLEVEL") ≡ Some (Level, [])
unfolding command_at functions_at
word_level = refl

word_restarts : command_at (codes "$TRESTART") ≡ Some (Restarts, [])
unfolding command_at functions_at
word_restarts = refl

word_halt : command_at (codes "HALT") ≡ Some (Halt, [])
unfolding command_at acts_at
word_halt = refl

-- commands

command_is : (c : Command) → CanBeSpelled c → command_fault c ≡ None → IsCommand (command_text c) c
command_is (Access command) h sound = data_is command h sound
command_is (Lock command) h sound = lock_is command h sound
command_is Start h sound = is_command (codes "TSTART") Start word_start
command_is Commit h sound = is_command (codes "TCOMMIT") Commit word_commit
command_is Rollback h sound = is_command (codes "TROLLBACK") Rollback word_rollback
command_is Restart h sound = is_command (codes "TRESTART") Restart word_restart
command_is Level h sound = is_command (codes "$TLEVEL") Level word_level
command_is Restarts h sound = is_command (codes "$TRESTART") Restarts word_restarts
command_is Halt h sound = is_command (codes "HALT") Halt word_halt

-- lines

own : IsNumeralModel (λ ds. list_all is_ascii_digit ds ≡ true) (number_from 0)
own = numerals_by_fold _ (search rules) number_from (search rules)

line_is : (job : ℕ) (c : Command) → job < 2 ^ 64 → IsCommand (command_text c) c → IsLine (step_text job c) job c
line_is job c wide is = record {
  digits = decimal job;
  blank = 32 ∷ [];
  command = command_text c;
  tail = [];
  numbered = digits_decimal own job wide;
  some = decimal_nonempty job wide;
  number = sym (digits_value-decimal own job wide);
  parted = one_blank;
  spelled = is;
  ended = refl;
  parts = ap (λ (u : List ℕ). decimal job ++ (32 ∷ u)) (sym (append-nil (command_text c)));
}

-- a job's number fits
pub job_fits : (job : ℕ) → is_job job ≡ true → job < 2 ^ 64
job_fits job numbered = let high : job ≤ most_jobs = leb-true job most_jobs (and_parts (nat_le 1 job) _ numbered).1 in omega (arith, high)

pub step_read : (job : ℕ) (c : Command) → is_job job ≡ true → CanBeSpelled c → command_fault c ≡ None → reading_of (step_text job c) ≡ Ok (job, c)
step_read job c numbered h sound = line_judged (step_text job c) job c (line_is job c (job_fits job numbered) (command_is c h sound)) ∙ rw (numbered, sound) refl
