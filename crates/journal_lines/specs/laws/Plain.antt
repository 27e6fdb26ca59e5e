-- What is written of a step is of bytes 32 to 126.
use Rattle.std.proofs.Common.{◌≡◌, ℕ, Bool, true, false, cond, List, [], ◌∷◌, ◌++◌, Some, None, refl, arith, rules, decimal}
use Rattle.std.proofs.lemmas.Bool.{and_parts, and_from}
use Rattle.std.proofs.lemmas.Bool.Decides.{nat_tests}
use Rattle.std.proofs.lemmas.Str.Parse.{IsNumeralModel, numerals_by_fold}
use Rattle.std.proofs.lemmas.Fmt.{digits_decimal}
use Rattle.std.specs.List.{list_all, flat_map}
use Rattle.std.specs.Char.{is_ascii_digit}
use Rattle.collation.specs.Name.{is_name}
use Rattle.collation.specs.Reference.{Reference, Resource}
use Rattle.collation.specs.declared.direction.Direction.{Direction}
use Rattle.collation.specs.declared.direction.Direction.TheVariants.{Forward, Backward}
use Rattle.lock_name.specs.declared.lock.LockCommand.{LockCommand}
use Rattle.lock_name.specs.declared.lock.LockCommand.TheVariants.{Release, Only, More, Fewer}
use Rattle.command.specs.declared.access.Extent.{Extent}
use Rattle.command.specs.declared.access.Extent.TheVariants.{All, Value, Below}
use Rattle.command.specs.declared.access.DataCommand.{DataCommand}
use Rattle.command.specs.declared.access.DataCommand.TheVariants.{Set, Kill, Merge, Increment, Look}
use Rattle.command.specs.declared.access.Look.{Look as LookCommand}
use Rattle.command.specs.declared.access.Look.TheVariants.{Data, Get, Order, Query, Name}
use Rattle.command.specs.declared.request.Command.{Command}
use Rattle.command.specs.declared.request.Command.TheVariants.{Access, Lock, Start, Commit, Rollback, Restart, Level, Restarts, Halt}
use Rattle.m_text.specs.Literal.{number_from}
use Rattle.m_text.specs.Place.{ref_fault}
use Rattle.m_text.specs.Written.{is_plain, parted, literal_text, subscripts_text, reference_text}
use Rattle.m_text.specs.Forms.{are_bytes}
use Rattle.script.specs.Locking.{names_fault, lock_fault}
use Rattle.script.specs.Commands.{look_fault, data_fault, command_fault}
use Rattle.script.specs.Line.{is_job}
use Rattle.loading.specs.laws.Plain.{are_plain, both, literal_plain, reference_plain}
use Rattle.journal_lines.specs.Steps.{asked_reference, direction_text, start_text, kill_word, look_text, data_text, name_text, names_text, lock_text, command_text, step_text}
use Rattle.journal_lines.specs.Statements.{has_bytes, LooksAtBytes, HoldsBytes, LocksBytes, CanBeSpelled}
use Rattle.journal_lines.specs.laws.Spelled.{both_none, named, spelled, start_bytes, holds_bytes, job_fits}

-- digits

own : IsNumeralModel (λ ds. list_all is_ascii_digit ds ≡ true) (number_from 0)
own = numerals_by_fold _ (search rules) number_from (search rules)

digit_plain : (d : ℕ) → is_ascii_digit d ≡ true → is_plain d ≡ true
digit_plain d e = grind (arith, nat_tests)

digits_plain : (ds : List ℕ) → list_all is_ascii_digit ds ≡ true → are_plain ds ≡ true
digits_plain [] e = refl
digits_plain (d ∷ ds) e = let p = and_parts (is_ascii_digit d) _ e in and_from _ _ (digit_plain d p.0) (digits_plain ds p.1)

-- commands that look

default_plain : (value : List ℕ) → are_bytes value ≡ true → are_plain (44 ∷ (literal_text value ++ 41 ∷ [])) ≡ true
default_plain value bytes = both (literal_text value) (41 ∷ []) (literal_plain value bytes) refl

direction_plain : (d : Direction) → are_plain (direction_text d ++ 41 ∷ []) ≡ true
direction_plain Forward = refl
direction_plain Backward = refl

in_parentheses : (r : Reference) (tail : List ℕ) → is_name r.name ≡ true → has_bytes r ≡ true → are_plain tail ≡ true → are_plain (reference_text r ++ tail) ≡ true
in_parentheses r tail name bytes plain = both (reference_text r) tail (reference_plain r name bytes) plain

look_plain : (look : LookCommand) → LooksAtBytes look → look_fault look ≡ None → are_plain (look_text look) ≡ true
look_plain (Data r) bytes sound = in_parentheses r (41 ∷ []) (named r sound) bytes refl
look_plain (Get r None) bytes sound = in_parentheses r (41 ∷ []) (named r (both_none _ _ sound).0) bytes refl
look_plain (Get r (Some value)) bytes sound = in_parentheses r (44 ∷ (literal_text value ++ 41 ∷ [])) (named r (both_none _ _ sound).0) bytes.0 (default_plain value bytes.1)
look_plain (Order p d) bytes sound = let h = spelled p sound bytes in in_parentheses (asked_reference p) (direction_text d ++ 41 ∷ []) h.name h.bytes (direction_plain d)
look_plain (Query p d) bytes sound = let h = spelled p sound bytes in in_parentheses (asked_reference p) (direction_text d ++ 41 ∷ []) h.name h.bytes (direction_plain d)
look_plain (Name start d) bytes sound =
    let tail : List ℕ = 41 ∷ (direction_text d ++ 41 ∷ []) in
    both (literal_text (start_text start)) tail (literal_plain (start_text start) (start_bytes start sound)) (direction_plain d)

-- data commands

kill_plain : (extent : Extent) (r : Reference) → are_plain (reference_text r) ≡ true → are_plain (kill_word extent ++ reference_text r) ≡ true
kill_plain All r plain = plain
kill_plain Value r plain = plain
kill_plain Below r plain = plain

data_plain : (c : DataCommand) → HoldsBytes c → data_fault c ≡ None → are_plain (data_text c) ≡ true
data_plain (Set r value) bytes sound = in_parentheses r (61 ∷ literal_text value) (named r (both_none _ _ sound).0) bytes.0 (literal_plain value bytes.1)
data_plain (Kill r extent) bytes sound = kill_plain extent r (reference_plain r (named r sound) bytes)
data_plain (Merge a b) bytes sound =
    let e = both_none (ref_fault a) (ref_fault b) sound in
    in_parentheses a (61 ∷ reference_text b) (named a e.0) bytes.0 (reference_plain b (named b e.1) bytes.1)
data_plain (Increment r n) bytes sound = in_parentheses r (44 ∷ (literal_text n ++ 41 ∷ [])) (named r (both_none _ _ sound).0) bytes.0 (default_plain n bytes.1)
data_plain (Look look) bytes sound = look_plain look bytes sound

-- lock names

name_plain : (n : Resource) → ref_fault n.reference ≡ None → has_bytes n.reference ≡ true → are_plain (name_text n) ≡ true
name_plain n sound bytes = at n.has_caret
  where
    at : (t : Bool) → are_plain (cond t (reference_text n.reference) (n.reference.name ++ subscripts_text n.reference.subscripts)) ≡ true
    at true = reference_plain n.reference (named n.reference sound) bytes
    at false = reference_plain n.reference (named n.reference sound) bytes

more_plain : (ns : List Resource) → names_fault ns ≡ None → list_all holds_bytes ns ≡ true → are_plain (flat_map (λ n. 44 ∷ name_text n) ns) ≡ true
more_plain [] sound bytes = refl
more_plain (n ∷ ns) sound bytes =
    let e = both_none (ref_fault n.reference) (names_fault ns) sound in
    let b = and_parts (holds_bytes n) (list_all holds_bytes ns) bytes in
    both (name_text n) (flat_map (λ n. 44 ∷ name_text n) ns) (name_plain n e.0 b.0) (more_plain ns e.1 b.1)

listed_plain : (n : Resource) (ns : List Resource) → names_fault (n ∷ ns) ≡ None → list_all holds_bytes (n ∷ ns) ≡ true → are_plain (parted 44 name_text (n ∷ ns)) ≡ true
listed_plain n ns sound bytes =
    let e = both_none (ref_fault n.reference) (names_fault ns) sound in
    let b = and_parts (holds_bytes n) (list_all holds_bytes ns) bytes in
    both (name_text n) (flat_map (λ n. 44 ∷ name_text n) ns) (name_plain n e.0 b.0) (more_plain ns e.1 b.1)

names_plain : (ns : List Resource) → names_fault ns ≡ None → list_all holds_bytes ns ≡ true → are_plain (names_text ns) ≡ true
names_plain [] sound bytes = refl
names_plain (n ∷ []) sound bytes = name_plain n (both_none (ref_fault n.reference) None sound).0 (and_parts (holds_bytes n) true bytes).0
names_plain (n ∷ m ∷ ns) sound bytes = both (parted 44 name_text (n ∷ m ∷ ns)) (41 ∷ []) (listed_plain n (m ∷ ns) sound bytes) refl

lock_plain : (c : LockCommand) → LocksBytes c → lock_fault c ≡ None → are_plain (lock_text c) ≡ true
lock_plain Release h sound = refl
lock_plain (Only ns) h sound = names_plain ns sound h.1
lock_plain (More ns) h sound = names_plain ns sound h.1
lock_plain (Fewer ns) h sound = names_plain ns sound h.1

-- steps

command_plain : (c : Command) → CanBeSpelled c → command_fault c ≡ None → are_plain (command_text c) ≡ true
command_plain (Access command) h sound = data_plain command h sound
command_plain (Lock command) h sound = lock_plain command h sound
command_plain Start h sound = refl
command_plain Commit h sound = refl
command_plain Rollback h sound = refl
command_plain Restart h sound = refl
command_plain Level h sound = refl
command_plain Restarts h sound = refl
command_plain Halt h sound = refl

pub step_plain : (job : ℕ) (c : Command) → is_job job ≡ true → CanBeSpelled c → command_fault c ≡ None → are_plain (step_text job c) ≡ true
step_plain job c numbered h sound = both (decimal job) (32 ∷ command_text c) (digits_plain (decimal job) (digits_decimal own job (job_fits job numbered))) (command_plain c h sound)
