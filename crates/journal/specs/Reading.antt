-- What bytes of the log read as; none where they are no such thing. Source: docs/FORMATS.md, "Units".
-- Read unit_at, then down to number_at. That each unit reads back, whatever follows it: specs/laws/Reading.antt.
-- That nothing else reads as a unit: specs/Statements.antt.
use Rattle.std.specs.Prelude.{ℕ, ◌/◌, ◌%◌, ◌==◌, Bool, true, false, ◌&&◌, nat_lt, nat_le, nat_eq, if◌then◌else◌, List, [], ◌∷◌, length, take, drop, Option, None, Some, zero, suc, is_none, option_and_then, ◌++◌}
use Rattle.std.specs.Option.{option_or}
use Rattle.std.specs.Cmp.Lexicographic.{pointwise}
use Rattle.std.specs.Int.{Width, w16, w64, byte_len, from_be_bytes}
use Rattle.collation.specs.Limits.{is_job}
use Rattle.collation.specs.declared.direction.Direction.{Direction}
use Rattle.collation.specs.declared.direction.Direction.TheVariants.{Forward, Backward}
use Rattle.command.specs.declared.access.Extent.{Extent}
use Rattle.command.specs.declared.access.Extent.TheVariants.{All, Value as ValueAlone, Below}
use Rattle.command.specs.declared.access.DataCommand.{DataCommand}
use Rattle.command.specs.declared.access.DataCommand.TheVariants.{Set, Kill, Merge, Increment, Look}
use Rattle.command.specs.declared.access.Look.{Look as LookCommand}
use Rattle.command.specs.declared.access.Look.TheVariants.{Data, Get, Order, Query, Name}
use Rattle.command.specs.declared.access.Answer.{Answer}
use Rattle.command.specs.declared.access.Answer.TheVariants.{Done, Value, Number, Found}
use Rattle.lock_name.specs.declared.lock.LockCommand.{LockCommand}
use Rattle.lock_name.specs.declared.lock.LockCommand.TheVariants.{Release, Only, More, Fewer}
use Rattle.collation.specs.Reference.{Reference, Resource}
use Rattle.collation.specs.Name.{is_name}
use Rattle.collation.specs.Faults.{reference_fault}
use Rattle.key_codec.specs.Key.{key_of}
use Rattle.key_codec.specs.Back.{reference_of}
use Rattle.journal.specs.Format.{has_end}
use Rattle.journal.specs.declared.unit.Exchange.{Exchange}
use Rattle.journal.specs.declared.unit.Unit.{Unit as JournalUnit}
use Rattle.journal.specs.declared.unit.Unit.TheVariants.{Lone, Whole, Lock, Back, End}

infixl 10 ◌>>=◌
abbrev pub ◌>>=◌ : {A B : Type 0} → Option A → (A → Option B) → Option B
o >>= f = option_and_then f o

-- a number and the bytes after it, if it is at least so much: a smaller one has a shorter form
abbrev pub at_least : ℕ → ℕ → List ℕ → Option (ℕ × List ℕ)
at_least least n bytes = if nat_le least n then Some (n, bytes) else None

-- a number in so many bytes, the highest first, which is at least so much
abbrev pub wide_at : Width → ℕ → List ℕ → Option (ℕ × List ℕ)
wide_at w least bytes = if nat_le (byte_len w) (length bytes) then at_least least (from_be_bytes w (take (byte_len w) bytes)) (drop (byte_len w) bytes) else None

-- each reader answers what it read and the bytes after it
unfoldable pub number_at : List ℕ → Option (ℕ × List ℕ)
number_at [] = None
number_at (b ∷ bytes) = if nat_lt b 254 then Some (b, bytes) else (if b == 254 then wide_at w16 254 bytes else wide_at w64 65536 bytes)

-- so many bytes
abbrev pub bytes_at : ℕ → List ℕ → Option (List ℕ × List ℕ)
bytes_at n bytes = if nat_le n (length bytes) then Some (take n bytes, drop n bytes) else None

unfoldable pub string_at : List ℕ → Option (List ℕ × List ℕ)
string_at bytes = number_at bytes >>= λ n. bytes_at n.0 n.1

-- the bytes are the key of a reference within the limits
unfoldable pub is_key : List ℕ → Bool
is_key bytes = (is_name (reference_of bytes).name && is_none (reference_fault (reference_of bytes).subscripts)) && pointwise nat_eq (key_of (reference_of bytes)) bytes

unfoldable pub key_at : List ℕ → Option Reference
key_at bytes = if is_key bytes then Some (reference_of bytes) else None

-- a key that is whole, since it has no end byte 0
unfoldable pub endless_at : List ℕ → Option Reference
endless_at bytes = if has_end bytes then None else key_at bytes

-- the key with the end byte 0 behind these bytes, else a whole one
unfoldable pub ended_at : List ℕ → Option Reference
ended_at bytes = option_or (key_at (bytes ++ 0 ∷ [])) (endless_at bytes)

unfoldable pub reference_at : List ℕ → Option (Reference × List ℕ)
reference_at bytes = string_at bytes >>= λ s. ended_at s.0 >>= λ r. Some (r, s.1)

abbrev pub caret_of : ℕ → Bool
caret_of b = b == 1

unfoldable pub name_at : List ℕ → Option (Resource × List ℕ)
name_at [] = None
name_at (b ∷ bytes) = if nat_le b 1 then (reference_at bytes >>= λ r. Some (record { has_caret = caret_of b; reference = r.0 }, r.1)) else None

-- so many, one after the other
abbrev pub list_at : {A : Type 0} → (List ℕ → Option (A × List ℕ)) → ℕ → List ℕ → Option (List A × List ℕ)
list_at f zero bytes = Some ([], bytes)
list_at f (suc n) bytes = f bytes >>= λ x. list_at f n x.1 >>= λ xs. Some (x.0 ∷ xs.0, xs.1)

unfoldable pub names_at : List ℕ → Option (List Resource × List ℕ)
names_at bytes = number_at bytes >>= λ n. list_at name_at n.0 n.1

-- ---- data commands and answers

abbrev pub set_at : List ℕ → Option (DataCommand × List ℕ)
set_at bytes = reference_at bytes >>= λ r. string_at r.1 >>= λ v. Some (Set r.0 v.0, v.1)

abbrev pub kill_at : Extent → List ℕ → Option (DataCommand × List ℕ)
kill_at extent bytes = reference_at bytes >>= λ r. Some (Kill r.0 extent, r.1)

abbrev pub merge_at : List ℕ → Option (DataCommand × List ℕ)
merge_at bytes = reference_at bytes >>= λ a. reference_at a.1 >>= λ b. Some (Merge a.0 b.0, b.1)

abbrev pub increment_at : List ℕ → Option (DataCommand × List ℕ)
increment_at bytes = reference_at bytes >>= λ r. string_at r.1 >>= λ n. Some (Increment r.0 n.0, n.1)

abbrev pub data_at : List ℕ → Option (LookCommand × List ℕ)
data_at bytes = reference_at bytes >>= λ r. Some (Data r.0, r.1)

abbrev pub get_at : List ℕ → Option (LookCommand × List ℕ)
get_at bytes = reference_at bytes >>= λ r. Some (Get r.0 None, r.1)

abbrev pub get_else_at : List ℕ → Option (LookCommand × List ℕ)
get_else_at bytes = reference_at bytes >>= λ r. string_at r.1 >>= λ d. Some (Get r.0 (Some d.0), d.1)

abbrev pub order_at : Bool → Direction → List ℕ → Option (LookCommand × List ℕ)
order_at is_open direction bytes = reference_at bytes >>= λ r. Some (Order (record { reference = r.0; is_open = is_open }) direction, r.1)

abbrev pub query_at : Bool → Direction → List ℕ → Option (LookCommand × List ℕ)
query_at is_open direction bytes = reference_at bytes >>= λ r. Some (Query (record { reference = r.0; is_open = is_open }) direction, r.1)

-- a name without its caret
unfoldable pub named_at : List ℕ → Option (List ℕ × List ℕ)
named_at bytes = string_at bytes >>= λ s. if is_name s.0 then Some s else None

abbrev pub name_from_at : Direction → List ℕ → Option (LookCommand × List ℕ)
name_from_at direction bytes = named_at bytes >>= λ n. Some (Name (Some n.0) direction, n.1)

abbrev pub end_name_at : Direction → List ℕ → Option (LookCommand × List ℕ)
end_name_at direction bytes = Some (Name None direction, bytes)

-- $ORDER of names by their kind, which is from 22 to 25
abbrev pub next_name_at : ℕ → List ℕ → Option (LookCommand × List ℕ)
next_name_at kind bytes =
    if kind == 22 then name_from_at Forward bytes
    else (if kind == 23 then name_from_at Backward bytes
    else (if kind == 24 then end_name_at Forward bytes
    else (if kind == 25 then end_name_at Backward bytes
    else None)))

-- $ORDER and $QUERY by their kind, which is from 6 to 13, or of names
abbrev pub traversal_at : ℕ → List ℕ → Option (LookCommand × List ℕ)
traversal_at kind bytes =
    if kind == 6 then order_at false Forward bytes
    else (if kind == 7 then order_at false Backward bytes
    else (if kind == 8 then order_at true Forward bytes
    else (if kind == 9 then order_at true Backward bytes
    else (if kind == 10 then query_at false Forward bytes
    else (if kind == 11 then query_at false Backward bytes
    else (if kind == 12 then query_at true Forward bytes
    else (if kind == 13 then query_at true Backward bytes
    else next_name_at kind bytes)))))))

-- any command that looks
unfoldable pub looks_at : ℕ → List ℕ → Option (LookCommand × List ℕ)
looks_at kind bytes =
    if kind == 3 then data_at bytes
    else (if kind == 4 then get_at bytes
    else (if kind == 5 then get_else_at bytes
    else traversal_at kind bytes))

abbrev pub looking_at : ℕ → List ℕ → Option (DataCommand × List ℕ)
looking_at kind bytes = looks_at kind bytes >>= λ l. Some (Look l.0, l.1)

-- those that came later, by their kind, which is from 19 to 21, and those that look
abbrev pub later_command_at : ℕ → List ℕ → Option (DataCommand × List ℕ)
later_command_at kind bytes =
    if kind == 19 then kill_at ValueAlone bytes
    else (if kind == 20 then kill_at Below bytes
    else (if kind == 21 then increment_at bytes
    else looking_at kind bytes))

unfoldable pub data_command_at : ℕ → List ℕ → Option (DataCommand × List ℕ)
data_command_at kind bytes =
    if kind == 0 then set_at bytes
    else (if kind == 1 then kill_at All bytes
    else (if kind == 2 then merge_at bytes
    else later_command_at kind bytes))

abbrev pub value_answer_at : List ℕ → Option (Answer × List ℕ)
value_answer_at bytes = string_at bytes >>= λ t. Some (Value t.0, t.1)

abbrev pub count_at : List ℕ → Option (Answer × List ℕ)
count_at bytes = number_at bytes >>= λ n. Some (Number n.0, n.1)

abbrev pub found_at : List ℕ → Option (Answer × List ℕ)
found_at bytes = reference_at bytes >>= λ r. Some (Found r.0, r.1)

unfoldable pub answer_at : ℕ → List ℕ → Option (Answer × List ℕ)
answer_at kind bytes =
    if kind == 0 then Some (Done, bytes)
    else (if kind == 1 then value_answer_at bytes
    else (if kind == 2 then count_at bytes
    else found_at bytes))

-- a command with its answer, after their tag
unfoldable pub answered_at : ℕ → List ℕ → Option (Exchange × List ℕ)
answered_at tag bytes = data_command_at (tag / 4) bytes >>= λ c. answer_at (tag % 4) c.1 >>= λ a. Some (record { command = c.0; answer = a.0 }, a.1)

unfoldable pub exchange_at : List ℕ → Option (Exchange × List ℕ)
exchange_at [] = None
exchange_at (tag ∷ bytes) = answered_at tag bytes

-- ---- locks

-- those with names
abbrev pub named : ℕ → List Resource → LockCommand
named kind ns = if kind == 16 then Only ns else (if kind == 17 then More ns else Fewer ns)

abbrev pub named_lock_at : ℕ → List ℕ → Option (LockCommand × List ℕ)
named_lock_at kind bytes = names_at bytes >>= λ ns. Some (named kind ns.0, ns.1)

-- any, by its kind, which is from 15 to 18
unfoldable pub lock_command_at : ℕ → List ℕ → Option (LockCommand × List ℕ)
lock_command_at kind bytes = if kind == 15 then Some (Release, bytes) else (if nat_le 16 kind && nat_le kind 18 then named_lock_at kind bytes else None)

-- ---- units

abbrev pub lone_at : ℕ → ℕ → List ℕ → Option (JournalUnit × List ℕ)
lone_at job tag bytes = answered_at tag bytes >>= λ e. let x = e.0 in Some (Lone job x.command x.answer, e.1)

unfoldable pub exchanges_at : List ℕ → Option (List Exchange × List ℕ)
exchanges_at bytes = number_at bytes >>= λ n. list_at exchange_at n.0 n.1

abbrev pub whole_at : ℕ → List ℕ → Option (JournalUnit × List ℕ)
whole_at job bytes = exchanges_at bytes >>= λ es. Some (Whole job es.0, es.1)

-- whether inside a transaction, and whether the names were had
abbrev pub is_inside : ℕ → Bool
is_inside flags = nat_le 2 flags

abbrev pub has_had : ℕ → Bool
has_had flags = flags % 2 == 1

abbrev pub locked_at : ℕ → ℕ → List ℕ → Option (JournalUnit × List ℕ)
locked_at job tag bytes = lock_command_at (tag / 4) bytes >>= λ l. Some (Lock job (is_inside (tag % 4)) l.0 (has_had (tag % 4)), l.1)

-- what stands after the job, after its tag
unfoldable pub deed_at : ℕ → ℕ → List ℕ → Option (JournalUnit × List ℕ)
deed_at job tag bytes =
    if nat_lt tag 56 then lone_at job tag bytes
    else (if tag == 56 then whole_at job bytes
    else (if tag == 57 then Some (Back job, bytes)
    else (if tag == 58 then Some (End job, bytes)
    else (if nat_lt tag 76 then locked_at job tag bytes
    else lone_at job tag bytes))))

unfoldable pub deed_of : ℕ → List ℕ → Option (JournalUnit × List ℕ)
deed_of job [] = None
deed_of job (tag ∷ bytes) = deed_at job tag bytes

unfoldable pub unit_at : List ℕ → Option (JournalUnit × List ℕ)
unit_at bytes = number_at bytes >>= λ n. if is_job n.0 then deed_of n.0 n.1 else None
