-- How units lie in the log. Source: docs/FORMATS.md, "Units".
-- Read unit_bytes from the top: the job, a tag that tells the kind, and what the kind has. Each length stands before what it measures.
use Rattle.std.specs.Prelude.{ℕ, ◌+◌, ◌-◌, ◌*◌, Bool, true, false, nat_eq, nat_lt, if◌then◌else◌, List, [], ◌∷◌, ◌++◌, length, take, Option, None, Some}
use Rattle.std.specs.List.{flat_map, ends_with}
use Rattle.std.specs.Int.{w16, w64, to_be_bytes}
use Rattle.collation.specs.declared.direction.Direction.{Direction}
use Rattle.collation.specs.declared.direction.Direction.TheVariants.{Forward, Backward}
use Rattle.command.specs.declared.access.Extent.{Extent}
use Rattle.command.specs.declared.access.Extent.TheVariants.{All, Value as ValueAlone, Below}
use Rattle.command.specs.declared.access.DataCommand.{DataCommand}
use Rattle.command.specs.declared.access.DataCommand.TheVariants.{Set, Kill, Merge, Increment, Look}
use Rattle.command.specs.declared.access.Look.{Look as LookCommand}
use Rattle.command.specs.declared.access.Look.TheVariants.{Data, Get, Order, Query, Name}
use Rattle.command.specs.declared.access.Answer.{Answer}
use Rattle.command.specs.declared.access.Answer.TheVariants.{Done, Value, Number, Found}
use Rattle.lock_name.specs.declared.lock.LockCommand.{LockCommand}
use Rattle.lock_name.specs.declared.lock.LockCommand.TheVariants.{Release, Only, More, Fewer}
use Rattle.collation.specs.Reference.{Reference, Resource}
use Rattle.key_codec.specs.Key.{key_of}
use Rattle.journal.specs.Kept.{job_of}
use Rattle.journal.specs.declared.unit.Exchange.{Exchange}
use Rattle.journal.specs.declared.unit.Unit.{Unit as JournalUnit}
use Rattle.journal.specs.declared.unit.Unit.TheVariants.{Lone, Whole, Lock, Back, End}

-- a number: itself below 254, else 254 and two bytes, or 255 and eight
unfoldable pub number_bytes : ℕ → List ℕ
number_bytes n = if nat_lt n 254 then n ∷ [] else (if nat_lt n 65536 then 254 ∷ to_be_bytes w16 n else 255 ∷ to_be_bytes w64 n)

-- a string: its length, and itself
abbrev pub string_bytes : List ℕ → List ℕ
string_bytes s = number_bytes (length s) ++ s

-- bytes without a last 0: a key's length tells where it ends, so its end byte 0 need not be there
abbrev pub has_end : List ℕ → Bool
has_end bytes = ends_with nat_eq bytes (0 ∷ [])

unfoldable pub without_end : List ℕ → List ℕ
without_end key = if has_end key then take (length key - 1) key else key

-- a reference by its key, without the end byte 0; a key whose last subscript is 0 or below has none, and is whole
abbrev pub reference_bytes : Reference → List ℕ
reference_bytes r = string_bytes (without_end (key_of r))

-- a lock name: 1 for a caret and 0 for none, and the rest as a reference
abbrev pub caret_byte : Bool → ℕ
caret_byte true = 1
caret_byte false = 0

abbrev pub name_bytes : Resource → List ℕ
name_bytes n = caret_byte n.has_caret ∷ reference_bytes n.reference

-- lock names: how many, and one after the other
abbrev pub names_bytes : List Resource → List ℕ
names_bytes ns = number_bytes (length ns) ++ flat_map name_bytes ns

-- ---- data commands and answers

-- $ORDER by its place's end and its direction, and $QUERY
abbrev pub order_kind : Bool → Direction → ℕ
order_kind false Forward = 6
order_kind false Backward = 7
order_kind true Forward = 8
order_kind true Backward = 9

abbrev pub query_kind : Bool → Direction → ℕ
query_kind false Forward = 10
query_kind false Backward = 11
query_kind true Forward = 12
query_kind true Backward = 13

-- $ORDER of names, from a name or from an end
abbrev pub name_kind : Option (List ℕ) → Direction → ℕ
name_kind (Some n) Forward = 22
name_kind (Some n) Backward = 23
name_kind None Forward = 24
name_kind None Backward = 25

abbrev pub start_bytes : Option (List ℕ) → List ℕ
start_bytes (Some n) = string_bytes n
start_bytes None = []

-- a command that looks
abbrev pub look_kind : LookCommand → ℕ
look_kind (Data r) = 3
look_kind (Get r None) = 4
look_kind (Get r (Some d)) = 5
look_kind (Order p direction) = order_kind p.is_open direction
look_kind (Query p direction) = query_kind p.is_open direction
look_kind (Name start direction) = name_kind start direction

abbrev pub look_bytes : LookCommand → List ℕ
look_bytes (Data r) = reference_bytes r
look_bytes (Get r None) = reference_bytes r
look_bytes (Get r (Some d)) = reference_bytes r ++ string_bytes d
look_bytes (Order p direction) = reference_bytes p.reference
look_bytes (Query p direction) = reference_bytes p.reference
look_bytes (Name start direction) = start_bytes start

-- KILL, KVALUE and KSUBSCRIPTS
abbrev pub kill_kind : Extent → ℕ
kill_kind All = 1
kill_kind ValueAlone = 19
kill_kind Below = 20

-- any data command
abbrev pub command_kind : DataCommand → ℕ
command_kind (Set r v) = 0
command_kind (Kill r extent) = kill_kind extent
command_kind (Merge a b) = 2
command_kind (Increment r n) = 21
command_kind (Look look) = look_kind look

abbrev pub command_bytes : DataCommand → List ℕ
command_bytes (Set r v) = reference_bytes r ++ string_bytes v
command_bytes (Kill r extent) = reference_bytes r
command_bytes (Merge a b) = reference_bytes a ++ reference_bytes b
command_bytes (Increment r n) = reference_bytes r ++ string_bytes n
command_bytes (Look look) = look_bytes look

-- an answer
abbrev pub answer_kind : Answer → ℕ
answer_kind Done = 0
answer_kind (Value t) = 1
answer_kind (Number n) = 2
answer_kind (Found r) = 3

abbrev pub answer_bytes : Answer → List ℕ
answer_bytes Done = []
answer_bytes (Value t) = string_bytes t
answer_bytes (Number n) = number_bytes n
answer_bytes (Found r) = reference_bytes r

-- a command with its answer: one tag for both kinds, up to 55 or from 76 on
abbrev pub answered_bytes : DataCommand → Answer → List ℕ
answered_bytes command answer = (4 * command_kind command + answer_kind answer) ∷ (command_bytes command ++ answer_bytes answer)

abbrev pub exchange_bytes : Exchange → List ℕ
exchange_bytes e = answered_bytes e.command e.answer

-- ---- locks

-- whether inside a transaction, and whether the names were had
abbrev pub lock_flags : Bool → Bool → ℕ
lock_flags false false = 0
lock_flags false true = 1
lock_flags true false = 2
lock_flags true true = 3

abbrev pub lock_kind : LockCommand → ℕ
lock_kind Release = 15
lock_kind (Only ns) = 16
lock_kind (More ns) = 17
lock_kind (Fewer ns) = 18

abbrev pub lock_bytes : LockCommand → List ℕ
lock_bytes Release = []
lock_bytes (Only ns) = names_bytes ns
lock_bytes (More ns) = names_bytes ns
lock_bytes (Fewer ns) = names_bytes ns

-- ---- units

-- what stands after the job
abbrev pub deed_bytes : JournalUnit → List ℕ
deed_bytes (Lone job command answer) = answered_bytes command answer
deed_bytes (Whole job exchanges) = 56 ∷ (number_bytes (length exchanges) ++ flat_map exchange_bytes exchanges)
deed_bytes (Back job) = 57 ∷ []
deed_bytes (End job) = 58 ∷ []
deed_bytes (Lock job inside command had) = (4 * lock_kind command + lock_flags inside had) ∷ lock_bytes command

abbrev pub unit_bytes : JournalUnit → List ℕ
unit_bytes u = number_bytes (job_of u) ++ deed_bytes u
