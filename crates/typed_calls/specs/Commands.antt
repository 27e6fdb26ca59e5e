-- The commands that the typed calls do. Source: docs/RULES.md, "Data commands", "Locks".
-- Read below_fault, then the commands in turn.
use Rattle.std.specs.Prelude.{ℕ, ◌+◌, Bool, true, if◌then◌else◌, nat_lt, List, [], ◌∷◌, map, Option, None, Some}
use Rattle.refusal.specs.declared.Refusal.{Refusal}
use Rattle.refusal.specs.declared.Refusal.TheVariants.{TooManySubscripts}
use Rattle.collation.specs.Faults.{subscripts_fault}
use Rattle.collation.specs.Limits.{most_subscripts}
use Rattle.collation.specs.Reference.{Reference}
use Rattle.collation.specs.declared.direction.Direction.{Direction}
use Rattle.lock_name.specs.declared.lock.LockCommand.{LockCommand}
use Rattle.lock_name.specs.declared.lock.LockCommand.TheVariants.{Only as OnlyThese, More as TheseToo, Fewer as FewerOfThese}
use Rattle.collation.specs.Reference.{Resource}
use Rattle.command.specs.declared.access.DataCommand.TheVariants.{Set, Kill, Merge, Increment, Look as LookAt}
use Rattle.command.specs.declared.access.Extent.TheVariants.{All, Value as ValueAlone, Below}
use Rattle.command.specs.declared.access.Look.TheVariants.{Data, Get, Order, Query, Name}
use Rattle.command.specs.declared.request.Command.{Command}
use Rattle.command.specs.declared.request.Command.TheVariants.{Access, Lock}
use Rattle.key_codec.specs.Draft.{longer, place_of}
use Rattle.typed_calls.specs.declared.commands.LockForm.{LockForm}
use Rattle.typed_calls.specs.declared.commands.LockForm.TheVariants.{Only, More, Fewer}

-- why so many subscripts get no further one, or none with these bytes
abbrev pub below_fault : ℕ → List ℕ → Option Refusal
below_fault depth s = if nat_lt most_subscripts (depth + 1) then Some TooManySubscripts else subscripts_fault (s ∷ [])

abbrev pub set_command : Reference → List ℕ → Command
set_command r v = Access (Set r v)

abbrev pub kill_command : Reference → Command
kill_command r = Access (Kill r All)

abbrev pub kill_value_command : Reference → Command
kill_value_command r = Access (Kill r ValueAlone)

abbrev pub kill_subscripts_command : Reference → Command
kill_subscripts_command r = Access (Kill r Below)

abbrev pub merge_command : Reference → Reference → Command
merge_command to from = Access (Merge to from)

abbrev pub increment_command : Reference → List ℕ → Command
increment_command r number = Access (Increment r number)

abbrev pub data_command : Reference → Command
data_command r = Access (LookAt (Data r))

abbrev pub get_command : Reference → Command
get_command r = Access (LookAt (Get r None))

-- from this subscript on, one level below the key; an empty one stands before all, and backward after all
abbrev pub order_command : Reference → List ℕ → Direction → Command
order_command level s direction = Access (LookAt (Order (place_of (longer level s)) direction))

-- from the key on, or from the open place below it
abbrev pub query_command : Reference → Bool → Direction → Command
query_command r is_open direction = Access (LookAt (Query (record { reference = r; is_open = is_open }) direction))

-- the name that these bytes are, and none where they are empty
abbrev pub start_of : List ℕ → Option (List ℕ)
start_of [] = None
start_of (b ∷ bs) = Some (b ∷ bs)

-- $ORDER of names: from this name on, or without one from the first, backward from the last
abbrev pub name_command : List ℕ → Direction → Command
name_command start direction = Access (LookAt (Name (start_of start) direction))

-- LOCK of these names in this form
abbrev pub lock_of : LockForm → List Resource → LockCommand
lock_of Only names = OnlyThese names
lock_of More names = TheseToo names
lock_of Fewer names = FewerOfThese names

-- a reference as a lock name, with its caret
abbrev pub caret_name : Reference → Resource
caret_name r = record { has_caret = true; reference = r }

-- LOCK of the references of keys, with their carets
abbrev pub lock_names_command : LockForm → List Reference → Command
lock_names_command form rs = Lock (lock_of form (map caret_name rs))

-- LOCK of the key's reference, with its caret
abbrev pub lock_command : LockForm → Reference → Command
lock_command form r = Lock (lock_of form (caret_name r ∷ []))
