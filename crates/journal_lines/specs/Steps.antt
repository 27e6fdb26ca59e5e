-- Steps as lines of a script. Source: docs/FORMATS.md, "Lines".
-- Read step_text, then command_text.
use Rattle.std.specs.Prelude.{ℕ, List, [], ◌∷◌, ◌++◌, Option, None, Some, codes, decimal, if◌then◌else◌}
use Rattle.collation.specs.Bytes as byte
use Rattle.collation.specs.Reference.{Reference, Spot, Resource}
use Rattle.collation.specs.declared.direction.Direction.{Direction}
use Rattle.collation.specs.declared.direction.Direction.TheVariants.{Forward, Backward}
use Rattle.lock_name.specs.declared.lock.LockCommand.{LockCommand}
use Rattle.lock_name.specs.declared.lock.LockCommand.TheVariants.{Release, Only, More, Fewer}
use Rattle.command.specs.declared.access.Extent.{Extent}
use Rattle.command.specs.declared.access.Extent.TheVariants.{All, Value as ValueAlone, Below}
use Rattle.command.specs.declared.access.DataCommand.{DataCommand}
use Rattle.command.specs.declared.access.DataCommand.TheVariants.{Set, Kill, Merge, Increment, Look}
use Rattle.command.specs.declared.access.Look.{Look as LookCommand}
use Rattle.command.specs.declared.access.Look.TheVariants.{Data, Get, Order, Query, Name}
use Rattle.command.specs.declared.request.Command.{Command}
use Rattle.command.specs.declared.request.Command.TheVariants.{Access, Lock, Start, Commit, Rollback, Restart, Level, Restarts, Halt}
use Rattle.m_text.specs.Written.{parted, literal_text, subscripts_text, reference_text}

-- the reference with an empty subscript after its own
abbrev pub opened : Reference → Reference
opened r = record { name = r.name; subscripts = r.subscripts ++ [] ∷ [] }

-- the reference by which a place is spelled
abbrev pub asked_reference : Spot → Reference
asked_reference p = if p.is_open then opened p.reference else p.reference

-- a comma and the default, where there is one
abbrev pub default_text : Option (List ℕ) → List ℕ
default_text None = []
default_text (Some value) = byte.comma ∷ literal_text value

-- backward is said, forward isn't
abbrev pub direction_text : Direction → List ℕ
direction_text Forward = []
direction_text Backward = codes ",-1"

-- the name from which $ORDER of names starts, in quotes, which are empty where there is none
abbrev pub start_text : Option (List ℕ) → List ℕ
start_text None = []
start_text (Some n) = byte.caret ∷ n

-- a command that looks
abbrev pub look_text : LookCommand → List ℕ
look_text (Data r) = codes "$DATA(" ++ (reference_text r ++ byte.closing ∷ [])
look_text (Get r default) = codes "$GET(" ++ (reference_text r ++ (default_text default ++ byte.closing ∷ []))
look_text (Order p direction) = codes "$ORDER(" ++ (reference_text (asked_reference p) ++ (direction_text direction ++ byte.closing ∷ []))
look_text (Query p direction) = codes "$QUERY(" ++ (reference_text (asked_reference p) ++ (direction_text direction ++ byte.closing ∷ []))
look_text (Name start direction) = codes "$ORDER(^$GLOBAL(" ++ (literal_text (start_text start) ++ (byte.closing ∷ (direction_text direction ++ byte.closing ∷ [])))

-- the word of a kill, and a blank
abbrev pub kill_word : Extent → List ℕ
kill_word All = codes "KILL "
kill_word ValueAlone = codes "KVALUE "
kill_word Below = codes "KSUBSCRIPTS "

-- a data command
abbrev pub data_text : DataCommand → List ℕ
data_text (Set r value) = codes "SET " ++ (reference_text r ++ byte.equals_sign ∷ literal_text value)
data_text (Kill r extent) = kill_word extent ++ reference_text r
data_text (Merge a b) = codes "MERGE " ++ (reference_text a ++ byte.equals_sign ∷ reference_text b)
data_text (Increment r n) = codes "$INCREMENT(" ++ (reference_text r ++ (byte.comma ∷ (literal_text n ++ byte.closing ∷ [])))
data_text (Look look) = look_text look

-- a lock name: a reference, or one without its caret
abbrev pub name_text : Resource → List ℕ
name_text n = if n.has_caret then reference_text n.reference else n.reference.name ++ subscripts_text n.reference.subscripts

-- one lock name bare, several in parentheses
abbrev pub names_text : List Resource → List ℕ
names_text [] = []
names_text (n ∷ []) = name_text n
names_text (n ∷ m ∷ ns) = byte.opening ∷ (parted byte.comma name_text (n ∷ m ∷ ns) ++ byte.closing ∷ [])

-- a LOCK
abbrev pub lock_text : LockCommand → List ℕ
lock_text Release = codes "LOCK"
lock_text (Only ns) = codes "LOCK " ++ names_text ns
lock_text (More ns) = codes "LOCK +" ++ names_text ns
lock_text (Fewer ns) = codes "LOCK -" ++ names_text ns

-- a command
abbrev pub command_text : Command → List ℕ
command_text (Access command) = data_text command
command_text (Lock command) = lock_text command
command_text Start = codes "TSTART"
command_text Commit = codes "TCOMMIT"
command_text Rollback = codes "TROLLBACK"
command_text Restart = codes "TRESTART"
command_text Level = codes "$TLEVEL"
command_text Restarts = codes "$TRESTART"
command_text Halt = codes "HALT"

-- a step: the job, a blank, and the command in its one spelling
abbrev pub step_text : ℕ → Command → List ℕ
step_text job command = decimal job ++ byte.blank ∷ command_text command
