-- Which answers a command can have, whatever the database holds: what was read is told from these.
use Rattle.std.specs.Prelude.{◌≡◌, ◌⊎◌, ⊤, ℕ, true, List, []}
use Rattle.collation.specs.Names.{bare}
use Rattle.collation.specs.Reference.{Spot}
use Rattle.collation.specs.Levels.{parent_of, below, has_level, has_name}
use Rattle.key_codec.specs.Key.{IsFaultless}
use Rattle.command.specs.declared.access.DataCommand.{DataCommand}
use Rattle.command.specs.declared.access.DataCommand.TheVariants.{Set, Kill, Merge, Increment, Look}
use Rattle.command.specs.declared.access.Look.{Look as LookCommand}
use Rattle.command.specs.declared.access.Look.TheVariants.{Data, Get, Order, Query, Name}
use Rattle.command.specs.declared.access.Answer.{Answer}
use Rattle.command.specs.declared.access.Answer.TheVariants.{Done, Value, Number, Found}

-- t is empty, or the subscript of a reference at the place's level
abbrev pub IsSiblingOrNone : Spot → List ℕ → Type 0
IsSiblingOrNone p t = (t ≡ []) ⊎ IsFaultless (below (parent_of p) t)

-- $ORDER answers a sibling's subscript or the empty string, and the place has a level
abbrev pub IsOrderAnswer : Spot → Answer → Type 0
IsOrderAnswer p Done = ⊤
IsOrderAnswer p (Value t) = (has_level p ≡ true) × IsSiblingOrNone p t
IsOrderAnswer p (Number n) = ⊤
IsOrderAnswer p (Found r) = ⊤

-- what $QUERY found has the name of the place
abbrev pub IsQueryAnswer : Spot → Answer → Type 0
IsQueryAnswer p Done = ⊤
IsQueryAnswer p (Value t) = ⊤
IsQueryAnswer p (Number n) = ⊤
IsQueryAnswer p (Found r) = has_name p.reference r ≡ true

-- $ORDER of names finds a name alone
abbrev pub IsNameAnswer : Answer → Type 0
IsNameAnswer Done = ⊤
IsNameAnswer (Value t) = ⊤
IsNameAnswer (Number n) = ⊤
IsNameAnswer (Found r) = r ≡ bare r.name

-- what is known of the answer of a command that looks
abbrev pub IsLookAnswer : LookCommand → Answer → Type 0
IsLookAnswer (Data r) answer = ⊤
IsLookAnswer (Get r d) answer = ⊤
IsLookAnswer (Order p direction) answer = IsOrderAnswer p answer
IsLookAnswer (Query p direction) answer = IsQueryAnswer p answer
IsLookAnswer (Name start direction) answer = IsNameAnswer answer

-- what is known of a command's answer
abbrev pub IsAnswerOf : DataCommand → Answer → Type 0
IsAnswerOf (Set r v) answer = ⊤
IsAnswerOf (Kill r extent) answer = ⊤
IsAnswerOf (Merge a b) answer = ⊤
IsAnswerOf (Increment r n) answer = ⊤
IsAnswerOf (Look look) answer = IsLookAnswer look answer
