-- What a data command replies and leaves, or why it is refused. Source: docs/RULES.md, "Data commands".
-- Read data_refusal, data_reply, data_after; each names all commands, so that none falls in unseen.
use Rattle.std.specs.Prelude.{ℕ, Bool, not, nat_lt, List, [], length, Option, None, Some, unwrap_or, if◌then◌else◌}
use Rattle.std.specs.Option.{option_map}
use Rattle.std.specs.FinMap as finmap
use Rattle.refusal.specs.declared.Refusal.{Refusal}
use Rattle.refusal.specs.declared.Refusal.TheVariants.{TooManySubscripts, NeedSubscript, MergeOverlap, SumTooLong}
use Rattle.collation.specs.Reference.{Reference}
use Rattle.collation.specs.Database.{Database, is_under}
use Rattle.decimal_sum.specs.Sums.{sum_of}
use Rattle.collation.specs.Limits.{most_value_bytes}
use Rattle.collation.specs.Levels.{has_level, is_below, overlap}
use Rattle.collation.specs.Names.{bare, name_next}
use Rattle.collation.specs.Order.{ref_eq}
use Rattle.collation.specs.Answers.{data_of, order_of, query_of, merged, set_all, is_too_deep, is_forward}
use Rattle.command.specs.declared.access.Extent.{Extent}
use Rattle.command.specs.declared.access.Extent.TheVariants.{All, Value as ValueAlone, Below}
use Rattle.command.specs.declared.access.DataCommand.{DataCommand}
use Rattle.command.specs.declared.access.DataCommand.TheVariants.{Set, Kill, Merge, Increment, Look}
use Rattle.command.specs.declared.access.Look.{Look as LookCommand}
use Rattle.command.specs.declared.access.Look.TheVariants.{Data, Get, Order, Query, Name}
use Rattle.command.specs.declared.access.Answer.{Answer}
use Rattle.command.specs.declared.access.Answer.TheVariants.{Done, Value, Number, Found}

-- a kill of this extent takes x of what is at and under r
abbrev pub takes : Extent → Reference → Reference → Bool
takes All r x = is_under r x
takes ValueAlone r x = ref_eq x r
takes Below r x = is_below r x

-- the sum of the number that the value at r begins with, which is 0 where there is none, and of this one
abbrev pub sum_at : Reference → List ℕ → Database → List ℕ
sum_at r n m = sum_of (unwrap_or (finmap.get m r) []) n

-- why a command that looks is refused, where it is
abbrev pub look_refusal : LookCommand → Option Refusal
look_refusal (Data r) = None
look_refusal (Get r d) = None
look_refusal (Order p direction) = if has_level p then None else Some NeedSubscript
look_refusal (Query p direction) = None
look_refusal (Name start direction) = None

-- why the command is refused on this database, where it is
abbrev pub data_refusal : DataCommand → Database → Option Refusal
data_refusal (Set r v) m = None
data_refusal (Kill r extent) m = None
data_refusal (Merge a b) m = if overlap a b then Some MergeOverlap else (if is_too_deep a b m then Some TooManySubscripts else None)
data_refusal (Increment r n) m = if nat_lt most_value_bytes (length (sum_at r n m)) then Some SumTooLong else None
data_refusal (Look look) m = look_refusal look

-- the answer of $QUERY, and of $ORDER of names: a reference, or the empty string
abbrev pub found_reply : Option Reference → Answer
found_reply (Some r) = Found r
found_reply None = Value []

-- what a command that looks is answered
abbrev pub look_reply : LookCommand → Database → Answer
look_reply (Data r) m = Number (data_of r m)
look_reply (Get r d) m = Value (unwrap_or (finmap.get m r) (unwrap_or d []))
look_reply (Order p direction) m = Value (order_of (is_forward direction) p m)
look_reply (Query p direction) m = found_reply (query_of (is_forward direction) p m)
look_reply (Name start direction) m = found_reply (option_map bare (name_next (is_forward direction) start m))

-- what the command is answered
abbrev pub data_reply : DataCommand → Database → Answer
data_reply (Set r v) m = Done
data_reply (Kill r extent) m = Done
data_reply (Merge a b) m = Done
data_reply (Increment r n) m = Value (sum_at r n m)
data_reply (Look look) m = look_reply look m

-- the database that the command leaves
abbrev pub data_after : DataCommand → Database → Database
data_after (Set r v) m = finmap.insert m r v
data_after (Kill r extent) m = finmap.retain_keys m (λ x. not (takes extent r x))
data_after (Merge a b) m = set_all (merged a b m) m
data_after (Increment r n) m = finmap.insert m r (sum_at r n m)
data_after (Look look) m = m
