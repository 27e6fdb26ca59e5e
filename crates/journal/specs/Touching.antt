-- Which references a unit touches, and which a transaction has read. Source: docs/RULES.md, "Transactions".
use Rattle.std.specs.Prelude.{ℕ, Bool, false, not, ◌&&◌, ◌||◌, List, [], ◌∷◌, ◌++◌, Option, Some, unwrap_or, if◌then◌else◌}
use Rattle.std.specs.Ordering.{is_lt}
use Rattle.std.specs.Option.{option_map}
use Rattle.std.specs.List.{list_any}
use Rattle.std.specs.FinMap as finmap
use Rattle.collation.specs.Reference.{Reference, Spot}
use Rattle.collation.specs.Order.{ref_eq, ref_cmp, subscript_cmp}
use Rattle.collation.specs.Database.{Database, is_under}
use Rattle.collation.specs.Levels.{child_of, parent_of}
use Rattle.collation.specs.Names.{is_name_beyond}
use Rattle.collation.specs.Answers.{is_beyond, is_forward, follows, moved}
use Rattle.command.specs.declared.access.DataCommand.{DataCommand}
use Rattle.command.specs.declared.access.DataCommand.TheVariants.{Set, Kill, Merge, Increment, Look}
use Rattle.command.specs.declared.access.Look.{Look as LookCommand}
use Rattle.command.specs.declared.access.Look.TheVariants.{Data, Get, Order, Query, Name}
use Rattle.command.specs.declared.access.Answer.{Answer}
use Rattle.command.specs.declared.access.Answer.TheVariants.{Value, Found}
use Rattle.command.specs.Data.{data_after, takes}
use Rattle.journal.specs.declared.unit.Exchange.{Exchange}
use Rattle.journal.specs.declared.unit.Unit.{Unit as JournalUnit}
use Rattle.journal.specs.declared.unit.Unit.TheVariants.{Lone, Whole}
use Rattle.journal.specs.History.{State, after_unit, all_after}

-- ---- what is touched

-- a command sets x: SET and $INCREMENT their own reference, MERGE each copy; into itself it sets none
abbrev pub sets : DataCommand → Database → Reference → Bool
sets (Set r v) m x = ref_eq x r
sets (Merge a b) m x = not (ref_eq a b) && (is_under a x && finmap.contains_key m (moved b a x))
sets (Increment r n) m x = ref_eq x r
sets command m x = false

-- a command kills x
abbrev pub kills : DataCommand → Reference → Bool
kills (Kill r extent) x = takes extent r x
kills command x = false

-- some command sets x and none after it kills x
abbrev pub leaves_set : List Exchange → Database → Reference → Bool
leaves_set [] m x = false
leaves_set (e ∷ es) m x = (sets e.command m x && not (list_any (λ (later : Exchange). kills later.command x) es)) || leaves_set es (data_after e.command m) x

-- commands touch x: they set it and don't kill it later, or it had a value before them and has none after
abbrev pub touched_by : List Exchange → Database → Reference → Bool
touched_by es m x = leaves_set es m x || (finmap.contains_key m x && not (finmap.contains_key (all_after es m) x))

-- a unit touches x
abbrev pub touched : JournalUnit → State → Reference → Bool
touched (Lone job command answer) s x = touched_by (record { command = command; answer = answer } ∷ []) s.map x
touched (Whole job exchanges) s x = touched_by exchanges s.map x
touched unit s x = false

-- ---- what is read

-- the subscript t stands after s in this direction
abbrev pub is_farther : Bool → List ℕ → List ℕ → Bool
is_farther forward s t = is_lt (if forward then subscript_cmp s t else subscript_cmp t s)

-- the subscript t stands beyond the answer of $ORDER; nothing does where that is empty
abbrev pub is_beyond_answer : Bool → List ℕ → List ℕ → Bool
is_beyond_answer forward [] t = false
is_beyond_answer forward (b ∷ bs) t = is_farther forward (b ∷ bs) t

-- what $ORDER read: what stands at or under the subscripts beyond its place up to its answer
abbrev pub order_read : Bool → Spot → Answer → Reference → Bool
order_read forward p (Value t) x = unwrap_or (option_map (λ s. is_beyond forward p s && not (is_beyond_answer forward t s)) (child_of (parent_of p) x)) false
order_read forward p answer x = false

-- what $QUERY read: what follows its place, up to its answer where it found one
abbrev pub query_read : Bool → Spot → Answer → Reference → Bool
query_read forward p (Found r) x = follows forward p x && not (is_lt (if forward then ref_cmp r x else ref_cmp x r))
query_read forward p answer x = follows forward p x

-- what $ORDER of names read: the names beyond its start, up to the one that it found
abbrev pub name_read : Bool → Option (List ℕ) → Answer → Reference → Bool
name_read forward start (Found r) x = is_name_beyond forward start x.name && not (is_name_beyond forward (Some r.name) x.name)
name_read forward start answer x = is_name_beyond forward start x.name

-- what an answered command that looks read
abbrev pub look_read : LookCommand → Answer → (Reference → Bool) → Reference → Bool
look_read (Data r) answer own x = is_under r x
look_read (Get r d) answer own x = ref_eq x r && not (own r)
look_read (Order p direction) answer own x = order_read (is_forward direction) p answer x
look_read (Query p direction) answer own x = query_read (is_forward direction) p answer x
look_read (Name start direction) answer own x = name_read (is_forward direction) start answer x

-- the read set of an answered command, as a test of x; `own` tests what the transaction itself set or killed before
abbrev pub read_set : DataCommand → Answer → (Reference → Bool) → Reference → Bool
read_set (Merge a b) answer own x = is_under b x
read_set (Increment r n) answer own x = ref_eq x r && not (own r)
read_set (Look look) answer own x = look_read look answer own x
read_set command answer own x = false

-- what the transaction itself set or killed, once it has done this command on the database m too
abbrev pub own_after : DataCommand → Database → (Reference → Bool) → Reference → Bool
own_after command m own x = own x || (sets command m x || kills command x)

-- what it set or killed, once it has done all of these in turn
abbrev pub own_by : List Exchange → Database → (Reference → Bool) → Reference → Bool
own_by [] m own x = own x
own_by (e ∷ es) m own x = own_by es (data_after e.command m) (own_after e.command m own) x

-- x is in the read set of one of these commands, done in turn on the database m; `own` tests what the transaction itself set or killed before
abbrev pub is_read : List Exchange → Database → (Reference → Bool) → Reference → Bool
is_read [] m own x = false
is_read (e ∷ es) m own x = read_set e.command e.answer own x || is_read es (data_after e.command m) (own_after e.command m own) x

-- a transaction on the database m has read x
abbrev pub has_read : List Exchange → Database → Reference → Bool
has_read es m x = is_read es m (λ y. false) x

-- a transaction on the database m has set x, or killed it or an ancestor
abbrev pub has_written : List Exchange → Database → Reference → Bool
has_written es m x = own_by es m (λ y. false) x

-- ---- overtaken

-- one of these units, done in turn on s, touches a reference that passes the test; what a unit touches has a value before it or after
abbrev pub any_touched : (Reference → Bool) → List JournalUnit → State → Bool
any_touched test [] s = false
any_touched test (u ∷ us) s =
    list_any (λ x. touched u s x && test x) (finmap.keys s.map ++ finmap.keys (after_unit u s).map) || any_touched test us (after_unit u s)
