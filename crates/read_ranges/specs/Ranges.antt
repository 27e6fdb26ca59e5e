-- Which references lie in a range, and what the ranges have once a command was noted.
-- Read is_in, IsNoted; the contracts of read_ranges cite these.
use Rattle.std.specs.Prelude.{◌≡◌, ⊤, ℕ, Bool, true, false, not, ◌&&◌, ◌||◌, List, take, length}
use Rattle.std.specs.List.{list_any}
use Rattle.collation.specs.Reference.{Reference}
use Rattle.collation.specs.Levels.{is_before}
use Rattle.globals.specs.Cuts.{is_after, stands_before}
use Rattle.command.specs.declared.access.DataCommand.{DataCommand}
use Rattle.command.specs.declared.access.DataCommand.TheVariants.{Set, Kill, Merge, Increment, Look}
use Rattle.command.specs.declared.access.Look.{Look as LookCommand}
use Rattle.command.specs.declared.access.Look.TheVariants.{Data, Get, Order, Query, Name}
use Rattle.collation.specs.Names.{bare}
use Rattle.command.specs.declared.access.Answer.{Answer}
use Rattle.command.specs.declared.access.Answer.TheVariants.{Done, Value, Number, Found}
use Rattle.globals.specs.declared.cut.Cut.{Cut}
use Rattle.journal.specs.Touching.{read_set}
use Rattle.read_ranges.specs.declared.edge.Edge.{Edge}
use Rattle.read_ranges.specs.declared.edge.Edge.TheVariants.{Start, Before, After, Past, End}
use Rattle.read_ranges.specs.declared.range.ReadRange.{ReadRange}
use Rattle.read_ranges.specs.declared.range.ReadRange.TheVariants.{One, Between}
use Rattle.read_ranges.specs.declared.range.Joint.{Joint}
use Rattle.read_ranges.specs.declared.range.Joint.TheVariants.{Apart, Within, Higher, Lower}

-- x stands before the edge
abbrev pub is_short : Edge → Reference → Bool
is_short Start x = false
is_short (Before r) x = is_before false r x
is_short (After r) x = not (is_after false r x)
is_short (Past r) x = is_before true r x
is_short End x = true

-- x stands before the range's beginning; one reference begins at itself
abbrev pub begins_after : ReadRange → Reference → Bool
begins_after (One r) x = is_before false r x
begins_after (Between low high) x = is_short low x

-- x stands before the range's end; one reference ends before those under it
abbrev pub ends_after : ReadRange → Reference → Bool
ends_after (One r) x = not (is_after false r x)
ends_after (Between low high) x = is_short high x

-- x lies in the range: from its beginning on and before its end
abbrev pub is_in : ReadRange → Reference → Bool
is_in range x = not (begins_after range x) && ends_after range x

-- x lies in one of the ranges
abbrev pub is_in_one : List ReadRange → Reference → Bool
is_in_one ranges x = list_any (λ range. is_in range x) ranges

-- ---- what is noted

-- whether the transaction itself has set or killed what a $GET or $INCREMENT asks; of other commands nothing is said
abbrev pub IsLookDecided : LookCommand → Bool → (Reference → Bool) → Type 0
IsLookDecided (Data r) decided own = ⊤
IsLookDecided (Get r d) decided own = own r ≡ decided
IsLookDecided (Order p direction) decided own = ⊤
IsLookDecided (Query p direction) decided own = ⊤
IsLookDecided (Name start direction) decided own = ⊤

abbrev pub IsDecided : DataCommand → Bool → (Reference → Bool) → Type 0
IsDecided (Set r v) decided own = ⊤
IsDecided (Kill r extent) decided own = ⊤
IsDecided (Merge a b) decided own = ⊤
IsDecided (Increment r n) decided own = own r ≡ decided
IsDecided (Look look) decided own = IsLookDecided look decided own

-- what lies in the ranges after the command lay in them before, or is in its read set
abbrev pub IsNoted : List ReadRange → List ReadRange → DataCommand → Answer → Bool → Type 0
IsNoted old new command answer decided = (own : Reference → Bool) → IsDecided command decided own → (x : Reference) → is_in_one new x ≡ (is_in_one old x || read_set command answer own x)

-- after a command that changes the database the ranges begin with those before it
abbrev pub KeepsFormerRanges : DataCommand → List ReadRange → List ReadRange → Type 0
KeepsFormerRanges (Set r v) old new = take (length old) new ≡ old
KeepsFormerRanges (Kill r extent) old new = take (length old) new ≡ old
KeepsFormerRanges (Merge a b) old new = take (length old) new ≡ old
KeepsFormerRanges (Increment r n) old new = take (length old) new ≡ old
KeepsFormerRanges (Look look) old new = ⊤

-- where the names end that $ORDER of names read: past all of the name that it found, or nowhere
abbrev pub names_end : Answer → Reference → Bool
names_end Done x = true
names_end (Value t) x = true
names_end (Number n) x = true
names_end (Found r) x = is_before true (bare r.name) x

-- and backward where they begin
abbrev pub names_begin : Answer → Reference → Bool
names_begin Done x = false
names_begin (Value t) x = false
names_begin (Number n) x = false
names_begin (Found r) x = is_before false (bare r.name) x

-- ---- what joins

-- x lies from the low cut on and before the high one
abbrev pub between : Cut → Cut → Reference → Bool
between low high x = not (stands_before low x) && stands_before high x

-- what stands before the first cut stands before the second
abbrev pub AreEarlier : Cut → Cut → Type 0
AreEarlier first second = (x : Reference) → stands_before first x ≡ true → stands_before second x ≡ true

-- how a range takes in what lies between two cuts: it has it, or has both with another end, or with another beginning
abbrev pub Joins : Joint → ReadRange → Cut → Cut → Type 0
Joins Apart range low high = ⊤
Joins Within range low high = (x : Reference) → is_in range x ≡ (is_in range x || between low high x)
Joins Higher range low high = (x : Reference) → (not (begins_after range x) && stands_before high x) ≡ (is_in range x || between low high x)
Joins Lower range low high = (x : Reference) → (not (stands_before low x) && ends_after range x) ≡ (is_in range x || between low high x)
