-- What a command has read lies between two cuts, and nothing else does.
use Rattle.std.proofs.Common.{◌≡◌, ℕ, Bool, true, false, List, [], refl, sym, ap, subst, ◌∙◌}
use Rattle.std.specs.Prelude.{not, ◌&&◌, ◌||◌, Option, Some, Result, Ok, Err, OnOk}
use Rattle.std.proofs.Math.Bool.{not-not}
use Rattle.collation.specs.declared.direction.Direction.{Direction}
use Rattle.collation.specs.declared.direction.Direction.TheVariants.{Forward, Backward}
use Rattle.collation.specs.Reference.{Reference, Spot}
use Rattle.collation.specs.Levels.{is_before, parent_of, has_level, has_name}
use Rattle.globals.specs.Cuts.{is_after, name_start, stands_before}
use Rattle.collation.specs.Answers.{follows, is_forward}
use Rattle.command.specs.declared.access.DataCommand.{DataCommand}
use Rattle.command.specs.declared.access.DataCommand.TheVariants.{Merge, Increment, Look}
use Rattle.command.specs.declared.access.Look.{Look as LookCommand}
use Rattle.command.specs.declared.access.Look.TheVariants.{Data, Get, Name}
use Rattle.command.specs.declared.access.Answer.{Answer}
use Rattle.command.specs.declared.access.Answer.TheVariants.{Done, Value, Number, Found}
use Rattle.journal.specs.Touching.{read_set, name_read, order_read, query_read}
use Rattle.globals.specs.declared.cut.Cut.{Cut}
use Rattle.globals.specs.Fitting.{IsQueryAnswer}
use Rattle.serial.specs.ReadRanges.{is_from_level, level_end, root_of}
use Rattle.serial.specs.laws.ReadRanges.{reads_range}
use Rattle.read_ranges.specs.declared.range.ReadRange.{ReadRange}
use Rattle.read_ranges.specs.Ranges.{is_in_one, names_begin, names_end, IsDecided, IsNoted}

pub on_ok : {A E : Type 0} {P Q : Type 0} (r : Result A E) → (P → Q) → OnOk r P → OnOk r Q
on_ok (Ok a) f p = f p
on_ok (Err e) f p = p

-- the ranges have what passes the test too, and that is the read set
noted : (old new : List ReadRange) (command : DataCommand) (answer : Answer) (decided : Bool) (test : Reference → Bool)
    → ((own : Reference → Bool) → IsDecided command decided own → (x : Reference) → read_set command answer own x ≡ test x)
    → ((x : Reference) → is_in_one new x ≡ (is_in_one old x || test x)) → IsNoted old new command answer decided
noted old new command answer decided test same more = λ own d x. more x ∙ ap (λ b. is_in_one old x || b) (sym (same own d x))

-- ---- MERGE, $DATA and $GET

pub merge_noted : (old new : List ReadRange) (command : DataCommand) (a b : Reference) (answer : Answer) (decided : Bool) → command ≡ Merge a b
    → ((x : Reference) → is_in_one new x ≡ (is_in_one old x || (not (is_before false b x) && is_before true b x))) → IsNoted old new command answer decided
merge_noted old new command a b answer decided is more =
    subst (λ (c : DataCommand). IsNoted old new c answer decided) (sym is)
    (noted old new (Merge a b) answer decided _ (λ own d x. let law = reads_range own x in law.merge_of a b answer) more)

pub data_noted : (old new : List ReadRange) (look : LookCommand) (r : Reference) (answer : Answer) (decided : Bool) → look ≡ Data r
    → ((x : Reference) → is_in_one new x ≡ (is_in_one old x || (not (is_before false r x) && is_before true r x))) → IsNoted old new (Look look) answer decided
data_noted old new look r answer decided is more =
    subst (λ (l : LookCommand). IsNoted old new (Look l) answer decided) (sym is)
    (noted old new (Look (Data r)) answer decided _ (λ own d x. let law = reads_range own x in law.data_of r answer) more)

pub get_noted : (old new : List ReadRange) (look : LookCommand) (r : Reference) (default : Option (List ℕ)) (answer : Answer) (decided : Bool) → look ≡ Get r default → decided ≡ false
    → ((x : Reference) → is_in_one new x ≡ (is_in_one old x || (not (is_before false r x) && not (is_after false r x)))) → IsNoted old new (Look look) answer decided
get_noted old new look r default answer decided is none more =
    subst (λ (l : LookCommand). IsNoted old new (Look l) answer decided) (sym is)
    (noted old new (Look (Get r default)) answer decided _ (λ own d x. let law = reads_range own x in law.get_of r default answer (d ∙ none)) more)

pub increment_noted : (old new : List ReadRange) (command : DataCommand) (r : Reference) (n : List ℕ) (answer : Answer) (decided : Bool) → command ≡ Increment r n → decided ≡ false
    → ((x : Reference) → is_in_one new x ≡ (is_in_one old x || (not (is_before false r x) && not (is_after false r x)))) → IsNoted old new command answer decided
increment_noted old new command r n answer decided is none more =
    subst (λ (c : DataCommand). IsNoted old new c answer decided) (sym is)
    (noted old new (Increment r n) answer decided _ (λ own d x. let law = reads_range own x in law.increment_of r n answer (d ∙ none)) more)

-- ---- $ORDER

pub siblings_forward : (old new : List ReadRange) (p : Spot) (direction : Direction) (t : List ℕ) (low : Cut) (end : Reference) → direction ≡ Forward → has_level p ≡ true
    → ((x : Reference) → not (stands_before low x) ≡ is_after (not p.is_open) p.reference x) → end ≡ level_end (parent_of p) t
    → ((x : Reference) → is_in_one new x ≡ (is_in_one old x || (not (stands_before low x) && is_before true end x)))
    → (x : Reference) → is_in_one new x ≡ (is_in_one old x || order_read (is_forward direction) p (Value t) x)
siblings_forward old new p direction t low end ahead level starts ends more x =
    let law = reads_range (λ _. false) x in
    more x ∙ ap (λ b. is_in_one old x || b) ((λ i. starts x i && is_before true (ends i) x) ∙ sym (law.order_forward p t level) ∙ (λ i. order_read (is_forward (sym ahead i)) p (Value t) x))

pub siblings_backward : (old new : List ReadRange) (p : Spot) (direction : Direction) (t : List ℕ) (low high : Cut) → direction ≡ Backward → has_level p ≡ true
    → ((x : Reference) → not (stands_before low x) ≡ is_from_level (parent_of p) t x) → ((x : Reference) → stands_before high x ≡ is_before p.is_open p.reference x)
    → ((x : Reference) → is_in_one new x ≡ (is_in_one old x || (not (stands_before low x) && stands_before high x)))
    → (x : Reference) → is_in_one new x ≡ (is_in_one old x || order_read (is_forward direction) p (Value t) x)
siblings_backward old new p direction t low high back level starts ends more x =
    let law = reads_range (λ _. false) x in
    more x ∙ ap (λ b. is_in_one old x || b) ((λ i. starts x i && ends x i) ∙ sym (law.order_backward p t level) ∙ (λ i. order_read (is_forward (sym back i)) p (Value t) x))

-- ---- $QUERY

pub named : (p : Spot) (answer : Answer) (r : Reference) → answer ≡ Found r → IsQueryAnswer p answer → has_name p.reference r ≡ true
named p answer r is fits = subst (λ (a : Answer). IsQueryAnswer p a) is fits

pub up_to_forward : (old new : List ReadRange) (p : Spot) (direction : Direction) (low : Cut) (r : Reference) → direction ≡ Forward → has_name p.reference r ≡ true
    → ((x : Reference) → stands_before low x ≡ not (is_after false p.reference x))
    → ((x : Reference) → is_in_one new x ≡ (is_in_one old x || (not (stands_before low x) && not (is_after false r x))))
    → (x : Reference) → is_in_one new x ≡ (is_in_one old x || query_read (is_forward direction) p (Found r) x)
up_to_forward old new p direction low r ahead name starts more x =
    let law = reads_range (λ _. false) x in
    more x ∙ ap (λ b. is_in_one old x || b) (
    ap (λ b. not b && not (is_after false r x)) (starts x) ∙ ap (λ b. b && not (is_after false r x)) (not-not (is_after false p.reference x)) ∙ sym (law.query_forward p r name)
    ∙ (λ i. query_read (is_forward (sym ahead i)) p (Found r) x)
    )

pub up_to_backward : (old new : List ReadRange) (p : Spot) (direction : Direction) (high : Cut) (r : Reference) → direction ≡ Backward → has_name p.reference r ≡ true
    → ((x : Reference) → stands_before high x ≡ is_before p.is_open p.reference x)
    → ((x : Reference) → is_in_one new x ≡ (is_in_one old x || (not (is_before false r x) && stands_before high x)))
    → (x : Reference) → is_in_one new x ≡ (is_in_one old x || query_read (is_forward direction) p (Found r) x)
up_to_backward old new p direction high r back name ends more x =
    let law = reads_range (λ _. false) x in
    more x ∙ ap (λ b. is_in_one old x || b) ((λ i. not (is_before false r x) && ends x i) ∙ sym (law.query_backward p r name) ∙ (λ i. query_read (is_forward (sym back i)) p (Found r) x))

pub rest_forward : (old new : List ReadRange) (p : Spot) (direction : Direction) (low : Cut) (name : Reference) → direction ≡ Forward → name ≡ root_of p.reference
    → ((x : Reference) → stands_before low x ≡ not (is_after false p.reference x))
    → ((x : Reference) → is_in_one new x ≡ (is_in_one old x || (not (stands_before low x) && is_before true name x)))
    → (x : Reference) → is_in_one new x ≡ (is_in_one old x || follows (is_forward direction) p x)
rest_forward old new p direction low name ahead ends starts more x =
    let law = reads_range (λ _. false) x in
    more x ∙ ap (λ b. is_in_one old x || b) (
    ap (λ b. not b && is_before true name x) (starts x) ∙ ap (λ b. b && is_before true name x) (not-not (is_after false p.reference x)) ∙ (λ i. is_after false p.reference x && is_before true (ends i) x) ∙ sym (law.none_forward p [])
    ∙ (λ i. follows (is_forward (sym ahead i)) p x)
    )

pub rest_backward : (old new : List ReadRange) (p : Spot) (direction : Direction) (name : Reference) (high : Cut) → direction ≡ Backward → name ≡ root_of p.reference
    → ((x : Reference) → stands_before high x ≡ is_before p.is_open p.reference x)
    → ((x : Reference) → is_in_one new x ≡ (is_in_one old x || (not (is_before false name x) && stands_before high x)))
    → (x : Reference) → is_in_one new x ≡ (is_in_one old x || follows (is_forward direction) p x)
rest_backward old new p direction name high back starts ends more x =
    let law = reads_range (λ _. false) x in
    more x ∙ ap (λ b. is_in_one old x || b) ((λ i. not (is_before false (starts i) x) && ends x i) ∙ sym (law.none_backward p []) ∙ (λ i. follows (is_forward (sym back i)) p x))

-- ---- $ORDER of names

and_true : (b : Bool) → (b && true) ≡ b
and_true true = refl
and_true false = refl

name_forward : (start : Option (List ℕ)) (answer : Answer) (x : Reference) → name_read true start answer x ≡ (not (name_start true start x) && names_end answer x)
name_forward start Done x = let law = reads_range (λ _. false) x in law.no_name_forward start [] ∙ sym (and_true (not (name_start true start x)))
name_forward start (Value t) x = let law = reads_range (λ _. false) x in law.no_name_forward start [] ∙ sym (and_true (not (name_start true start x)))
name_forward start (Number n) x = let law = reads_range (λ _. false) x in law.no_name_forward start [] ∙ sym (and_true (not (name_start true start x)))
name_forward start (Found r) x = let law = reads_range (λ _. false) x in law.name_forward start r

name_backward : (start : Option (List ℕ)) (answer : Answer) (x : Reference) → name_read false start answer x ≡ (not (names_begin answer x) && name_start false start x)
name_backward start Done x = let law = reads_range (λ _. false) x in law.no_name_backward start []
name_backward start (Value t) x = let law = reads_range (λ _. false) x in law.no_name_backward start []
name_backward start (Number n) x = let law = reads_range (λ _. false) x in law.no_name_backward start []
name_backward start (Found r) x = let law = reads_range (λ _. false) x in law.name_backward start r

pub names_forward : (old new : List ReadRange) (start : Option (List ℕ)) (direction : Direction) (answer : Answer) (low high : Cut) → direction ≡ Forward
    → ((x : Reference) → stands_before low x ≡ name_start (is_forward direction) start x) → ((x : Reference) → stands_before high x ≡ names_end answer x)
    → ((x : Reference) → is_in_one new x ≡ (is_in_one old x || (not (stands_before low x) && stands_before high x)))
    → (x : Reference) → is_in_one new x ≡ (is_in_one old x || name_read (is_forward direction) start answer x)
names_forward old new start direction answer low high ahead begins ends more x =
    more x ∙ ap (λ b. is_in_one old x || b) ((λ i. not ((begins x ∙ (λ j. name_start (is_forward (ahead j)) start x)) i) && ends x i) ∙ sym (name_forward start answer x) ∙ (λ i. name_read (is_forward (sym ahead i)) start answer x))

pub names_backward : (old new : List ReadRange) (start : Option (List ℕ)) (direction : Direction) (answer : Answer) (low high : Cut) → direction ≡ Backward
    → ((x : Reference) → stands_before low x ≡ names_begin answer x) → ((x : Reference) → stands_before high x ≡ name_start (is_forward direction) start x)
    → ((x : Reference) → is_in_one new x ≡ (is_in_one old x || (not (stands_before low x) && stands_before high x)))
    → (x : Reference) → is_in_one new x ≡ (is_in_one old x || name_read (is_forward direction) start answer x)
names_backward old new start direction answer low high back begins ends more x =
    more x ∙ ap (λ b. is_in_one old x || b) ((λ i. not (begins x i) && (ends x ∙ (λ j. name_start (is_forward (back j)) start x)) i) ∙ sym (name_backward start answer x) ∙ (λ i. name_read (is_forward (sym back i)) start answer x))

pub names_noted : (old new : List ReadRange) (start : Option (List ℕ)) (direction : Direction) (answer : Answer) (decided : Bool)
    → ((x : Reference) → is_in_one new x ≡ (is_in_one old x || name_read (is_forward direction) start answer x)) → IsNoted old new (Look (Name start direction)) answer decided
names_noted old new start direction answer decided more = noted old new (Look (Name start direction)) answer decided _ (λ own d x. refl) more
