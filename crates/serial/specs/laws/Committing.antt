-- How read sets and writes grow, and what a commit leaves.
use Rattle.std.proofs.Common.{◌≡◌, Bool, true, false, List, [], ◌∷◌, ◌++◌, refl, sym, ap, ◌∙◌}
use Rattle.std.specs.Prelude.{◌&&◌, ◌||◌, not, cond, None, is_some}
use Rattle.std.specs.List.{list_any}
use Rattle.std.proofs.lemmas.Bool.{or_left, or_right}
use Rattle.std.proofs.lemmas.List.Folds.{list_any-append}
use Rattle.std.specs.FinMap as finmap
use Rattle.command.specs.declared.access.DataCommand.{DataCommand}
use Rattle.command.specs.declared.access.DataCommand.TheVariants.{Set, Kill, Merge, Increment, Look}
use Rattle.command.specs.declared.access.Answer.{Answer}
use Rattle.collation.specs.Reference.{Reference}
use Rattle.collation.specs.Order.{ref_eq}
use Rattle.collation.specs.Database.{Database, is_under}
use Rattle.collation.specs.Answers.{moved}
use Rattle.command.specs.Data.{data_after}
use Rattle.globals.specs.laws.Changing.{under_moved}
use Rattle.journal.specs.declared.unit.Exchange.{Exchange}
use Rattle.journal.specs.declared.unit.Unit.{Unit as JournalUnit}
use Rattle.journal.specs.History.{State, after, after_unit, all_after}
use Rattle.journal.specs.laws.History.{all_after-append}
use Rattle.journal.specs.Touching.{sets, kills, read_set, own_after, own_by, is_read, has_read, has_written, leaves_set, touched, any_touched}
use Rattle.serial.specs.Agreeing.{Agree}
use Rattle.serial.specs.Committing.{GrowsBy, SeesItsStart, CommitsOn, TouchedJoins}
use Rattle.serial.specs.laws.Rereading.{agree_after, own_agree}
use Rattle.serial.specs.laws.Untouched.{neither, not_set}

-- ---- one more command

or_assoc : (a b c : Bool) → (a || (b || c)) ≡ ((a || b) || c)
or_assoc true b c = refl
or_assoc false b c = refl

or_nothing : (a : Bool) → (a || false) ≡ a
or_nothing true = refl
or_nothing false = refl

read_more : (es : List Exchange) (e : Exchange) (m : Database) (own : Reference → Bool) (x : Reference) → is_read (es ++ e ∷ []) m own x ≡ (is_read es m own x || read_set e.command e.answer (own_by es m own) x)
read_more [] e m own x = or_nothing (read_set e.command e.answer own x)
read_more (d ∷ es) e m own x =
    ap (λ b. read_set d.command d.answer own x || b) (read_more es e (data_after d.command m) (own_after d.command m own) x)
    ∙ or_assoc (read_set d.command d.answer own x) (is_read es (data_after d.command m) (own_after d.command m own) x) _

own_more : (es : List Exchange) (e : Exchange) (m : Database) (own : Reference → Bool) (x : Reference) → own_by (es ++ e ∷ []) m own x ≡ own_after e.command (all_after es m) (own_by es m own) x
own_more [] e m own x = refl
own_more (d ∷ es) e m own x = own_more es e (data_after d.command m) (own_after d.command m own) x

pub left_more : (es : List Exchange) (e : Exchange) (m : Database) (x : Reference) → leaves_set (es ++ e ∷ []) m x ≡ (sets e.command (all_after es m) x || (leaves_set es m x && not (kills e.command x)))
left_more [] e m x = alone (sets e.command m x)
  where
    alone : (s : Bool) → ((s && true) || false) ≡ (s || false)
    alone true = refl
    alone false = refl
left_more (d ∷ es) e m x =
    (λ i. (sets d.command m x && not (list_any-append (λ (later : Exchange). kills later.command x) es (e ∷ []) i)) || left_more es e (data_after d.command m) x i)
    ∙ regrouped (sets d.command m x) (list_any (λ (later : Exchange). kills later.command x) es) (kills e.command x) (sets e.command (all_after es (data_after d.command m)) x) (leaves_set es (data_after d.command m) x)
  where
    regrouped : (s k killed set left : Bool) → ((s && not (k || (killed || false))) || (set || (left && not killed))) ≡ (set || (((s && not k) || left) && not killed))
    regrouped true true killed set left = refl
    regrouped true false true true left = refl
    regrouped true false true false true = refl
    regrouped true false true false false = refl
    regrouped true false false true left = refl
    regrouped true false false false left = refl
    regrouped false k killed set left = refl

pub grows_by : (es : List Exchange) (e : Exchange) (m : Database) (x : Reference) → GrowsBy es e m x
grows_by es e m x = record {
  seen = all_after-append es (e ∷ []) m;
  read = read_more es e m (λ y. false) x;
  written = own_more es e m (λ y. false) x;
  left_set = left_more es e m x;
}

-- ---- what isn't written

pub own_stays : (es : List Exchange) (m : Database) (own : Reference → Bool) (x : Reference) → own_by es m own x ≡ false → own x ≡ false
own_stays [] m own x h = h
own_stays (e ∷ es) m own x h = let parts = neither (own x) _ (own_stays es (data_after e.command m) (own_after e.command m own) x h) in parts.0

pub unwritten : (es : List Exchange) (m : Database) (own : Reference → Bool) (x : Reference) → own_by es m own x ≡ false → Agree (all_after es m) m x
unwritten [] m own x h = refl
unwritten (e ∷ es) m own x h =
    let now = neither (own x) (sets e.command m x || kills e.command x) (own_stays es (data_after e.command m) (own_after e.command m own) x h) in
    let parts = neither (sets e.command m x) (kills e.command x) now.1 in
    unwritten es (data_after e.command m) (own_after e.command m own) x h ∙ not_set e.command m x parts.0 ∙ ap (λ b. cond b None (finmap.get m x)) parts.1

pub sees_its_start : SeesItsStart
sees_its_start es m x h = unwritten es m (λ y. false) x h

-- ---- on another database

same_sets : (c : DataCommand) (answer : Answer) (own : Reference → Bool) (m n : Database) → ((y : Reference) → read_set c answer own y ≡ true → Agree m n y) → (x : Reference) → sets c n x ≡ sets c m x
same_sets (Set r v) answer own m n reading x = refl
same_sets (Kill r extent) answer own m n reading x = refl
same_sets (Merge a b) answer own m n reading x = ap (λ o. not (ref_eq a b) && (is_under a x && is_some o)) (sym (reading (moved b a x) (under_moved b a x)))
same_sets (Increment r k) answer own m n reading x = refl
same_sets (Look look) answer own m n reading x = refl

same_own : (c : DataCommand) (answer : Answer) (own : Reference → Bool) (m n : Database) → ((y : Reference) → read_set c answer own y ≡ true → Agree m n y) → own_after c n own ≡ own_after c m own
same_own c answer own m n reading = λ i x. own x || (same_sets c answer own m n reading x i || kills c x)

-- what two databases that agree on what is read come to have in common
record IsShared (es : List Exchange) (own : Reference → Bool) (m n : Database) (x : Reference) : Type 0 where
  written : own_by es n own x ≡ own_by es m own x
  left_set : leaves_set es n x ≡ leaves_set es m x
  value : own_by es m own x ≡ true → Agree (all_after es m) (all_after es n) x

shared : (es : List Exchange) (own : Reference → Bool) (m n : Database) → ((x : Reference) → own x ≡ true → Agree m n x) → ((x : Reference) → is_read es m own x ≡ true → Agree m n x) → (x : Reference) → IsShared es own m n x
shared [] own m n owned reading x = record { written = refl; left_set = refl; value = owned x }
shared (e ∷ es) own m n owned reading x =
    let now : (x : Reference) → read_set e.command e.answer own x ≡ true → Agree m n x = λ x r. reading x (or_left (read_set e.command e.answer own x) _ r) in
    let later : (x : Reference) → is_read es (data_after e.command m) (own_after e.command m own) x ≡ true → Agree m n x = λ x r. reading x (or_right (read_set e.command e.answer own x) (is_read es (data_after e.command m) (own_after e.command m own) x) r) in
    let rest = shared es (own_after e.command m own) (data_after e.command m) (data_after e.command n) (own_agree e.command e.answer own m n now owned) (λ x r. agree_after e.command e.answer own m n now x (later x r)) x in
    record {
      written = ap (λ o. own_by es (data_after e.command n) o x) (same_own e.command e.answer own m n now) ∙ rest.written;
      left_set = λ i. (same_sets e.command e.answer own m n now x i && not (list_any (λ (later : Exchange). kills later.command x) es)) || rest.left_set i;
      value = rest.value;
    }

pub commits_on : (es : List Exchange) (m n : Database) → ((x : Reference) → has_read es m x ≡ true → Agree m n x) → (x : Reference) → CommitsOn es m n x
commits_on es m n reading x =
    let common = shared es (λ y. false) m n (λ x f. absurd (cc)) reading x in
    record {
      written = common.written;
      left_set = common.left_set;
      value = by_written (has_written es m x) refl common.written common.value;
    }
  where
    by_written : (b : Bool) → has_written es m x ≡ b → has_written es n x ≡ has_written es m x → (has_written es m x ≡ true → Agree (all_after es m) (all_after es n) x) → finmap.get (all_after es n) x ≡ cond b (finmap.get (all_after es m) x) (finmap.get n x)
    by_written true is same value = sym (value is)
    by_written false is same value = sees_its_start es n x (same ∙ is)

-- ---- joined

any_either : (P Q : Reference → Bool) (xs : List Reference) → list_any (λ x. P x || Q x) xs ≡ (list_any P xs || list_any Q xs)
any_either P Q [] = refl
any_either P Q (x ∷ xs) = ap (λ b. (P x || Q x) || b) (any_either P Q xs) ∙ shuffled (P x) (Q x) (list_any P xs) (list_any Q xs)
  where
    shuffled : (p q a b : Bool) → ((p || q) || (a || b)) ≡ ((p || a) || (q || b))
    shuffled true q a b = refl
    shuffled false true true b = refl
    shuffled false true false b = refl
    shuffled false false a b = refl

and_either : (t a b : Bool) → (t && (a || b)) ≡ ((t && a) || (t && b))
and_either true a b = refl
and_either false a b = refl

touched_units : (test : Reference → Bool) (us vs : List JournalUnit) (s : State) → any_touched test (us ++ vs) s ≡ (any_touched test us s || any_touched test vs (after us s))
touched_units test [] vs s = refl
touched_units test (u ∷ us) vs s =
    ap (λ b. list_any (λ x. touched u s x && test x) (finmap.keys s.map ++ finmap.keys (after_unit u s).map) || b) (touched_units test us vs (after_unit u s))
    ∙ or_assoc (list_any (λ x. touched u s x && test x) (finmap.keys s.map ++ finmap.keys (after_unit u s).map)) (any_touched test us (after_unit u s)) (any_touched test vs (after us (after_unit u s)))

touched_tests : (test other : Reference → Bool) (us : List JournalUnit) (s : State) → any_touched (λ x. test x || other x) us s ≡ (any_touched test us s || any_touched other us s)
touched_tests test other [] s = refl
touched_tests test other (u ∷ us) s =
    (λ i. here i || touched_tests test other us (after_unit u s) i) ∙ shuffle
    (list_any (λ x. touched u s x && test x) (finmap.keys s.map ++ finmap.keys (after_unit u s).map))
    (list_any (λ x. touched u s x && other x) (finmap.keys s.map ++ finmap.keys (after_unit u s).map))
    (any_touched test us (after_unit u s)) (any_touched other us (after_unit u s))
  where
    here : list_any (λ x. touched u s x && (test x || other x)) (finmap.keys s.map ++ finmap.keys (after_unit u s).map)
        ≡ (list_any (λ x. touched u s x && test x) (finmap.keys s.map ++ finmap.keys (after_unit u s).map) || list_any (λ x. touched u s x && other x) (finmap.keys s.map ++ finmap.keys (after_unit u s).map))
    here = (λ i. list_any (λ x. and_either (touched u s x) (test x) (other x) i) (finmap.keys s.map ++ finmap.keys (after_unit u s).map))
        ∙ any_either (λ x. touched u s x && test x) (λ x. touched u s x && other x) (finmap.keys s.map ++ finmap.keys (after_unit u s).map)

    shuffle : (p q a b : Bool) → ((p || q) || (a || b)) ≡ ((p || a) || (q || b))
    shuffle true q a b = refl
    shuffle false true true b = refl
    shuffle false true false b = refl
    shuffle false false a b = refl

pub touched_joins : (us vs : List JournalUnit) (s : State) (test other : Reference → Bool) → TouchedJoins us vs s test other
touched_joins us vs s test other = record { units = touched_units test us vs s; tests = touched_tests test other us s }
