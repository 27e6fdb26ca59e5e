-- What is touched has a value before or after, so that a search among these finds it.
use Rattle.std.proofs.Common.{◌≡◌, Bool, true, false, List, [], ◌∷◌, ◌++◌, refl, ap, ◌∙◌, ◌⊎◌, inl, inr}
use Rattle.std.specs.Prelude.{◌&&◌, ◌||◌, ◌↔◌, not, cond, Option, Some, None, is_some}
use Rattle.std.specs.Option.{option_or}
use Rattle.std.specs.List.{list_any}
use Rattle.std.specs.Cmp.{first_so, second_so}
use Rattle.std.proofs.lemmas.Bool.{and_from, or_left, or_right}
use Rattle.std.proofs.lemmas.List.Folds.{list_any-append}
use Rattle.std.specs.FinMap as finmap
use Rattle.command.specs.declared.access.DataCommand.{DataCommand}
use Rattle.command.specs.declared.access.DataCommand.TheVariants.{Set, Kill, Merge, Increment, Look}
use Rattle.collation.specs.Reference.{Reference}
use Rattle.collation.specs.Order.{ref_eq}
use Rattle.collation.specs.laws.Entries.{either}
use Rattle.collation.specs.Database.{Database, is_under}
use Rattle.collation.specs.Answers.{moved}
use Rattle.command.specs.Data.{data_after, sum_at}
use Rattle.globals.specs.laws.Changing.{get_set, increment_one, kill_taken, merge_subtree}
use Rattle.journal.specs.declared.unit.Exchange.{Exchange}
use Rattle.journal.specs.declared.unit.Unit.{Unit as JournalUnit}
use Rattle.journal.specs.declared.unit.Unit.TheVariants.{Lone, Whole, Lock, Back, End}
use Rattle.journal.specs.History.{State, after_unit, all_after}
use Rattle.journal.specs.Touching.{sets, kills, leaves_set, touched_by, touched, any_touched}
use Rattle.serial.specs.Overtaking.{SomeTouched}
use Rattle.serial.specs.laws.Untouched.{any_there}

pub false_of_not : (b : Bool) → not b ≡ true → b ≡ false
false_of_not true h = absurd (cc)
false_of_not false h = refl

-- ---- what is set is there

there_or : {A : Type 0} (o g : Option A) → is_some g ≡ true → is_some (option_or o g) ≡ true
there_or None g h = h
there_or (Some x) g h = refl

or_there : {A : Type 0} (o g : Option A) → is_some o ≡ true → is_some (option_or o g) ≡ true
or_there None g h = absurd (cc)
or_there (Some x) g h = refl

-- what a command sets has a value after it
pub set_is_there : (c : DataCommand) (m : Database) (x : Reference) → sets c m x ≡ true → finmap.contains_key (data_after c m) x ≡ true
set_is_there (Set r v) m x h = ap is_some (get_set m r v x ∙ ap (λ b. cond b (Some v) (finmap.get m x)) h)
set_is_there (Kill r extent) m x h = absurd (cc)
set_is_there (Merge a b) m x h =
    let part : (is_under a x && finmap.contains_key m (moved b a x)) ≡ true = second_so (not (ref_eq a b)) _ h in
    ap is_some (merge_subtree m a b x ∙ ap (λ u. cond u (option_or (finmap.get m (moved b a x)) (finmap.get m x)) (finmap.get m x)) (first_so (is_under a x) _ part))
    ∙ or_there (finmap.get m (moved b a x)) (finmap.get m x) (second_so (is_under a x) _ part)
set_is_there (Increment r n) m x h = ap is_some (increment_one m r n x ∙ ap (λ b. cond b (Some (sum_at r n m)) (finmap.get m x)) h)
set_is_there (Look look) m x h = absurd (cc)

-- what has a value and isn't killed keeps one
not_killed : (c : DataCommand) (m : Database) (x : Reference) → kills c x ≡ false → finmap.contains_key m x ≡ true → finmap.contains_key (data_after c m) x ≡ true
not_killed (Set r v) m x k h = ap is_some (get_set m r v x) ∙ elim (ref_eq x r) as (λ b. is_some (cond b (Some v) (finmap.get m x)) ≡ true) [ true ↦ refl | false ↦ h ]
not_killed (Kill r extent) m x k h = ap is_some (kill_taken m r extent x ∙ ap (λ b. cond b None (finmap.get m x)) k) ∙ h
not_killed (Merge a b) m x k h =
    ap is_some (merge_subtree m a b x)
    ∙ elim (is_under a x) as (λ u. is_some (cond u (option_or (finmap.get m (moved b a x)) (finmap.get m x)) (finmap.get m x)) ≡ true) [ true ↦ there_or (finmap.get m (moved b a x)) (finmap.get m x) h | false ↦ h ]
not_killed (Increment r n) m x k h = ap is_some (increment_one m r n x) ∙ elim (ref_eq x r) as (λ b. is_some (cond b (Some (sum_at r n m)) (finmap.get m x)) ≡ true) [ true ↦ refl | false ↦ h ]
not_killed (Look look) m x k h = h

none_killed : (es : List Exchange) (m : Database) (x : Reference) → list_any (λ (e : Exchange). kills e.command x) es ≡ false → finmap.contains_key m x ≡ true → finmap.contains_key (all_after es m) x ≡ true
none_killed [] m x k h = h
none_killed (e ∷ es) m x k h = by_kill (kills e.command x) refl k (none_killed es (data_after e.command m) x)
  where
    by_kill : (b : Bool) → kills e.command x ≡ b → (b || list_any (λ (e : Exchange). kills e.command x) es) ≡ false →
        (list_any (λ (e : Exchange). kills e.command x) es ≡ false → finmap.contains_key (data_after e.command m) x ≡ true → finmap.contains_key (all_after es (data_after e.command m)) x ≡ true) →
        finmap.contains_key (all_after es (data_after e.command m)) x ≡ true
    by_kill true is k rest = absurd (cc)
    by_kill false is k rest = rest k (not_killed e.command m x is h)

left_set_is_there : (es : List Exchange) (m : Database) (x : Reference) → leaves_set es m x ≡ true → finmap.contains_key (all_after es m) x ≡ true
left_set_is_there [] m x h = absurd (cc)
left_set_is_there (e ∷ es) m x h = elim (either (sets e.command m x && not (list_any (λ (later : Exchange). kills later.command x) es)) (leaves_set es (data_after e.command m) x) h) [
  | inl now ↦ none_killed es (data_after e.command m) x (false_of_not _ (second_so (sets e.command m x) _ now)) (set_is_there e.command m x (first_so (sets e.command m x) _ now))
  | inr later ↦ left_set_is_there es (data_after e.command m) x later
]

-- what commands touch has a value before them or after
pub touched_is_there : (es : List Exchange) (m : Database) (x : Reference) → touched_by es m x ≡ true → (finmap.contains_key m x ≡ true) ⊎ (finmap.contains_key (all_after es m) x ≡ true)
touched_is_there es m x h = elim (either (leaves_set es m x) (finmap.contains_key m x && not (finmap.contains_key (all_after es m) x)) h) [
  | inl set ↦ inr (left_set_is_there es m x set)
  | inr gone ↦ inl (first_so (finmap.contains_key m x) _ gone)
]

pub touched_is_there_by_unit : (u : JournalUnit) (s : State) (x : Reference) → touched u s x ≡ true → (finmap.contains_key s.map x ≡ true) ⊎ (finmap.contains_key (after_unit u s).map x ≡ true)
touched_is_there_by_unit (Lone job command answer) s x h = touched_is_there (record { command = command; answer = answer } ∷ []) s.map x h
touched_is_there_by_unit (Whole job exchanges) s x h = touched_is_there exchanges s.map x h
touched_is_there_by_unit (Lock job inside command had) s x h = absurd (cc)
touched_is_there_by_unit (Back job) s x h = absurd (cc)
touched_is_there_by_unit (End job) s x h = absurd (cc)

-- ---- the search

some_passes : (P : Reference → Bool) (xs : List Reference) → list_any P xs ≡ true → (x : Reference) × (P x ≡ true)
some_passes P [] h = absurd (cc)
some_passes P (x ∷ xs) h = elim (either (P x) (list_any P xs) h) [ inl p ↦ (x, p) | inr rest ↦ some_passes P xs rest ]

found : (test : Reference → Bool) (us : List JournalUnit) (s : State) → any_touched test us s ≡ true → SomeTouched test us s
found test [] s h = absurd (cc)
found test (u ∷ us) s h = elim (either (list_any (λ x. touched u s x && test x) (finmap.keys s.map ++ finmap.keys (after_unit u s).map)) (any_touched test us (after_unit u s)) h) [
  | inl now ↦
      let there = some_passes (λ x. touched u s x && test x) (finmap.keys s.map ++ finmap.keys (after_unit u s).map) now in
      inl (there.0, first_so (touched u s there.0) _ there.1, second_so (touched u s there.0) _ there.1)
  | inr later ↦ inr (found test us (after_unit u s) later)
]

is_found : (test : Reference → Bool) (us : List JournalUnit) (s : State) → SomeTouched test us s → any_touched test us s ≡ true
is_found test [] s h = absurd h
is_found test (u ∷ us) s (inl hit) =
    let passes = and_from _ _ hit.1 hit.2 in
    or_left _ _ (list_any-append (λ x. touched u s x && test x) (finmap.keys s.map) (finmap.keys (after_unit u s).map) ∙ elim (touched_is_there_by_unit u s hit.0 hit.1) [
      | inl before ↦ or_left _ _ (any_there (λ x. touched u s x && test x) s.map hit.0 passes before)
      | inr behind ↦ or_right (list_any (λ x. touched u s x && test x) (finmap.keys s.map)) _ (any_there (λ x. touched u s x && test x) (after_unit u s).map hit.0 passes behind)
    ])
is_found test (u ∷ us) s (inr later) = or_right (list_any (λ x. touched u s x && test x) (finmap.keys s.map ++ finmap.keys (after_unit u s).map)) _ (is_found test us (after_unit u s) later)

-- the test of the machine is the sentence
pub any_touched_tells : (test : Reference → Bool) (us : List JournalUnit) (s : State) → (any_touched test us s ≡ true) ↔ SomeTouched test us s
any_touched_tells test us s = (found test us s, is_found test us s)
