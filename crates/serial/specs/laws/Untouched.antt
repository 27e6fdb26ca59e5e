-- What commands and units don't touch keeps its value.
use Rattle.std.proofs.Common.{◌≡◌, ℕ, Bool, true, false, List, [], ◌∷◌, ◌++◌, refl, sym, ap, ◌∙◌}
use Rattle.std.specs.Prelude.{◌&&◌, ◌||◌, not, cond, Option, Some, None, is_some}
use Rattle.std.specs.Option.{option_or}
use Rattle.std.specs.List.{list_any}
use Rattle.std.specs.Cmp.{first_so, second_so}
use Rattle.std.specs.Cmp.Lexicographic.{bytes_decides}
use Rattle.std.proofs.lemmas.Bool.{and_from, false_from_ne_true}
use Rattle.std.proofs.lemmas.List.Folds.{list_any-append}
use Rattle.std.specs.FinMap as finmap
use Rattle.command.specs.declared.access.DataCommand.{DataCommand}
use Rattle.command.specs.declared.access.DataCommand.TheVariants.{Set, Kill, Merge, Increment, Look}
use Rattle.collation.specs.Reference.{Reference}
use Rattle.collation.specs.Order.{ref_cmp, ref_eq}
use Rattle.collation.specs.laws.Order.{ref_cmp_total, ref_cmp-IsAntisymmetric, ref_eq_decides}
use Rattle.collation.specs.Database.{Database, is_under}
use Rattle.globals.specs.Entries.{nearest_entry}
use Rattle.collation.specs.Answers.{moved}
use Rattle.command.specs.Data.{data_after, sum_at}
use Rattle.globals.specs.laws.Nearest.{any_nearest, nearest_none}
use Rattle.globals.specs.laws.Changing.{get_set, increment_one, kill_taken, merge_subtree, begins_back}
use Rattle.journal.specs.declared.unit.Exchange.{Exchange}
use Rattle.journal.specs.declared.unit.Unit.{Unit as JournalUnit}
use Rattle.journal.specs.declared.unit.Unit.TheVariants.{Lone, Whole, Lock, Back, End}
use Rattle.journal.specs.History.{State, after_unit, after, all_after}
use Rattle.journal.specs.Touching.{sets, kills, leaves_set, touched_by, touched, any_touched}
use Rattle.serial.specs.Agreeing.{Agree}

-- both parts of a test that fails
pub neither : (a b : Bool) → (a || b) ≡ false → (a ≡ false) × (b ≡ false)
neither true b h = absurd (cc)
neither false b h = (refl, h)

-- ---- one command

moved_itself : (a x : Reference) → is_under a x ≡ true → moved a a x ≡ x
moved_itself a x h =
    let name : a.name ≡ x.name = (bytes_decides a.name x.name).0 (first_so _ _ h) in
    let rest = begins_back x.subscripts a.subscripts (second_so _ _ h) in
    λ i. record { name = name i; subscripts = rest i }

or_itself : {A : Type 0} (o : Option A) → option_or o o ≡ o
or_itself None = refl
or_itself (Some x) = refl

none_of : {A : Type 0} (o : Option A) → is_some o ≡ false → o ≡ None
none_of None h = refl
none_of (Some x) h = absurd (cc)

-- what a command doesn't set keeps its value, unless the command kills it
pub not_set : (c : DataCommand) (m : Database) (x : Reference) → sets c m x ≡ false → finmap.get (data_after c m) x ≡ cond (kills c x) None (finmap.get m x)
not_set (Set r v) m x h = get_set m r v x ∙ ap (λ b. cond b (Some v) (finmap.get m x)) h
not_set (Kill r extent) m x h = kill_taken m r extent x
not_set (Merge a b) m x h = merge_subtree m a b x ∙ by_test (ref_eq a b) (is_under a x) (finmap.contains_key m (moved b a x)) refl refl refl h
  where
    by_test : (e u c : Bool) → ref_eq a b ≡ e → is_under a x ≡ u → finmap.contains_key m (moved b a x) ≡ c → (not e && (u && c)) ≡ false → cond u (option_or (finmap.get m (moved b a x)) (finmap.get m x)) (finmap.get m x) ≡ finmap.get m x
    by_test e false c same u there h = refl
    by_test true true c same u there h =
        let b_is : b ≡ a = sym ((ref_eq_decides a b).0 same) in
        ap (λ z. option_or (finmap.get m (moved z a x)) (finmap.get m x)) b_is ∙ ap (λ z. option_or (finmap.get m z) (finmap.get m x)) (moved_itself a x u) ∙ or_itself (finmap.get m x)
    by_test false true true same u there h = absurd (cc)
    by_test false true false same u there h = ap (λ o. option_or o (finmap.get m x)) (none_of (finmap.get m (moved b a x)) there)
not_set (Increment r n) m x h = increment_one m r n x ∙ ap (λ b. cond b (Some (sum_at r n m)) (finmap.get m x)) h
not_set (Look look) m x h = refl

-- ---- commands in turn

not_left_set : (es : List Exchange) (m : Database) (x : Reference) → leaves_set es m x ≡ false → finmap.get (all_after es m) x ≡ cond (list_any (λ (e : Exchange). kills e.command x) es) None (finmap.get m x)
not_left_set [] m x h = refl
not_left_set (e ∷ es) m x h =
    let parts = neither (sets e.command m x && not (list_any (λ (later : Exchange). kills later.command x) es)) (leaves_set es (data_after e.command m) x) h in
    not_left_set es (data_after e.command m) x parts.1 ∙ by_kill (list_any (λ (later : Exchange). kills later.command x) es) parts.0
  where
    killed : (k : Bool) → cond (k || true) None (finmap.get m x) ≡ None
    killed true = refl
    killed false = refl

    unless : (k : Bool) → cond k None (finmap.get m x) ≡ cond (k || false) None (finmap.get m x)
    unless true = refl
    unless false = refl

    by_set : (s : Bool) → sets e.command m x ≡ s → (s && true) ≡ false → finmap.get (data_after e.command m) x ≡ cond (kills e.command x || false) None (finmap.get m x)
    by_set true is h = absurd (cc)
    by_set false is h = not_set e.command m x is ∙ unless (kills e.command x)

    by_kill : (k : Bool) → (sets e.command m x && not k) ≡ false → cond k None (finmap.get (data_after e.command m) x) ≡ cond (kills e.command x || k) None (finmap.get m x)
    by_kill true h = sym (killed (kills e.command x))
    by_kill false h = by_set (sets e.command m x) refl h

-- what commands don't touch keeps its value
pub untouched : (es : List Exchange) (m : Database) (x : Reference) → touched_by es m x ≡ false → Agree m (all_after es m) x
untouched es m x h =
    let parts = neither (leaves_set es m x) (finmap.contains_key m x && not (finmap.contains_key (all_after es m) x)) h in
    by_kill (list_any (λ (e : Exchange). kills e.command x) es) (not_left_set es m x parts.0) (finmap.get m x) (finmap.get (all_after es m) x) refl refl parts.1
  where
    by_kill : (k : Bool) → finmap.get (all_after es m) x ≡ cond k None (finmap.get m x) → (o g : Option (List ℕ)) → finmap.get m x ≡ o → finmap.get (all_after es m) x ≡ g → (is_some o && not (is_some g)) ≡ false → Agree m (all_after es m) x
    by_kill false rest o g was is h = sym rest
    by_kill true rest None g was is h = was ∙ sym rest
    by_kill true rest (Some v) None was is h = absurd (cc)
    by_kill true rest (Some v) (Some w) was is h = let e : None ≡ Some w = sym rest ∙ is in absurd (cc)

-- ---- units in turn

pub untouched_by_unit : (u : JournalUnit) (s : State) (x : Reference) → touched u s x ≡ false → Agree s.map (after_unit u s).map x
untouched_by_unit (Lone job command answer) s x h = untouched (record { command = command; answer = answer } ∷ []) s.map x h
untouched_by_unit (Whole job exchanges) s x h = untouched exchanges s.map x h
untouched_by_unit (Lock job inside command had) s x h = refl
untouched_by_unit (Back job) s x h = refl
untouched_by_unit (End job) s x h = refl

-- a test that holds of a member holds of some key
pub any_there : (P : Reference → Bool) (m : Database) (x : Reference) → P x ≡ true → finmap.contains_key m x ≡ true → list_any P (finmap.keys m) ≡ true
any_there P m x p there = any_nearest P m ∙ by_found (nearest_entry true P m) refl
  where
    by_found : (o : Option (Reference × List ℕ)) → nearest_entry true P m ≡ o → is_some o ≡ true
    by_found None is = let e : false ≡ true = sym (ap is_some (nearest_none ref_cmp ref_cmp_total ref_cmp-IsAntisymmetric true P m is x p)) ∙ there in absurd (cc)
    by_found (Some e) is = refl

step_untouched : (test : Reference → Bool) (u : JournalUnit) (s : State) → list_any (λ x. touched u s x && test x) (finmap.keys s.map ++ finmap.keys (after_unit u s).map) ≡ false → (x : Reference) → test x ≡ true → Agree s.map (after_unit u s).map x
step_untouched test u s none x t =
    let parts = neither (list_any (λ x. touched u s x && test x) (finmap.keys s.map)) (list_any (λ x. touched u s x && test x) (finmap.keys (after_unit u s).map)) (sym (list_any-append (λ x. touched u s x && test x) (finmap.keys s.map) (finmap.keys (after_unit u s).map)) ∙ none) in
    by_there (finmap.get s.map x) (finmap.get (after_unit u s).map x) refl refl parts.0 parts.1
  where
    untouched_at : (m : Database) → list_any (λ x. touched u s x && test x) (finmap.keys m) ≡ false → finmap.contains_key m x ≡ true → touched u s x ≡ false
    untouched_at m none there = false_from_ne_true _ (λ h. let e : true ≡ false = sym (any_there (λ x. touched u s x && test x) m x (and_from _ _ h t) there) ∙ none in absurd (cc))

    by_there : (o g : Option (List ℕ)) → finmap.get s.map x ≡ o → finmap.get (after_unit u s).map x ≡ g → list_any (λ x. touched u s x && test x) (finmap.keys s.map) ≡ false → list_any (λ x. touched u s x && test x) (finmap.keys (after_unit u s).map) ≡ false → Agree s.map (after_unit u s).map x
    by_there None None was is h k = was ∙ sym is
    by_there (Some v) g was is h k = untouched_by_unit u s x (untouched_at s.map h (ap is_some was))
    by_there None (Some v) was is h k = untouched_by_unit u s x (untouched_at (after_unit u s).map k (ap is_some is))

-- where no unit touches a reference that passes the test, the references that pass keep their values
pub untouched_by_units : (test : Reference → Bool) (us : List JournalUnit) (s : State) → any_touched test us s ≡ false → (x : Reference) → test x ≡ true → Agree s.map (after us s).map x
untouched_by_units test [] s none x t = refl
untouched_by_units test (u ∷ us) s none x t =
    let parts = neither (list_any (λ x. touched u s x && test x) (finmap.keys s.map ++ finmap.keys (after_unit u s).map)) (any_touched test us (after_unit u s)) none in
    step_untouched test u s parts.0 x t ∙ untouched_by_units test us (after_unit u s) parts.1 x t
