-- A base that is moved on by units.
use Rattle.std.proofs.Common.{◌≡◌, ℕ, ◌+◌, ◌-◌, ◌^◌, ◌≤◌, ◌<◌, min, List, [], ◌∷◌, ◌++◌, length, take, drop, Bool, true, false, refl, sym, ap, subst, ◌∙◌, arith, ◌⊎◌, inl, inr, length-append, append_assoc, append-nil, suc}
use Rattle.std.specs.Prelude.{cond, filter, ◌==◌, Option, None, Some, IfSome}
use Rattle.std.specs.FinMap as finmap
use Rattle.std.specs.FinMap.{is_sorted}
use Rattle.std.proofs.lemmas.List.{take-append-drop, take_all, length-take-le, length-drop}
use Rattle.std.proofs.lemmas.List.Elements.{filter-append}
use Rattle.std.proofs.lemmas.Bool.Decides.{eqb_tells}
use Rattle.std.proofs.Math.Seq.{take-append-add}
use Rattle.collation.specs.Reference.{Reference}
use Rattle.lock_name.specs.Locks.{LockState}
use Rattle.collation.specs.Order.{ref_cmp}
use Rattle.collation.specs.laws.Entries.{true_of}
use Rattle.collation.specs.Changes.{Change, changed}
use Rattle.collation.specs.Database.{Database}
use Rattle.journal.specs.Merging.{put_all}
use Rattle.journal.proofs.Rising.{put_all_entries}
use Rattle.journal.specs.declared.unit.Unit.{Unit as JournalUnit}
use Rattle.journal.specs.declared.unit.Unit.TheVariants.{Lone, Whole, Lock, Back, End}
use Rattle.journal.specs.History.{State, initial, after, after_unit}
use Rattle.journal.specs.laws.History.{after-append}
use Rattle.journal.specs.laws.Adopted.{of_entries, sorted_entries, adopted_number, adopted_state, adopted_tally}
use Rattle.journal.specs.Adopted.{adopted_units}
use Rattle.journal.specs.Counting.{is_counted, is_tallied, tally_of, Tallies, tally_in, AreTallies, one_more, counted_unit, counted_on}
use Rattle.journal.specs.Kept.{job_of}
use Rattle.journal.specs.declared.list.Prepared.{Prepared}
use Rattle.journal.specs.Based.{Based, IsBaseOf, database_of, map_in, locks_in, locks_of_unit, locks_on, HasPassed}
use Rattle.journal.specs.Log.{KeepsBase, Stands, Recorded, IsUnitOf, unit_in, IsTallied, HoldsPrepared}
use Rattle.journal.proofs.Tallied.{one_here, one_apart}

-- ---- locks

one_locks : (u : JournalUnit) (s : State) → (after_unit u s).locks ≡ locks_of_unit u s.locks
one_locks (Lone job command answer) s = refl
one_locks (Whole job exchanges) s = refl
one_locks (Lock job inside command had) s = refl
one_locks (Back job) s = refl
one_locks (End job) s = refl

pub all_locks : (us : List JournalUnit) (s : State) → (after us s).locks ≡ locks_on us s.locks
all_locks [] s = refl
all_locks (u ∷ us) s = all_locks us (after_unit u s) ∙ ap (locks_on us) (one_locks u s)

-- ---- tallies

pub no_more : (p : JournalUnit → Bool) (us : List JournalUnit) → length (filter p us) ≤ length us
no_more p [] = omega arith
no_more p (u ∷ us) = by_test (p u) (no_more p us)
  where
    by_test : (b : Bool) → length (filter p us) ≤ length us → length (cond b (u ∷ filter p us) (filter p us)) ≤ length (u ∷ us)
    by_test true h = omega arith
    by_test false h = omega arith

one_counted : (job : ℕ) (us : List JournalUnit) (u : JournalUnit) (b : Bool) → is_counted job u ≡ b → tally_of job (us ++ u ∷ []) ≡ tally_of job us + cond b 1 0
one_counted job us u b e = ap length (filter-append (is_counted job) us (u ∷ [])) ∙ length-append (filter (is_counted job) us) (filter (is_counted job) (u ∷ [])) ∙ ap (λ n. tally_of job us + n) (ap (λ t. length (cond t (u ∷ []) [])) e ∙ by_test b)
  where
    by_test : (b : Bool) → length (cond b (u ∷ []) []) ≡ cond b 1 0
    by_test true = refl
    by_test false = refl

more_counted : (ts : Tallies) (us : List JournalUnit) (u : JournalUnit) (job : ℕ) → AreTallies ts us → length us < 2 ^ 64 - 1 → ((j : ℕ) → is_counted j u ≡ (job == j)) → AreTallies (one_more job ts) (us ++ u ∷ [])
more_counted ts us u job h less is j some = by_case (eqb_tells job j)
  where
    by_case : (((job == j) ≡ true) × (job ≡ j)) ⊎ (((job == j) ≡ false) × (job ≡ j → ⊥)) → tally_in (one_more job ts) j ≡ tally_of j (us ++ u ∷ [])
    by_case (inl same) =
        let x = min (tally_in ts job + 1) (2 ^ 64 - 1) in
        let put : tally_in (one_more job ts) job ≡ x = one_here job ts in
        let few : tally_of j us ≤ length us = no_more (is_counted j) us in
        let was : tally_in ts job ≡ tally_of j us = ap (tally_in ts) same.1 ∙ h j some in
        let now : tally_of j (us ++ u ∷ []) ≡ tally_of j us + 1 = one_counted j us u true (is j ∙ same.0) in
        let e : x ≡ tally_of j us + 1 = omega arith in
        ap (tally_in (one_more job ts)) (sym same.1) ∙ put ∙ e ∙ sym now
    by_case (inr other) =
        let put : tally_in (one_more job ts) j ≡ tally_in ts j = one_apart job j ts other.1 in
        let now : tally_of j (us ++ u ∷ []) ≡ tally_of j us + 0 = one_counted j us u false (is j ∙ other.0) in
        let z : tally_of j us + 0 ≡ tally_of j us = omega arith in
        put ∙ h j some ∙ sym z ∙ sym now

none_counted : (ts : Tallies) (us : List JournalUnit) (u : JournalUnit) → AreTallies ts us → ((j : ℕ) → is_counted j u ≡ false) → AreTallies ts (us ++ u ∷ [])
none_counted ts us u h is j some =
    let now : tally_of j (us ++ u ∷ []) ≡ tally_of j us + 0 = one_counted j us u false (is j) in
    let z : tally_of j us + 0 ≡ tally_of j us = omega arith in
    h j some ∙ sym z ∙ sym now

unit_counted : (ts : Tallies) (us : List JournalUnit) (u : JournalUnit) → AreTallies ts us → length us < 2 ^ 64 - 1 → AreTallies (counted_unit u ts) (us ++ u ∷ [])
unit_counted ts us (Lone job command answer) h less = more_counted ts us (Lone job command answer) job h less (λ j. refl)
unit_counted ts us (Whole job exchanges) h less = more_counted ts us (Whole job exchanges) job h less (λ j. refl)
unit_counted ts us (Lock job inside command had) h less = more_counted ts us (Lock job inside command had) job h less (λ j. refl)
unit_counted ts us (Back job) h less = none_counted ts us (Back job) h (λ j. refl)
unit_counted ts us (End job) h less = none_counted ts us (End job) h (λ j. refl)

pub all_counted : (vs : List JournalUnit) (ts : Tallies) (us : List JournalUnit) → AreTallies ts us → length us + length vs < 2 ^ 64 → AreTallies (counted_on vs ts) (us ++ vs)
all_counted [] ts us h less = subst (AreTallies ts) (sym (append-nil us)) h
all_counted (v ∷ vs) ts us h less =
    let l : length (us ++ v ∷ []) ≡ length us + 1 = length-append us (v ∷ []) in
    subst (AreTallies (counted_on vs (counted_unit v ts))) (append_assoc us (v ∷ []) vs)
    (all_counted vs (counted_unit v ts) (us ++ v ∷ []) (unit_counted ts us v h (omega arith)) (omega arith))

-- ---- so many units, one after the other

-- what is left to be passed leads where all leads
pub record Passing (more : ℕ) (left : List JournalUnit) (locks : LockState) (tallies : Tallies) (count : ℕ) (us : List JournalUnit) (first : LockState) (firsts : Tallies) : Type 0 where
  pub within : more ≤ length left
  pub rest : drop more left ≡ drop count us
  pub locks_are : locks_on (take more left) locks ≡ locks_on (take count us) first
  pub tallies_are : counted_on (take more left) tallies ≡ counted_on (take count us) firsts

pub passing_on : (more fewer : ℕ) (left new us : List JournalUnit) (locks new_locks first : LockState) (tallies new_tallies firsts : Tallies) (count : ℕ) → more ≡ suc fewer → HasPassed locks new_locks tallies new_tallies left new →
    Passing more left locks tallies count us first firsts → Passing fewer new new_locks new_tallies count us first firsts
passing_on more fewer left new us locks new_locks first tallies new_tallies firsts count e h p =
    let l : length left ≡ suc (length new) = ap length h.next in
    let within : more ≤ length left = p.within in
    let both : (f : ℕ → List JournalUnit → List JournalUnit) → f more left ≡ f (suc fewer) (h.unit ∷ new) = λ f. ap (λ n. f n left) e ∙ ap (f (suc fewer)) h.next in
    record {
      within = omega arith;
      rest = sym (both drop) ∙ p.rest;
      locks_are = ap (locks_on (take fewer new)) h.locks_are ∙ ap (λ xs. locks_on xs locks) (sym (both take)) ∙ p.locks_are;
      tallies_are = ap (counted_on (take fewer new)) h.tallies_are ∙ ap (λ xs. counted_on xs tallies) (sym (both take)) ∙ p.tallies_are;
    }

pub passing_all : (count : ℕ) (us : List JournalUnit) (locks : LockState) (tallies : Tallies) → count ≤ length us → Passing count us locks tallies count us locks tallies
passing_all count us locks tallies h = record { within = h; rest = refl; locks_are = refl; tallies_are = refl }

-- ---- the base

nil_of : {X : Type 0} (xs : List X) → length xs ≡ 0 → xs ≡ []
nil_of [] e = refl
nil_of (x ∷ xs) e = absurd (omega arith)

none_there : finmap.entries (database_of []) ≡ []
none_there = nil_of (finmap.entries (database_of [])) (sym (finmap.len-entries (database_of [])) ∙ finmap.len-empty ref_cmp (List ℕ))

pub none_sorted : (nodes : List (Reference × List ℕ)) → nodes ≡ [] → nodes ≡ finmap.entries (database_of nodes)
none_sorted nodes e = subst (λ xs. xs ≡ finmap.entries (database_of xs)) (sym e) (sym none_there)

pub no_base : (b : Based) → b.number ≡ 0 → b.state ≡ initial → b.tallies ≡ [] → (us : List JournalUnit) → us ≡ [] → IsBaseOf b us
no_base b n s t us e = record {
  number = n ∙ ap length (sym e);
  state = s ∙ ap (λ xs. after xs initial) (sym e);
  tallies = subst (AreTallies b.tallies) (sym e) (λ job some. ap (λ ts. tally_in ts job) t);
}

-- changes in a list of nodes are those in its database
pub merged_nodes : (nodes new : List (Reference × List ℕ)) (cs : List Change) → nodes ≡ finmap.entries (database_of nodes) → new ≡ put_all cs nodes → (new ≡ finmap.entries (database_of new)) × (database_of new ≡ changed cs (database_of nodes))
merged_nodes nodes new cs are is =
    let there : new ≡ finmap.entries (changed cs (database_of nodes)) = is ∙ ap (put_all cs) are ∙ put_all_entries cs (database_of nodes) in
    (sorted_entries new (changed cs (database_of nodes)) there, ap database_of there ∙ of_entries (changed cs (database_of nodes)))

pub nodes_rise : (nodes : List (Reference × List ℕ)) → nodes ≡ finmap.entries (database_of nodes) → is_sorted ref_cmp nodes ≡ true
nodes_rise nodes are = ap (is_sorted ref_cmp) are ∙ true_of _ (finmap.entries_sorted (database_of nodes))

-- the base's database with changes that lead on from where the units up to it lead
pub changed_base : (old : Based) (cs : List Change) (m : Database) (past units : List JournalUnit) → KeepsBase old past units → changed cs (after (take old.number (past ++ units)) initial).map ≡ m → changed cs (map_in old) ≡ m
changed_base old cs m past units keeps are =
    let p : old.number ≡ length past = keeps.base.number in
    let front : take old.number (past ++ units) ≡ past = ap (λ k. take k (past ++ units)) (omega arith) ∙ take-append-add past units 0 ∙ append-nil past in
    ap (λ (s : State). changed cs s.map) keeps.base.state ∙ ap (λ us. changed cs (after us initial).map) (sym front) ∙ are

pub leads_on : (old : Based) (cs : List Change) (n : ℕ) (now : Recorded) (past units : List JournalUnit) → KeepsBase old past units → old.number ≡ now.base → past ++ units ≡ now.units →
    changed cs (after (take now.base now.units) initial).map ≡ (after (take n now.units) initial).map → changed cs (map_in old) ≡ (after (take n now.units) initial).map
leads_on old cs n now past units keeps number all are =
    changed_base old cs (after (take n now.units) initial).map past units keeps (ap (λ k. changed cs (after (take k (past ++ units)) initial).map) number ∙ ap (λ us. changed cs (after (take now.base us) initial).map) all ∙ are)

pub record IsMoved (old new : Based) (count : ℕ) (map : Database) (units : List JournalUnit) : Type 0 where
  pub number : new.number ≡ old.number + count
  pub state : new.state ≡ record { map = map; locks = locks_on (take count units) (locks_in old) }
  pub tallies : new.tallies ≡ counted_on (take count units) old.tallies

-- the base is moved on to a number of all units
pub record Moved (new : Based) (n : ℕ) (past units : List JournalUnit) (count : ℕ) : Type 0 where
  pub keeps : KeepsBase new (past ++ take count units) (drop count units)
  pub all : (past ++ take count units) ++ drop count units ≡ past ++ units
  pub number : new.number ≡ n

pub moved : (old new : Based) (n count : ℕ) (past units : List JournalUnit) (m : Database) → KeepsBase old past units → count ≡ n - old.number → old.number ≤ n → n ≤ length (past ++ units) →
    m ≡ (after (take n (past ++ units)) initial).map → IsMoved old new count m units → Moved new n past units count
moved old new n count past units map keeps c from to are m =
    let base = keeps.base in
    let p : old.number ≡ length past = base.number in
    let l : length (past ++ units) ≡ length past + length units = length-append past units in
    let counted : old.number + length units < 2 ^ 64 = keeps.counted in
    let within : count ≤ length units = omega arith in
    let first = take count units in
    let fl : length first ≡ count = length-take-le count units within in
    let rl : length (drop count units) ≡ length units - count = length-drop count units in
    let here : take n (past ++ units) ≡ past ++ first = ap (λ k. take k (past ++ units)) (omega arith) ∙ take-append-add past units count in
    let there : map ≡ (after (past ++ first) initial).map = are ∙ ap (λ us. (after us initial).map) here in
    let locks : locks_on first (locks_in old) ≡ (after (past ++ first) initial).locks = ap (λ (s : State). locks_on first s.locks) base.state ∙ sym (all_locks first (after past initial)) ∙ ap (λ (s : State). s.locks) (sym (after-append past first initial)) in
    let nl : new.number ≡ old.number + count = m.number in
    record {
      keeps = record {
        base = record {
          number = m.number ∙ omega (arith, p, fl, length-append past first);
          state = m.state ∙ ap (λ d. record { map = d; locks = locks_on first (locks_in old) }) there ∙ ap (λ d. record { map = (after (past ++ first) initial).map; locks = d }) locks;
          tallies = subst (λ ts. AreTallies ts (past ++ first)) (sym m.tallies) (all_counted first old.tallies past base.tallies (omega arith));
        };
        counted = omega arith;
      };
      all = append_assoc past first (drop count units) ∙ ap (λ us. past ++ us) (take-append-drop count units);
      number = omega arith;
    }

pub new_keeps : (b : Based) → b.number ≡ 0 → b.state ≡ initial → b.tallies ≡ [] → (past units : List JournalUnit) → past ≡ [] → units ≡ [] → KeepsBase b past units
new_keeps b n s t past units p u = let l : length units ≡ 0 = ap length u in record { base = no_base b n s t past p; counted = omega arith }

-- a chronicle whose base was moved on
pub record Checked (new : Based) (n : ℕ) (past rest all : List JournalUnit) : Type 0 where
  pub keeps : KeepsBase new past rest
  pub whole : past ++ rest ≡ all
  pub number : new.number ≡ n

checked_at : (old new : Based) (n count left : ℕ) (past new_past units rest all : List JournalUnit) (m : Database) (bytes : List ℕ) → KeepsBase old past units → count ≡ n - old.number → old.number ≤ n → n ≤ length (past ++ units) → past ++ units ≡ all →
    m ≡ (after (take n (past ++ units)) initial).map → IsMoved old new count m units → new_past ≡ past ++ take count units → Stands bytes left (drop count units) → rest ≡ drop (length units - left) units → Checked new n new_past rest all
checked_at old new n count left past new_past units rest all map bytes keeps c from to joined are m p stands r =
    let base = keeps.base in
    let h = moved old new n count past units map keeps c from to are m in
    let pl : old.number ≡ length past = base.number in
    let l : length (past ++ units) ≡ length past + length units = length-append past units in
    let rl : length (drop count units) ≡ length units - count = length-drop count units in
    let ll : left ≡ length (drop count units) = stands.number in
    let same : length units - left ≡ count = omega arith in
    let there : rest ≡ drop count units = r ∙ ap (λ k. drop k units) same in
    record {
      keeps = subst (λ xs. KeepsBase new xs rest) (sym p) (subst (KeepsBase new (past ++ take count units)) (sym there) h.keeps);
      whole = ap (λ xs. xs ++ rest) p ∙ ap (λ xs. (past ++ take count units) ++ xs) there ∙ h.all ∙ joined;
      number = h.number;
    }

pub checked : (old new : Based) (n count left : ℕ) (past new_past units mid rest all : List JournalUnit) (m : Database) (bytes : List ℕ) → KeepsBase old past units → count ≡ n - old.number → old.number ≤ n → n ≤ length all → past ++ units ≡ all →
    m ≡ (after (take n all) initial).map → mid ≡ units → IsMoved old new count m mid → new_past ≡ past ++ take count mid → Stands bytes left (drop count mid) → rest ≡ drop (length mid - left) mid → Checked new n new_past rest all
checked old new n count left past new_past units mid rest all m bytes keeps c from to joined are same =
    subst (λ us. IsMoved old new count m us → new_past ≡ past ++ take count us → Stands bytes left (drop count us) → rest ≡ drop (length us - left) us → Checked new n new_past rest all) (sym same)
    (checked_at old new n count left past new_past units rest all m bytes keeps c from (subst (λ us. n ≤ length us) (sym joined) to) joined (subst (λ us. m ≡ (after (take n us) initial).map) (sym joined) are))

-- ---- a database that was taken over

pub adopted_keeps : (b : Based) (n : ℕ) (nodes : List (Reference × List ℕ)) (past units : List JournalUnit) → b.number ≡ n → b.state ≡ record { map = database_of nodes; locks = finmap.empty } → b.tallies ≡ [] →
    past ≡ adopted_units n nodes → units ≡ [] → (n ≡ 0 → nodes ≡ []) → n < 2 ^ 64 → KeepsBase b past units
adopted_keeps b n nodes past units number state tallies p u none counted =
    let l : length units ≡ 0 = ap length u in
    record {
      base = record {
        number = number ∙ sym (ap length p ∙ adopted_number n nodes);
        state = state ∙ sym (ap (λ us. after us initial) p ∙ adopted_state n nodes none);
        tallies = λ job some. ap (λ ts. tally_in ts job) tallies ∙ sym (ap (tally_of job) p ∙ adopted_tally n nodes job some);
      };
      counted = omega (arith, number, l, counted);
    }

-- ---- tallies of all units

-- one unit more, which counts or not as is noted
pub tallied_on : (ts : Tallies) (us : List JournalUnit) (u : JournalUnit) (b : Bool) → AreTallies ts us → length us + 1 < 2 ^ 64 → b ≡ is_tallied u → AreTallies (cond b (one_more (job_of u) ts) ts) (us ++ u ∷ [])
tallied_on ts us (Lone job command answer) b h less is = subst (λ x. AreTallies (cond x (one_more job ts) ts) (us ++ Lone job command answer ∷ [])) (sym is) (unit_counted ts us (Lone job command answer) h (omega (arith, less)))
tallied_on ts us (Whole job exchanges) b h less is = subst (λ x. AreTallies (cond x (one_more job ts) ts) (us ++ Whole job exchanges ∷ [])) (sym is) (unit_counted ts us (Whole job exchanges) h (omega (arith, less)))
tallied_on ts us (Lock job inside command had) b h less is = subst (λ x. AreTallies (cond x (one_more job ts) ts) (us ++ Lock job inside command had ∷ [])) (sym is) (unit_counted ts us (Lock job inside command had) h (omega (arith, less)))
tallied_on ts us (Back job) b h less is = subst (λ x. AreTallies (cond x (one_more job ts) ts) (us ++ Back job ∷ [])) (sym is) (unit_counted ts us (Back job) h (omega (arith, less)))
tallied_on ts us (End job) b h less is = subst (λ x. AreTallies (cond x (one_more job ts) ts) (us ++ End job ∷ [])) (sym is) (unit_counted ts us (End job) h (omega (arith, less)))

-- more room for numbers
pub as_tallied : (old new : Tallies) (us vs : List JournalUnit) → AreTallies old us → ((q : ℕ) → tally_in new q ≡ tally_in old q) → vs ≡ us → AreTallies new vs
as_tallied old new us vs h same e = subst (AreTallies new) (sym e) (λ job some. same job ∙ h job some)

-- all units are dropped
pub all_dropped : (old new : Based) (past units new_past rest all : List JournalUnit) (nodes : List (Reference × List ℕ)) (locks : LockState) (ts : Tallies) → KeepsBase old past units → past ++ units ≡ all → new.number ≡ length all →
    new.state ≡ record { map = database_of nodes; locks = locks } → new.tallies ≡ ts → nodes ≡ finmap.entries (after all initial).map → locks ≡ (after all initial).locks → AreTallies ts all → new_past ≡ past ++ take (length units) units → rest ≡ [] →
    KeepsBase new new_past rest × (new_past ++ rest ≡ all)
all_dropped old new past units new_past rest all nodes locks ts keeps whole number state tallies are held counted dropped none =
    let passed : new_past ≡ all = dropped ∙ ap (λ us. past ++ us) (take_all (length units) units (omega arith)) ∙ whole in
    let map_is : database_of nodes ≡ (after all initial).map = ap database_of are ∙ of_entries (after all initial).map in
    let state_is : new.state ≡ after all initial = state ∙ (λ i. record { map = map_is i; locks = held i }) in
    let few : length all ≡ length past + length units = ap length (sym whole) ∙ length-append past units in
    let nothing : length rest ≡ 0 = ap length none in
    let was : old.number ≡ length past = keeps.base.number in
    let limit : old.number + length units < 2 ^ 64 = keeps.counted in (
      record {
        base = record {
          number = number ∙ ap length (sym passed);
          state = state_is ∙ ap (λ us. after us initial) (sym passed);
          tallies = subst (AreTallies new.tallies) (sym passed) (subst (λ xs. AreTallies xs all) (sym tallies) counted);
        };
        counted = omega arith;
      },
      ap (λ us. new_past ++ us) none ∙ append-nil new_past ∙ passed,
    )

-- a unit was pushed, and counts or not
pub pushed_tallies : (p : Prepared) (log new : Recorded) (ts now : Tallies) (places : ℕ) → HoldsPrepared (Some p) log places → AreTallies ts log.units → IfSome (unit_in log.behind) (λ u. new.units ≡ log.units ++ u ∷ []) →
    now ≡ cond p.is_tallied (one_more p.job ts) ts → AreTallies now new.units
pushed_tallies p log new ts now places h are more is =
    let unit = h.1.0 in
    let told : new.units ≡ log.units ++ unit ∷ [] = subst (λ o. IfSome o (λ u. new.units ≡ log.units ++ u ∷ [])) h.1.1.0.is more in
    let same : cond p.is_tallied (one_more (job_of unit) ts) ts ≡ now = ap (λ j. cond p.is_tallied (one_more j ts) ts) (sym h.1.1.0.owner) ∙ sym is in
    subst (AreTallies now) (sym told) (subst (λ xs. AreTallies xs (log.units ++ unit ∷ [])) same (tallied_on ts log.units unit p.is_tallied are h.0 h.1.1.1.is))
