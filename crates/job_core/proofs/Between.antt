-- What is noted of units, and the changes that this makes.
use Rattle.std.proofs.Common.{◌≡◌, ℕ, suc, zero, ◌+◌, ◌-◌, ◌≤◌, ◌<◌, List, [], ◌∷◌, ◌++◌, length, take, drop, Bool, true, false, refl, sym, ap, subst, ◌∙◌, ◌⊎◌, inl, inr, arith}
use Rattle.std.specs.Prelude.{cond, not, ◌&&◌, map, filter, is_some, Some, None, Result, Ok, Err, OnOk, IfOk}
use Rattle.std.specs.Option.{option_or}
use Rattle.std.specs.Ordering.{is_lt, eq_by_cmp}
use Rattle.std.specs.declared.cmp.Ordering.TheVariants.{Less}
use Rattle.std.specs.Cmp.{first_so, second_so}
use Rattle.std.specs.FinMap as finmap
use Rattle.std.specs.FinMap.{is_sorted, find}
use Rattle.std.specs.FinMap.Entries.{below_all, find-where_key}
use Rattle.std.specs.List.Sorted.{IsPartitionedBy, IsPartitionPoint}
use Rattle.std.specs.Prelude.{slice_index_or}
use Rattle.std.proofs.lemmas.Bool.{and_right}
use Rattle.std.proofs.lemmas.List.{take-append-drop, length-take-le}
use Rattle.std.proofs.Math.Seq.{take-append-add}
use Rattle.collation.specs.Reference.{Reference}
use Rattle.collation.specs.Order.{ref_cmp}
use Rattle.collation.specs.laws.Order.{ref_cmp_total, ref_cmp-IsAntisymmetric, ref_ties, is_less, is_equal}
use Rattle.collation.specs.Database.{Database, is_under}
use Rattle.collation.specs.Levels.{is_before}
use Rattle.collation.specs.Answers.{moved, subtree_of}
use Rattle.collation.specs.Changes.{Change, changed}
use Rattle.command.specs.declared.access.DataCommand.TheVariants.{Set, Kill, Merge, Increment}
use Rattle.command.specs.declared.access.Extent.{Extent}
use Rattle.command.specs.Data.{data_after, sum_at, takes}
use Rattle.globals.specs.Cuts.{front_under}
use Rattle.globals.specs.laws.Cuts.{under_between, before_end-earlier}
use Rattle.globals.specs.laws.Nearest.{true_of, none_pass, still_fails}
use Rattle.globals.specs.laws.Changing.{get_set, kill_taken, merge_subtree}
use Rattle.globals.specs.laws.Taken.{takes_under}
use Rattle.journal.specs.declared.unit.Exchange.{Exchange}
use Rattle.journal.specs.declared.unit.Unit.{Unit as JournalUnit}
use Rattle.journal.specs.History.{State, initial, after, after_unit, all_after}
use Rattle.journal.specs.laws.History.{after-append}
use Rattle.version_store.specs.laws.Content.{apart_sorted}
use Rattle.job_core.specs.Noted.{Noted, noted_all, IsBetween, StaysBetween, HasPassed, end_values}
use Rattle.job_core.proofs.ChangeLemmas.{get_changed, same_get, or_else}

abbrev Node : Type 0
Node = Reference × List ℕ

-- ---- the nodes from a reference on

-- whether it stands before the reference
abbrev pub is_node_before : Reference → Node → Bool
is_node_before r e = is_lt (ref_cmp e.0 r)

first_below : (r : Reference) (es : List Node) (x : Reference) (j : ℕ) (d : Node) → below_all ref_cmp x es ≡ true → j < length es → is_node_before r (slice_index_or es j d) ≡ true → is_lt (ref_cmp x r) ≡ true
first_below r [] x j d h l is = absurd (omega arith)
first_below r (e ∷ es) x zero d h l is = ap is_lt (ref_cmp_total.trans x e.0 r (is_less (ref_cmp x e.0) (first_so _ _ h)) (is_less (ref_cmp e.0 r) is))
first_below r (e ∷ es) x (suc j) d h l is = first_below r es x j d (second_so (is_lt (ref_cmp x e.0)) _ h) (omega arith) is

pub parted_before : (r : Reference) (es : List Node) → is_sorted ref_cmp es ≡ true → IsPartitionedBy (is_node_before r) es
parted_before r [] h i j d le l is = absurd (omega arith)
parted_before r (e ∷ es) h zero zero d le l is = is
parted_before r (e ∷ es) h zero (suc j) d le l is = first_below r es e.0 j d (first_so (below_all ref_cmp e.0 es) _ h) (omega arith) is
parted_before r (e ∷ es) h (suc i) zero d le l is = absurd (omega arith)
parted_before r (e ∷ es) h (suc i) (suc j) d le l is = parted_before r es (second_so (below_all ref_cmp e.0 es) _ h) i j d (omega arith) (omega arith) is

all_from : (p : Node → Bool) (es : List Node) → ((k : ℕ) (d : Node) → k < length es → p (slice_index_or es k d) ≡ false) → es ≡ filter (λ e. not (p e)) es
all_from p [] h = refl
all_from p (e ∷ es) h = rw (h zero e (omega arith)) (ap (λ xs. e ∷ xs) (all_from p es (λ k d l. h (suc k) d (omega arith))))

-- what a partition point leaves is what fails the test
pub from_point : (p : Node → Bool) (es : List Node) (n : ℕ) → IsPartitionPoint (λ e. p e ≡ true) (λ e. p e ≡ false) es n → n ≤ length es → drop n es ≡ filter (λ e. not (p e)) es
from_point p es zero h le = all_from p es (λ k d l. h.1 k d (omega arith) l)
from_point p [] (suc n) h le = absurd (omega arith)
from_point p (e ∷ es) (suc n) h le =
    rw (h.0 zero e (omega arith) (omega arith)) (from_point p es n ((λ k d low high. h.0 (suc k) d (omega arith) (omega arith)), (λ k d low high. h.1 (suc k) d (omega arith) (omega arith))) (omega arith))

-- ---- what stands at and under a reference stands together

apart : (r x : Reference) → is_lt (ref_cmp x r) ≡ true → is_under r x ≡ false
apart r x l = under_between r x ∙ ap (λ b. not b && is_before true r x) l

later : (r x y : Reference) → is_lt (ref_cmp x r) ≡ false → is_under r x ≡ false → ref_cmp x y ≡ Less → is_under r y ≡ false
later r x y l u s =
    let end : is_before true r x ≡ false = sym (ap (λ b. not b && is_before true r x) l) ∙ sym (under_between r x) ∙ u in
    let end_y : is_before true r y ≡ false = still_fails ref_cmp (is_before true r) (before_end-earlier r) x y end s in
    under_between r y ∙ ap (λ b. not (is_lt (ref_cmp y r)) && b) end_y ∙ and_right (not (is_lt (ref_cmp y r))) false refl

front_is : (r : Reference) (es : List Node) → is_sorted ref_cmp es ≡ true → front_under r (filter (λ e. not (is_lt (ref_cmp e.0 r))) es) ≡ filter (λ e. is_under r e.0) es
front_is r [] h = refl
front_is r (e ∷ es) h =
    let rest = front_is r es (second_so (below_all ref_cmp e.0 es) _ h) in
    elim (is_lt (ref_cmp e.0 r)) as (λ l. is_lt (ref_cmp e.0 r) ≡ l → front_under r (cond (not l) (e ∷ filter (λ e. not (is_lt (ref_cmp e.0 r))) es) (filter (λ e. not (is_lt (ref_cmp e.0 r))) es)) ≡ cond (is_under r e.0) (e ∷ filter (λ e. is_under r e.0) es) (filter (λ e. is_under r e.0) es)) [
      | true ↦ λ l. rw (apart r e.0 l) rest
      | false ↦ λ l. elim (is_under r e.0) as (λ u. is_under r e.0 ≡ u → cond u (e ∷ front_under r (filter (λ e. not (is_lt (ref_cmp e.0 r))) es)) [] ≡ cond u (e ∷ filter (λ e. is_under r e.0) es) (filter (λ e. is_under r e.0) es)) [
        | true ↦ λ u. ap (λ xs. e ∷ xs) rest
        | false ↦ λ u. sym (none_pass ref_cmp (is_under r) e.0 es (λ y s. later r e.0 y l u s) (first_so _ _ h))
      ] refl
    ] refl

pub subtree_from : (r : Reference) (m : Database) → front_under r (filter (λ e. not (is_lt (ref_cmp e.0 r))) (finmap.entries m)) ≡ subtree_of r m
subtree_from r m = front_is r (finmap.entries m) (true_of _ (finmap.entries_sorted m))

-- ---- what is noted

-- what isn't noted once one more is, wasn't, and isn't that one
pub not_before : (n : Noted) (k x : Reference) → finmap.contains_key (finmap.insert n k tt) x ≡ false → (finmap.contains_key n x ≡ false) × (eq_by_cmp ref_cmp x k ≡ false)
not_before n k x h = by_test (eq_by_cmp ref_cmp x k) (sym (ap is_some (finmap.get-insert ref_cmp_total n k tt x)) ∙ h)
  where
    by_test : (t : Bool) → is_some (cond t (Some tt) (finmap.get n x)) ≡ false → (finmap.contains_key n x ≡ false) × (t ≡ false)
    by_test true h = absurd (cc)
    by_test false h = (h, refl)

not_among : (es : List Node) (n : Noted) (x : Reference) → finmap.contains_key (noted_all es n) x ≡ false → (finmap.contains_key n x ≡ false) × (find ref_cmp x es ≡ None)
not_among [] n x h = (h, refl)
not_among (e ∷ es) n x h =
    let rest = not_among es (finmap.insert n e.0 tt) x h in
    let one = not_before n e.0 x rest.0 in
    (one.0, ap (λ b. cond b (Some e.1) (find ref_cmp x es)) one.1 ∙ rest.1)

-- what isn't noted once all at and under r is, wasn't, and has no value there
none_under : (r : Reference) (m : Database) (n : Noted) (x : Reference) → finmap.contains_key (noted_all (subtree_of r m) n) x ≡ false → (finmap.contains_key n x ≡ false) × (is_under r x ≡ true → finmap.get m x ≡ None)
none_under r m n x h =
    let among = not_among (subtree_of r m) n x h in
    let found : find ref_cmp x (subtree_of r m) ≡ cond (is_under r x) (find ref_cmp x (finmap.entries m)) None =
    find-where_key ref_cmp (is_under r) x (λ y t. ap (is_under r) (sym (ref_cmp-IsAntisymmetric x y t))) (finmap.entries m) in
    (among.0, λ u. finmap.get-entries m x ∙ sym (ap (λ b. cond b (find ref_cmp x (finmap.entries m)) None) u) ∙ sym found ∙ among.1)

-- ---- what a command does

Same : Database → Database → Database → Reference → Type 0
Same base end m x = (finmap.get m x ≡ finmap.get base x) ⊎ (finmap.get end x ≡ finmap.get base x)

alike : (base end m n : Database) (x : Reference) → finmap.get n x ≡ finmap.get m x → Same base end m x → Same base end n x
unfolding Same
alike base end m n x is (inl same) = inl (is ∙ same)
alike base end m n x is (inr same) = inr same

pub set_stays : (old new : Noted) (base end m : Database) (r : Reference) (v : List ℕ) → new ≡ finmap.insert old r tt → StaysBetween old new base end m (data_after (Set r v) m)
unfolding Same
set_stays old new base end m r v is h x out =
    let one = not_before old r x (sym (ap (λ n. finmap.contains_key n x) is) ∙ out) in
    alike base end m (data_after (Set r v) m) x (get_set m r v x ∙ ap (λ b. cond b (Some v) (finmap.get m x)) (ref_ties x r ∙ one.1)) (h x one.0)

pub increment_stays : (old new : Noted) (base end m : Database) (r : Reference) (n : List ℕ) → new ≡ finmap.insert old r tt → StaysBetween old new base end m (data_after (Increment r n) m)
increment_stays old new base end m r n is = set_stays old new base end m r (sum_at r n m) is

pub kill_stays : (old new : Noted) (base end m : Database) (r : Reference) (extent : Extent) → new ≡ noted_all (subtree_of r base) old → StaysBetween old new base end m (data_after (Kill r extent) m)
unfolding Same
kill_stays old new base end m r extent is h x out =
    let none = none_under r base old x (sym (ap (λ n. finmap.contains_key n x) is) ∙ out) in
    by_test (takes extent r x) refl none
  where
    by_test : (t : Bool) → takes extent r x ≡ t → (finmap.contains_key old x ≡ false) × (is_under r x ≡ true → finmap.get base x ≡ None) → Same base end (data_after (Kill r extent) m) x
    by_test true t none = inl (kill_taken m r extent x ∙ ap (λ b. cond b None (finmap.get m x)) t ∙ sym (none.1 (takes_under extent r x t)))
    by_test false t none = alike base end m (data_after (Kill r extent) m) x (kill_taken m r extent x ∙ ap (λ b. cond b None (finmap.get m x)) t) (h x none.0)

pub merge_stays : (old new : Noted) (base end m : Database) (a b : Reference) → new ≡ noted_all (subtree_of a end) (noted_all (subtree_of a base) old) → StaysBetween old new base end m (data_after (Merge a b) m)
unfolding Same
merge_stays old new base end m a b is h x out =
    let in_end = none_under a end (noted_all (subtree_of a base) old) x (sym (ap (λ n. finmap.contains_key n x) is) ∙ out) in
    let in_base = none_under a base old x in_end.0 in
    by_test (is_under a x) refl in_end.1 in_base
  where
    by_test : (u : Bool) → is_under a x ≡ u → (is_under a x ≡ true → finmap.get end x ≡ None) → (finmap.contains_key old x ≡ false) × (is_under a x ≡ true → finmap.get base x ≡ None) → Same base end (data_after (Merge a b) m) x
    by_test true u in_end in_base = inr (in_end u ∙ sym (in_base.1 u))
    by_test false u in_end in_base =
        alike base end m (data_after (Merge a b) m) x
        (merge_subtree m a b x ∙ ap (λ t. cond t (option_or (finmap.get m (moved b a x)) (finmap.get m x)) (finmap.get m x)) u)
        (h x in_base.0)

-- ---- what a transaction does

-- what is left of the exchanges leads where all lead
pub record EachPassed (now old : Noted) (base end : Database) (left all : List Exchange) : Type 0 where
  pub at : (m : Database) → IsBetween old base end m → (n : Database) × (IsBetween now base end n × (all_after left n ≡ all_after all m))

pub each_passed : (old : Noted) (base end : Database) (all : List Exchange) → EachPassed old old base end all all
each_passed old base end all = record { at = λ m h. (m, (h, refl)) }

pub each_passed_on : (now next old : Noted) (base end : Database) (left rest all : List Exchange) (e : Exchange) → left ≡ e ∷ rest → ((m : Database) → StaysBetween now next base end m (data_after e.command m)) → EachPassed now old base end left all → EachPassed next old base end rest all
each_passed_on now next old base end left rest all e is stays h = record {
  at = λ m from.
      let t = h.at m from in
      (data_after e.command t.0, (stays t.0 t.1.0, sym (ap (λ xs. all_after xs t.0) is) ∙ t.1.1));
}

-- ---- what units do

-- what is left to be passed leads where all leads
pub record UnitsPassed (more : ℕ) (left : List JournalUnit) (now old : Noted) (base end : Database) (count : ℕ) (us : List JournalUnit) : Type 0 where
  pub within : more ≤ length left
  pub at : (s : State) → IsBetween old base end s.map → (t : State) × (IsBetween now base end t.map × (after (take more left) t ≡ after (take count us) s))

pub units_passed : (count : ℕ) (us : List JournalUnit) (old : Noted) (base end : Database) → count ≤ length us → UnitsPassed count us old old base end count us
units_passed count us old base end h = record { within = h; at = λ s from. (s, (from, refl)) }

pub units_passed_on : (more fewer : ℕ) (left rest us : List JournalUnit) (now next old : Noted) (base end : Database) (count : ℕ) → more ≡ suc fewer → HasPassed now next base end left rest →
    UnitsPassed more left now old base end count us → UnitsPassed fewer rest next old base end count us
units_passed_on more fewer left rest us now next old base end count e h p =
    let l : length left ≡ suc (length rest) = ap length h.next in
    let within : more ≤ length left = p.within in
    let both : take more left ≡ h.unit ∷ take fewer rest = ap (λ n. take n left) e ∙ ap (take (suc fewer)) h.next in
    record {
      within = omega arith;
      at = λ s from.
          let t = p.at s from in
          (after_unit h.unit t.0, (h.stays t.0 t.1.0, sym (ap (λ xs. after xs t.0) both) ∙ t.1.1));
    }

-- ---- the changes

abbrev with_value : Database → Reference × Unit {0} → Change
with_value end e = (e.0, finmap.get end e.0)

below_valued : (end : Database) (x : Reference) (es : List (Reference × Unit {0})) → below_all ref_cmp x (map (with_value end) es) ≡ below_all ref_cmp x es
below_valued end x [] = refl
below_valued end x (e ∷ es) = ap (λ b. is_lt (ref_cmp x e.0) && b) (below_valued end x es)

sorted_valued : (end : Database) (es : List (Reference × Unit {0})) → is_sorted ref_cmp (map (with_value end) es) ≡ is_sorted ref_cmp es
sorted_valued end [] = refl
sorted_valued end (e ∷ es) = λ i. below_valued end e.0 es i && sorted_valued end es i

pub values_rise : (n : Noted) (end : Database) → is_sorted ref_cmp (end_values n end) ≡ true
values_rise n end = sorted_valued end (finmap.entries n) ∙ true_of _ (finmap.entries_sorted n)

find_valued : (end : Database) (x : Reference) (es : List (Reference × Unit {0})) → find ref_cmp x (map (with_value end) es) ≡ cond (is_some (find ref_cmp x es)) (Some (finmap.get end x)) None
find_valued end x [] = refl
find_valued end x (e ∷ es) = by_test (eq_by_cmp ref_cmp x e.0) refl (find_valued end x es)
  where
    by_test : (t : Bool) → eq_by_cmp ref_cmp x e.0 ≡ t → find ref_cmp x (map (with_value end) es) ≡ cond (is_some (find ref_cmp x es)) (Some (finmap.get end x)) None
        → cond t (Some (finmap.get end e.0)) (find ref_cmp x (map (with_value end) es)) ≡ cond (is_some (cond t (Some e.1) (find ref_cmp x es))) (Some (finmap.get end x)) None
    by_test true t rest = ap (λ y. Some (finmap.get end y)) (sym (ref_cmp-IsAntisymmetric x e.0 (is_equal (ref_cmp x e.0) t)))
    by_test false t rest = rest

-- the changes of what is noted lead from the base to the end
pub values_lead : (n : Noted) (base end : Database) → IsBetween n base end end → changed (end_values n end) base ≡ end
values_lead n base end h = same_get (changed (end_values n end) base) end (λ x.
    get_changed (end_values n end) base x (apart_sorted (end_values n end) (values_rise n end))
    ∙ ap (λ o. or_else o (finmap.get base x)) (find_valued end x (finmap.entries n) ∙ ap (λ o. cond (is_some o) (Some (finmap.get end x)) None) (sym (finmap.get-entries n x)))
    ∙ by_test x (finmap.contains_key n x) refl)
  where
    either : (x : Reference) → (finmap.get end x ≡ finmap.get base x) ⊎ (finmap.get end x ≡ finmap.get base x) → finmap.get base x ≡ finmap.get end x
    either x (inl same) = sym same
    either x (inr same) = sym same

    by_test : (x : Reference) (t : Bool) → finmap.contains_key n x ≡ t → or_else (cond t (Some (finmap.get end x)) None) (finmap.get base x) ≡ finmap.get end x
    by_test x true is = refl
    by_test x false is = either x (h x is)

-- the units from the base to a number lead on to what all units up to it leave
after_both : (us : List JournalUnit) (base n : ℕ) → base ≤ n → n ≤ length us → after (take (n - base) (drop base us)) (after (take base us) initial) ≡ after (take n us) initial
after_both us base n from to =
    let l : length (take base us) ≡ base = length-take-le base us (omega arith) in
    let parts : take base us ++ drop base us ≡ us = take-append-drop base us in
    let same : length (take base us) + (n - base) ≡ n = omega arith in
    sym (after-append (take base us) (take (n - base) (drop base us)) initial)
    ∙ ap (λ xs. after xs initial) (sym (take-append-add (take base us) (drop base us) (n - base)) ∙ ap (λ k. take k (take base us ++ drop base us)) same ∙ ap (take n) parts)

-- nothing is noted before the first unit
pub units_lead : (old n : Noted) (base end : Database) (number from k : ℕ) (us left : List JournalUnit) → from ≤ number → number ≤ length us → base ≡ (after (take from us) initial).map → end ≡ (after (take number us) initial).map → k ≡ length (take from us) → left ≡ drop from us →
    ((s : State) → StaysBetween old n base end s.map (after (take (number - k) left) s).map) → changed (end_values n end) (after (take from us) initial).map ≡ (after (take number us) initial).map
units_lead old n base end number from k us left low high is_base is_end is_from is_left stays =
    let s = after (take from us) initial in
    let first : IsBetween old base end s.map = λ x out. inl (ap (λ m. finmap.get m x) (sym is_base)) in
    let k_is : k ≡ from = is_from ∙ length-take-le from us (omega arith) in
    let there : (after (take (number - k) left) s).map ≡ end = ap (λ us. (after us s).map) (ap (λ i. take (number - i) left) k_is ∙ ap (take (number - from)) is_left) ∙ ap (λ (t : State). t.map) (after_both us from number low high) ∙ sym is_end in
    ap (changed (end_values n end)) (sym is_base) ∙ values_lead n base end (subst (IsBetween n base end) there (stays s first)) ∙ is_end

-- ---- answers that are Ok or Err

pub ok_then : {A E P Q : Type 0} (r : Result A E) → OnOk r P → (P → Q) → OnOk r Q
ok_then (Ok x) h f = f h
ok_then (Err e) h f = tt

pub if_ok_then : {A E : Type 0} {P Q : A → Type 0} (r : Result A E) → IfOk r P → ((x : A) → P x → Q x) → IfOk r Q
if_ok_then (Ok x) h f = f x h
if_ok_then (Err e) h f = tt
