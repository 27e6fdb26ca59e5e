-- Who has a name or a descendant of it.
use Rattle.std.proofs.Common.{◌≡◌, ◌<◌, ℕ, List, [], ◌∷◌, Bool, true, false, refl, sym, ap, subst, ◌∙◌, arith}
use Rattle.std.specs.Bool.{beq}
use Rattle.std.specs.Prelude.{cond, ◌==◌, ◌&&◌, not, nat_lt, Option, Some, None, IsSome, unwrap_or}
use Rattle.std.specs.declared.cmp.Ordering.{Ordering}
use Rattle.std.specs.declared.cmp.Ordering.TheVariants.{Less, Equal, Greater}
use Rattle.std.specs.List.{find as first_of}
use Rattle.std.specs.Ordering.{nat_cmp, is_lt, is_gt, eq_by_cmp, ordering_reverse}
use Rattle.std.specs.Cmp.{nat_cmp_total, tied_itself, first_so, second_so}
use Rattle.std.specs.FinMap as finmap
use Rattle.std.specs.FinMap.{nat_cmp-IsAntisymmetric, is_sorted, find}
use Rattle.std.specs.FinMap.Entries.{below_all}
use Rattle.std.proofs.lemmas.Bool.{and_from, or_left, eq-eqb, lt-ltb, ltb-true}
use Rattle.collation.specs.Reference.{Resource}
use Rattle.collation.specs.laws.Entries.{true_of, some_entry_of, entry_of}
use Rattle.collation.specs.laws.Order.{is_less}
use Rattle.lock_name.specs.Locks.{resource_cmp, Counts, count_of, JobLocks, LockState, no_locks, locks_of}
use Rattle.lock_name.specs.laws.Blocking.{differ}
use Rattle.lock_name.specs.laws.Counting.{resource_cmp_total, resource_cmp-IsAntisymmetric, same_resource}
use Rattle.lock_trie.specs.Names.{is_at_or_under}
use Rattle.lock_trie.specs.Held.{Held, held_count, IsHeldBelow, IsHeldByAnother}
use Rattle.lock_trie.specs.Holders.{counted}
use Rattle.lock_trie.specs.laws.Conflicts.{entry_counted, AreThere, Left, decided_true}
use Rattle.lock_trie.specs.laws.Unders.{under_not_above, under_between}
use Rattle.lock_table.specs.Counted.{AreCounts, have_below}
use Rattle.lock_table.proofs.Moving.{entries_there}
use Rattle.lock_table.specs.Tables.{RowsMatchTrie, is_blocked_below}

-- ---- in one job's counts

abbrev is_below : Resource → Resource × ℕ → Bool
is_below n h = nat_lt 0 h.1 && is_at_or_under n h.0

-- what stands between a name and a descendant of it, or is that, is one too
first_under : (n e q : Resource) → is_gt (resource_cmp n e) ≡ false → is_gt (resource_cmp e q) ≡ false → is_at_or_under n q ≡ true → is_at_or_under n e ≡ true
first_under n e q low high up = by_order (resource_cmp e q) refl high
  where
    by_order : (o : Ordering) → resource_cmp e q ≡ o → is_gt o ≡ false → is_at_or_under n e ≡ true
    by_order Less is h = under_between n e q low is up
    by_order Equal is h = subst (λ z. is_at_or_under n z ≡ true) (sym (resource_cmp-IsAntisymmetric e q is)) up
    by_order Greater is h = absurd (cc)

turned : (a b : Resource) → is_gt (resource_cmp b a) ≡ is_lt (resource_cmp a b)
turned a b = ap is_gt (let o = resource_cmp_total in o.antisymm b a) ∙ by_order (resource_cmp a b)
  where
    by_order : (o : Ordering) → is_gt (ordering_reverse o) ≡ is_lt o
    by_order Less = refl
    by_order Equal = refl
    by_order Greater = refl

not_before : (n q : Resource) → is_at_or_under n q ≡ true → is_lt (resource_cmp q n) ≡ false
not_before n q under = sym (turned q n) ∙ under_not_above n q under

abbrev is_from : Resource → Resource × ℕ → Bool
is_from n e = not (is_lt (resource_cmp e.0 n))

-- the first that doesn't stand before a name is there, and none of those stands before it
first_there : (m : Counts) (n : Resource) (es : List (Resource × ℕ)) (e : Resource × ℕ) → AreThere m es → Some e ≡ first_of (is_from n) es → finmap.get m e.0 ≡ Some e.1
first_there m n [] e all is = absurd (cc)
first_there m n (f ∷ fs) e all is = by_test (is_from n f) is (first_there m n fs e all.1)
  where
    by_test : (b : Bool) → Some e ≡ cond b (Some f) (first_of (is_from n) fs) → (Some e ≡ first_of (is_from n) fs → finmap.get m e.0 ≡ Some e.1) → finmap.get m e.0 ≡ Some e.1
    by_test true is rest = let s : f ≡ e = cc in subst (λ (z : Resource × ℕ). finmap.get m z.0 ≡ Some z.1) s all.0
    by_test false is rest = rest is

first_from : (n : Resource) (es : List (Resource × ℕ)) (e : Resource × ℕ) → Some e ≡ first_of (is_from n) es → is_lt (resource_cmp e.0 n) ≡ false
first_from n [] e is = absurd (cc)
first_from n (f ∷ fs) e is = by_test (is_lt (resource_cmp f.0 n)) refl is (first_from n fs e)
  where
    by_test : (b : Bool) → is_lt (resource_cmp f.0 n) ≡ b → Some e ≡ cond (not b) (Some f) (first_of (is_from n) fs) → (Some e ≡ first_of (is_from n) fs → is_lt (resource_cmp e.0 n) ≡ false) → is_lt (resource_cmp e.0 n) ≡ false
    by_test false t is rest = let s : f ≡ e = cc in subst (λ (z : Resource × ℕ). is_lt (resource_cmp z.0 n) ≡ false) s t
    by_test true t is rest = rest is

behind_first : (k q : Resource) (es : List (Resource × ℕ)) → below_all resource_cmp k es ≡ true → IsSome (find resource_cmp q es) → is_gt (resource_cmp k q) ≡ false
behind_first k q [] below there = absurd (cc)
behind_first k q (f ∷ fs) below there = by_key (eq_by_cmp resource_cmp q f.0) refl there (behind_first k q fs (second_so (is_lt (resource_cmp k f.0)) _ below))
  where
    by_key : (b : Bool) → eq_by_cmp resource_cmp q f.0 ≡ b → IsSome (cond b (Some f.1) (find resource_cmp q fs)) → (IsSome (find resource_cmp q fs) → is_gt (resource_cmp k q) ≡ false) → is_gt (resource_cmp k q) ≡ false
    by_key true t there rest = ap (λ z. is_gt (resource_cmp k z)) (same_resource q f.0 t) ∙ ap is_gt (is_less (resource_cmp k f.0) (first_so _ _ below))
    by_key false t there rest = rest there

first_least : (n q : Resource) (es : List (Resource × ℕ)) (e : Resource × ℕ) → is_sorted resource_cmp es ≡ true → Some e ≡ first_of (is_from n) es → IsSome (find resource_cmp q es) → is_lt (resource_cmp q n) ≡ false → is_gt (resource_cmp e.0 q) ≡ false
first_least n q [] e h is there from = absurd (cc)
first_least n q (f ∷ fs) e h is there from = by_test (is_lt (resource_cmp f.0 n)) refl is (eq_by_cmp resource_cmp q f.0) refl there (λ later found. first_least n q fs e (second_so (below_all resource_cmp f.0 fs) _ h) later found from)
  where
    by_test : (b : Bool) → is_lt (resource_cmp f.0 n) ≡ b → Some e ≡ cond (not b) (Some f) (first_of (is_from n) fs)
        → (t : Bool) → eq_by_cmp resource_cmp q f.0 ≡ t → IsSome (cond t (Some f.1) (find resource_cmp q fs)) → (Some e ≡ first_of (is_from n) fs → IsSome (find resource_cmp q fs) → is_gt (resource_cmp e.0 q) ≡ false) → is_gt (resource_cmp e.0 q) ≡ false
    by_test false before is true t there rest =
        let s : f ≡ e = cc in
        subst (λ (z : Resource × ℕ). is_gt (resource_cmp z.0 q) ≡ false) s (ap (λ z. is_gt (resource_cmp f.0 z)) (same_resource q f.0 t) ∙ ap is_gt (tied_itself resource_cmp_total f.0))
    by_test false before is false t there rest =
        let s : f ≡ e = cc in
        subst (λ (z : Resource × ℕ). is_gt (resource_cmp z.0 q) ≡ false) s (behind_first f.0 q fs (first_so _ _ h) there)
    by_test true before is true t there rest =
        let clash : true ≡ false = sym before ∙ ap (λ z. is_lt (resource_cmp z n)) (sym (same_resource q f.0 t)) ∙ from in
        absurd (cc)
    by_test true before is false t there rest = rest is there

none_from : (n q : Resource) (es : List (Resource × ℕ)) → None ≡ first_of (is_from n) es → IsSome (find resource_cmp q es) → is_lt (resource_cmp q n) ≡ false → ⊥
none_from n q [] is there from = absurd (cc)
none_from n q (f ∷ fs) is there from = by_test (is_lt (resource_cmp f.0 n)) refl is (eq_by_cmp resource_cmp q f.0) refl there (λ later found. none_from n q fs later found from)
  where
    by_test : (b : Bool) → is_lt (resource_cmp f.0 n) ≡ b → None ≡ cond (not b) (Some f) (first_of (is_from n) fs)
        → (t : Bool) → eq_by_cmp resource_cmp q f.0 ≡ t → IsSome (cond t (Some f.1) (find resource_cmp q fs)) → (None ≡ first_of (is_from n) fs → IsSome (find resource_cmp q fs) → ⊥) → ⊥
    by_test false before is t u there rest = absurd (cc)
    by_test true before is true t there rest =
        let clash : true ≡ false = sym before ∙ ap (λ z. is_lt (resource_cmp z n)) (sym (same_resource q f.0 t)) ∙ from in
        absurd (cc)
    by_test true before is false t there rest = rest is there

first_tells : (n : Resource) (counts : Counts) (e : Resource × ℕ) → AreCounts counts → Some e ≡ first_of (is_from n) (finmap.entries counts) → is_at_or_under n e.0 ≡ have_below n counts
first_tells n counts e are is = by_tests (is_at_or_under n e.0) (have_below n counts) refl refl
  where
    there : finmap.get counts e.0 ≡ Some e.1
    there = first_there counts n (finmap.entries counts) e (entries_there counts) is

    by_tests : (t h : Bool) → is_at_or_under n e.0 ≡ t → have_below n counts ≡ h → t ≡ h
    by_tests true true up have = refl
    by_tests false false up have = refl
    by_tests true false up have =
        let yes_ : have_below n counts ≡ true = entry_of resource_cmp resource_cmp_total resource_cmp-IsAntisymmetric (is_below n) counts e.0 e.1 there (and_from _ _ (lt-ltb 0 e.1 (are.some e.0 e.1 there)) up) in
        absurd (cc)
    by_tests false true up have =
        let s = some_entry_of resource_cmp resource_cmp_total resource_cmp-IsAntisymmetric (is_below n) counts have in
        let under : is_at_or_under n s.0 ≡ true = second_so (nat_lt 0 s.1.0) _ s.1.2 in
        let behind : is_gt (resource_cmp e.0 s.0) ≡ false = first_least n s.0 (finmap.entries counts) e (true_of _ (finmap.entries_sorted counts)) is (subst IsSome (sym (sym (finmap.get-entries counts s.0) ∙ s.1.1)) refl) (not_before n s.0 under) in
        let yes_ : is_at_or_under n e.0 ≡ true = first_under n e.0 s.0 (turned e.0 n ∙ first_from n (finmap.entries counts) e is) behind under in
        absurd (cc)

pub have_first : (n : Resource) (was now : Counts) (e : Resource × ℕ) (b : Bool) → was ≡ now → AreCounts was → Some e ≡ first_of (is_from n) (finmap.entries was) → b ≡ is_at_or_under n e.0 → b ≡ have_below n now
have_first n was now e b same are is tested = tested ∙ first_tells n was e are is ∙ ap (have_below n) same

none_tells : (n : Resource) (counts : Counts) → None ≡ first_of (is_from n) (finmap.entries counts) → false ≡ have_below n counts
none_tells n counts is = by_test (have_below n counts) refl
  where
    by_test : (h : Bool) → have_below n counts ≡ h → false ≡ h
    by_test false have = refl
    by_test true have =
        let s = some_entry_of resource_cmp resource_cmp_total resource_cmp-IsAntisymmetric (is_below n) counts have in
        absurd (none_from n s.0 (finmap.entries counts) is (subst IsSome (sym (sym (finmap.get-entries counts s.0) ∙ s.1.1)) refl) (not_before n s.0 (second_so (nat_lt 0 s.1.0) _ s.1.2)))

pub have_none : (n : Resource) (was now : Counts) → was ≡ now → None ≡ first_of (is_from n) (finmap.entries was) → false ≡ have_below n now
have_none n was now same is = none_tells n was is ∙ ap (have_below n) same

-- ---- in the rows

-- the test of a job's row
abbrev pub has_other_below : ℕ → Resource → ℕ × JobLocks → Bool
has_other_below job n j = not (j.0 == job) && have_below n j.1.held

not_same : (a b : ℕ) → not (a == b) ≡ true → a ≡ b → ⊥
not_same a b h is = by_test (a == b) refl h
  where
    by_test : (t : Bool) → (a == b) ≡ t → not t ≡ true → ⊥
    by_test true e h = absurd (cc)
    by_test false e h = let t : true ≡ false = sym (eq-eqb a b is) ∙ e in absurd (cc)

-- a step of the look at the rows

pub rows_found : (job : ℕ) (n : Resource) (s : LockState) (rest es : List (ℕ × JobLocks)) (e : ℕ × JobLocks) (h : Bool) → rest ≡ e ∷ es → (e.0 ≡ job → ⊥) → h ≡ have_below n e.1.held → h ≡ true → Left (has_other_below job n) s rest → true ≡ is_blocked_below s job n
rows_found job n s rest es e h is other tested yes_ left = sym (decided_true nat_cmp_total nat_cmp-IsAntisymmetric (has_other_below job n) e es rest s is (and_from _ _ (differ e.0 job other) (sym tested ∙ yes_)) left)

-- ---- beside the trie

held_there : (trie : Held) (s : LockState) (job : ℕ) (n : Resource) → RowsMatchTrie trie s → is_blocked_below s job n ≡ true → IsHeldBelow trie job n
held_there trie s job n joined b =
    let j = some_entry_of nat_cmp nat_cmp_total nat_cmp-IsAntisymmetric (has_other_below job n) s b in
    let h = some_entry_of resource_cmp resource_cmp_total resource_cmp-IsAntisymmetric (is_below n) j.1.0.held (second_so (not (j.0 == job)) _ j.1.2) in
    let count : 0 < count_of j.1.0.held h.0 = subst (λ o. 0 < unwrap_or o 0) (sym h.1.1) (ltb-true 0 h.1.0 (first_so (nat_lt 0 h.1.0) _ h.1.2)) in
    let row : 0 < count_of (locks_of j.0 s).held h.0 = subst (λ o. 0 < count_of (unwrap_or o no_locks).held h.0) (sym j.1.1) count in
    (j.0, not_same j.0 job (first_so (not (j.0 == job)) _ j.1.2), (h.0, subst (λ c. 0 < c) (sym (joined j.0 h.0)) row, second_so (nat_lt 0 h.1.0) _ h.1.2))

row_there : (s : LockState) (job : ℕ) (x : Resource) → 0 < count_of (locks_of job s).held x → (l : JobLocks) × (finmap.get s job ≡ Some l) × (0 < count_of l.held x)
row_there s job x h = by_found (finmap.get s job) refl h
  where
    by_found : (o : Option JobLocks) → finmap.get s job ≡ o → 0 < count_of (unwrap_or o no_locks).held x → (l : JobLocks) × (finmap.get s job ≡ Some l) × (0 < count_of l.held x)
    by_found None is h = let none : count_of finmap.empty x ≡ 0 = ap (λ o. unwrap_or o 0) (finmap.get-empty resource_cmp x) in absurd (omega arith)
    by_found (Some l) is h = (l, is, h)

told_there : (trie : Held) (s : LockState) (job : ℕ) (n : Resource) → RowsMatchTrie trie s → IsHeldBelow trie job n → is_blocked_below s job n ≡ true
told_there trie s job n joined t =
    let there = row_there s t.0 t.2.0 (subst (λ c. 0 < c) (joined t.0 t.2.0) t.2.1) in
    let counted = entry_counted there.0.held t.2.0 there.2 in
    entry_of nat_cmp nat_cmp_total nat_cmp-IsAntisymmetric (has_other_below job n) s t.0 there.0 there.1
    (and_from _ _ (differ t.0 job t.1) (entry_of resource_cmp resource_cmp_total resource_cmp-IsAntisymmetric (is_below n) there.0.held t.2.0 counted.0 counted.1 (and_from _ _ counted.2 t.2.2)))

pub below_is : (trie : Held) (s : LockState) (job : ℕ) (n : Resource) (b : Bool) → RowsMatchTrie trie s → (b ≡ true → IsHeldBelow trie job n) → (b ≡ false → IsHeldBelow trie job n → ⊥) → b ≡ is_blocked_below s job n
below_is trie s job n true joined some none = sym (told_there trie s job n joined (some refl))
below_is trie s job n false joined some none = by_test (is_blocked_below s job n) refl
  where
    by_test : (b : Bool) → is_blocked_below s job n ≡ b → false ≡ b
    by_test true e = absurd (none refl (held_there trie s job n joined e))
    by_test false e = refl

pub by_another : (trie : Held) (s : LockState) (job : ℕ) (n : Resource) (b : Bool) → RowsMatchTrie trie s → b ≡ is_blocked_below s job n → b ≡ true → IsHeldByAnother trie job n
by_another trie s job n b joined is yes_ =
    let t = held_there trie s job n joined (sym is ∙ yes_) in
    (t.0, t.1, (t.2.0, t.2.1, and_from _ _ (first_so (beq n.has_caret t.2.0.has_caret) _ t.2.2) (or_left _ _ (second_so (beq n.has_caret t.2.0.has_caret) _ t.2.2))))

pub by_none : (trie : Held) (s : LockState) (job : ℕ) (n : Resource) (b : Bool) → RowsMatchTrie trie s → b ≡ is_blocked_below s job n → b ≡ false → IsHeldBelow trie job n → ⊥
by_none trie s job n b joined is no_ t = let clash : true ≡ false = sym (told_there trie s job n joined t) ∙ sym is ∙ no_ in absurd (cc)
