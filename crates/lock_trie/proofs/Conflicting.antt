-- From entries to what keeps a job off.
use Rattle.std.proofs.Common.{zero, suc, ◌≡◌, ◌≤◌, ◌<◌, ℕ, List, [], ◌∷◌, Bool, true, false, length, take, refl, sym, ap, subst, ◌∙◌, arith, inl, inr}
use Rattle.std.specs.Prelude.{cond, not, ◌&&◌, ◌||◌, ◌⊎◌, nat_lt, filter, Option, Some, None, IsSome, unwrap_or}
use Rattle.std.specs.Bool.{beq}
use Rattle.std.specs.List.{list_any}
use Rattle.std.specs.Ordering.{is_lt}
use Rattle.std.specs.Cmp.{first_so, second_so}
use Rattle.std.specs.FinMap as finmap
use Rattle.std.specs.FinMap.{is_sorted}
use Rattle.std.specs.FinMap.Entries.{below_all}
use Rattle.std.proofs.lemmas.Bool.{and_from, or_right, ltb-true, ltb-false}
use Rattle.collation.specs.Reference.{Resource}
use Rattle.collation.specs.Database.{is_under}
use Rattle.lock_name.specs.Locks.{resource_cmp}
use Rattle.collation.specs.laws.Order.{is_less}
use Rattle.collation.specs.laws.Entries.{true_of, either, some_entry_of, entry_of}
use Rattle.lock_name.specs.laws.Counting.{resource_cmp_total, resource_cmp-IsAntisymmetric}
use Rattle.lock_trie.specs.Names.{beginning, is_at_or_under, is_above, HasNoneAbove, HaveSameAbove}
use Rattle.lock_trie.specs.Holders.{has_other, counted}
use Rattle.lock_trie.specs.Held.{Held, holders_of, held_count, IsHeldBelow, IsHeldByAnother, IsHeldWhere, AreHeld, HasNoShorter}
use Rattle.lock_trie.proofs.Holding.{Jobs, other_counted, none_other}
use Rattle.lock_trie.specs.laws.Unders.{under_not_before, not_under_behind, under_beginning, under_fewer, is_beginning, turned_caret, whole_under}

-- ---- the front of what stands from a name on

abbrev pub front_other : Resource → ℕ → List (Resource × Jobs) → Bool
front_other n job [] = false
front_other n job (e ∷ es) = cond (is_at_or_under n e.0) (has_other e.1 job || front_other n job es) false

abbrev pub is_there : Resource → ℕ → Resource × Jobs → Bool
is_there n job e = is_at_or_under n e.0 && has_other e.1 job

none_behind : (n : Resource) (job : ℕ) (x : Resource) (es : List (Resource × Jobs)) → is_lt (resource_cmp x n) ≡ false → is_at_or_under n x ≡ false → below_all resource_cmp x es ≡ true → list_any (is_there n job) es ≡ false
none_behind n job x [] low no_ h = refl
none_behind n job x (e ∷ es) low no_ h =
    let t : is_at_or_under n e.0 ≡ false = not_under_behind n x e.0 low no_ (is_less (resource_cmp x e.0) (first_so _ _ h)) in
    ap (λ b. (b && has_other e.1 job) || list_any (is_there n job) es) t ∙ none_behind n job x es low no_ (second_so (is_lt (resource_cmp x e.0)) _ h)

pub front_is : (n : Resource) (job : ℕ) (es : List (Resource × Jobs)) → is_sorted resource_cmp es ≡ true → front_other n job (filter (λ e. not (is_lt (resource_cmp e.0 n))) es) ≡ list_any (is_there n job) es
front_is n job [] h = refl
front_is n job (e ∷ es) h =
    by_tests (is_lt (resource_cmp e.0 n)) (is_at_or_under n e.0) refl refl (front_is n job es (second_so (below_all resource_cmp e.0 es) _ h)) (λ low no_. none_behind n job e.0 es low no_ (first_so _ _ h))
  where
    by_tests : (l u : Bool) → is_lt (resource_cmp e.0 n) ≡ l → is_at_or_under n e.0 ≡ u → front_other n job (filter (λ f. not (is_lt (resource_cmp f.0 n))) es) ≡ list_any (is_there n job) es
        → (is_lt (resource_cmp e.0 n) ≡ false → is_at_or_under n e.0 ≡ false → list_any (is_there n job) es ≡ false)
        → front_other n job (cond (not l) (e ∷ filter (λ f. not (is_lt (resource_cmp f.0 n))) es) (filter (λ f. not (is_lt (resource_cmp f.0 n))) es)) ≡ ((u && has_other e.1 job) || list_any (is_there n job) es)
    by_tests true true low up rest none = let t : true ≡ false = sym low ∙ under_not_before n e.0 up in absurd (cc)
    by_tests true false low up rest none = rest
    by_tests false true low up rest none = ap (λ b. cond b (has_other e.1 job || front_other n job (filter (λ f. not (is_lt (resource_cmp f.0 n))) es)) false) up ∙ ap (λ b. has_other e.1 job || b) rest
    by_tests false false low up rest none = ap (λ b. cond b (has_other e.1 job || front_other n job (filter (λ f. not (is_lt (resource_cmp f.0 n))) es)) false) up ∙ sym (none low up)

-- ---- a step of the look

pub front_ends : (n : Resource) (job : ℕ) (l es : List (Resource × Jobs)) (e : Resource × Jobs) (r : Bool) → l ≡ e ∷ es → r ≡ is_at_or_under n e.0 → r ≡ false → front_other n job l ≡ false
front_ends n job l es e r is tested no_ = ap (front_other n job) is ∙ ap (λ b. cond b (has_other e.1 job || front_other n job es) false) (sym tested ∙ no_)

pub front_found : (n : Resource) (job : ℕ) (l es : List (Resource × Jobs)) (e : Resource × Jobs) (r s : Bool) → l ≡ e ∷ es → r ≡ is_at_or_under n e.0 → r ≡ true → s ≡ has_other e.1 job → s ≡ true → front_other n job l ≡ true
front_found n job l es e r s is tested yes_ other some =
    ap (front_other n job) is ∙ ap (λ b. cond b (has_other e.1 job || front_other n job es) false) (sym tested ∙ yes_) ∙ ap (λ b. b || front_other n job es) (sym other ∙ some)

front_held : (held : Held) (n : Resource) (job : ℕ) → front_other n job (filter (λ e. not (is_lt (resource_cmp e.0 n))) (finmap.entries held)) ≡ list_any (is_there n job) (finmap.entries held)
front_held held n job = front_is n job (finmap.entries held) (true_of _ (finmap.entries_sorted held))

-- a name with a holder has an entry
pub entry_held : (held : Held) (x : Resource) (job : ℕ) → has_other (holders_of held x) job ≡ true → (hs : Jobs) × (finmap.get held x ≡ Some hs) × (has_other hs job ≡ true)
entry_held held x job e = by_found (finmap.get held x) refl e
  where
    by_found : (o : Option Jobs) → finmap.get held x ≡ o → has_other (unwrap_or o []) job ≡ true → (hs : Jobs) × (finmap.get held x ≡ Some hs) × (has_other hs job ≡ true)
    by_found None is e = absurd (cc)
    by_found (Some hs) is e = (hs, is, e)

pub below_some : (held : Held) (n : Resource) (job : ℕ) → front_other n job (filter (λ e. not (is_lt (resource_cmp e.0 n))) (finmap.entries held)) ≡ true → IsHeldWhere (is_at_or_under n) held job
below_some held n job e =
    let s = some_entry_of resource_cmp resource_cmp_total resource_cmp-IsAntisymmetric (is_there n job) held (sym (front_held held n job) ∙ e) in
    (s.0, (subst (λ o. has_other (unwrap_or o []) job ≡ true) (sym s.1.1) (second_so (is_at_or_under n s.0) _ s.1.2), first_so _ _ s.1.2))

pub below_none : (held : Held) (n : Resource) (job : ℕ) → front_other n job (filter (λ e. not (is_lt (resource_cmp e.0 n))) (finmap.entries held)) ≡ false → IsHeldWhere (is_at_or_under n) held job → ⊥
below_none held n job e w =
    let s = entry_held held w.0 job w.1.0 in
    let t : true ≡ false = sym (entry_of resource_cmp resource_cmp_total resource_cmp-IsAntisymmetric (is_there n job) held w.0 s.0 s.1 (and_from _ _ w.1.1 s.2)) ∙ sym (front_held held n job) ∙ e in
    absurd (cc)

-- ---- the beginnings of a name

taken_most : (i : ℕ) (xs : List (List ℕ)) → length (take i xs) ≤ i
taken_most zero xs = omega arith
taken_most (suc i) [] = omega arith
taken_most (suc i) (x ∷ xs) = let h : length (take i xs) ≤ i = taken_most i xs in omega arith

-- a beginning shorter than all entries isn't held
pub short_unheld : (held : Held) (least job k : ℕ) (n : Resource) → HasNoShorter held least → k < least → has_other (holders_of held (beginning n k)) job ≡ false
short_unheld held least job k n none l = by_test (has_other (holders_of held (beginning n k)) job) refl
  where
    by_test : (b : Bool) → has_other (holders_of held (beginning n k)) job ≡ b → has_other (holders_of held (beginning n k)) job ≡ false
    by_test false e = e
    by_test true e =
        let s = entry_held held (beginning n k) job e in
        let h : least ≤ length (take k n.reference.subscripts) = none (beginning n k) (subst IsSome (sym s.1) refl) in
        let t : length (take k n.reference.subscripts) ≤ k = taken_most k n.reference.subscripts in
        absurd (omega arith)

-- a name above another that is held isn't among its beginnings that aren't
not_among : (held : Held) (n : Resource) (job i : ℕ) → ((k : ℕ) → k < i → has_other (holders_of held (beginning n k)) job ≡ false) → (w : IsHeldWhere (is_above n) held job) → i ≤ length w.0.reference.subscripts
not_among held n job i none w = by_test (nat_lt (length w.0.reference.subscripts) i) refl
  where
    by_test : (b : Bool) → nat_lt (length w.0.reference.subscripts) i ≡ b → i ≤ length w.0.reference.subscripts
    by_test true e =
        let t : true ≡ false = sym w.1.0 ∙ ap (λ z. has_other (holders_of held z) job) (is_beginning w.0 n (first_so _ _ w.1.1)) ∙ none (length w.0.reference.subscripts) (ltb-true _ _ e) in
        absurd (cc)
    by_test false e = ltb-false _ _ e

-- where none of a name's shorter beginnings is held, none above it is
pub none_above : (held : Held) (n : Resource) (job i : ℕ) → length n.reference.subscripts ≤ i → ((k : ℕ) → k < i → has_other (holders_of held (beginning n k)) job ≡ false) → IsHeldWhere (is_above n) held job → ⊥
none_above held n job i all none w =
    let h : i ≤ length w.0.reference.subscripts = not_among held n job i none w in
    let l : length w.0.reference.subscripts < length n.reference.subscripts = ltb-true _ _ (second_so (is_at_or_under w.0 n) _ w.1.1) in
    absurd (omega arith)

-- nor where no shorter one is, and this one isn't a beginning of the name before
pub none_further : (held : Held) (n p : Resource) (job i : ℕ) → HaveSameAbove held n p → is_at_or_under (beginning n i) p ≡ false → ((k : ℕ) → k < i → has_other (holders_of held (beginning n k)) job ≡ false) → IsHeldWhere (is_above n) held job → ⊥
none_further held n p job i same no_ none w =
    let s = entry_held held w.0 job w.1.0 in
    let b : is_at_or_under w.0 p ≡ true = same w.0 (subst IsSome (sym s.1) refl) w.1.1 in
    let c : is_at_or_under (beginning n (length w.0.reference.subscripts)) p ≡ true = subst (λ z. is_at_or_under z p ≡ true) (is_beginning w.0 n (first_so _ _ w.1.1)) b in
    let t : true ≡ false = sym (under_fewer n p i (length w.0.reference.subscripts) (not_among held n job i none w) c) ∙ no_ in
    absurd (cc)

-- nor where nothing stands before
pub none_first : (held : Held) (n : Resource) (job : ℕ) → HasNoneAbove held n → IsHeldWhere (is_above n) held job → ⊥
none_first held n job none w = let s = entry_held held w.0 job w.1.0 in none w.0 (subst IsSome (sym s.1) refl) w.1.1

pub none_shorter : (held : Held) (n : Resource) (job least : ℕ) → HasNoShorter held least → length n.reference.subscripts ≤ least → IsHeldWhere (is_above n) held job → ⊥
none_shorter held n job least none all w =
    let s = entry_held held w.0 job w.1.0 in
    let h : least ≤ length w.0.reference.subscripts = none w.0 (subst IsSome (sym s.1) refl) in
    let l : length w.0.reference.subscripts < length n.reference.subscripts = ltb-true _ _ (second_so (is_at_or_under w.0 n) _ w.1.1) in
    absurd (omega arith)

pub beginning_held : (held : Held) (n : Resource) (job k : ℕ) → has_other (holders_of held (beginning n k)) job ≡ true → IsHeldWhere (λ x. is_at_or_under x n) held job
beginning_held held n job k e = (beginning n k, (e, under_beginning n k))

-- ---- both ways

holder_counts : (held : Held) (job : ℕ) (x : Resource) → AreHeld held → has_other (holders_of held x) job ≡ true → (other : ℕ) × (other ≡ job → ⊥) × (0 < held_count held other x)
holder_counts held job x are e =
    let s = entry_held held x job e in
    let entry = are x s.0 s.1 in
    let o = other_counted s.0 job entry.1 s.2 in
    (o.0, o.1, subst (λ p. 0 < counted (unwrap_or p []) o.0) (sym s.1) o.2)

pub counted_below : (held : Held) (job : ℕ) (n : Resource) → AreHeld held → IsHeldWhere (is_at_or_under n) held job → IsHeldBelow held job n
counted_below held job n are w = let o = holder_counts held job w.0 are w.1.0 in (o.0, o.1, (w.0, o.2, w.1.1))

pub held_above : (held : Held) (job : ℕ) (n : Resource) → AreHeld held → IsHeldWhere (λ x. is_at_or_under x n) held job → IsHeldByAnother held job n
held_above held job n are w =
    let o = holder_counts held job w.0 are w.1.0 in
    (o.0, o.1, (w.0, o.2, and_from _ _ (turned_caret w.0.has_caret n.has_caret (first_so _ _ w.1.1)) (or_right (is_under n.reference w.0.reference) _ (second_so (beq w.0.has_caret n.has_caret) _ w.1.1))))

other_held : (held : Held) (job other : ℕ) (x : Resource) → (other ≡ job → ⊥) → 0 < held_count held other x → has_other (holders_of held x) job ≡ true
other_held held job other x ne some = by_test (has_other (holders_of held x) job) refl
  where
    by_test : (b : Bool) → has_other (holders_of held x) job ≡ b → has_other (holders_of held x) job ≡ true
    by_test true e = e
    by_test false e = let z : held_count held other x ≡ 0 = none_other (holders_of held x) job other ne e in absurd (omega arith)

pub where_below : (held : Held) (job : ℕ) (n : Resource) → IsHeldBelow held job n → IsHeldWhere (is_at_or_under n) held job
where_below held job n w = (w.2.0, (other_held held job w.0 w.2.0 w.1 w.2.1, w.2.2))

pub held_neither : (held : Held) (job : ℕ) (n : Resource) → (IsHeldBelow held job n → ⊥) → (IsHeldWhere (is_above n) held job → ⊥) → IsHeldByAnother held job n → ⊥
held_neither held job n below above w = by_way (either _ _ (second_so (beq n.has_caret x.has_caret) _ w.2.2))
  where
    x : Resource
    x = w.2.0

    held_x : has_other (holders_of held x) job ≡ true
    held_x = other_held held job w.0 x w.1 w.2.1

    caret : beq n.has_caret x.has_caret ≡ true
    caret = first_so _ _ w.2.2

    by_length : is_at_or_under x n ≡ true → (t : Bool) → nat_lt (length x.reference.subscripts) (length n.reference.subscripts) ≡ t → ⊥
    by_length u true e = above (x, (held_x, and_from _ _ u e))
    by_length u false e = below (w.0, w.1, (x, w.2.1, whole_under x n u (ltb-false _ _ e)))

    by_way : (is_under n.reference x.reference ≡ true) ⊎ (is_under x.reference n.reference ≡ true) → ⊥
    by_way (inl u) = below (w.0, w.1, (x, w.2.1, and_from _ _ caret u))
    by_way (inr u) = by_length (and_from _ _ (turned_caret n.has_caret x.has_caret caret) u) _ refl

pub above_found : (held m : Held) (n b : Resource) (job k : ℕ) (hs : Jobs) (r : Bool) → m ≡ held → b ≡ beginning n k → Some hs ≡ finmap.get m b → r ≡ has_other hs job → r ≡ true → IsHeldWhere (λ x. is_at_or_under x n) held job
above_found held m n b job k hs r is at found tested yes_ =
    beginning_held held n job k (ap (λ o. has_other (unwrap_or o []) job) (ap (finmap.get held) (sym at) ∙ ap (λ z. finmap.get z b) (sym is) ∙ sym found) ∙ sym tested ∙ yes_)
