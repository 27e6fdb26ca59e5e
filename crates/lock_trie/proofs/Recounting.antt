-- What a change of one name's holders does to all counts.
use Rattle.std.proofs.Common.{◌≡◌, ◌≤◌, ◌<◌, ◌+◌, ◌-◌, ℕ, [], ◌∷◌, Bool, true, false, length, refl, sym, ap, subst, ◌∙◌, arith}
use Rattle.std.specs.Prelude.{cond, ◌&&◌, ◌==◌, Option, Some, None, IsSome, Result, Ok, Err, IfOk, OnErr, unwrap_or}
use Rattle.std.specs.Ordering.{nat_cmp, is_eq, eq_by_cmp}
use Rattle.std.specs.Cmp.{tied_itself}
use Rattle.std.specs.FinMap as finmap
use Rattle.std.specs.FinMap.{get-insert, get-remove, get-empty}
use Rattle.std.proofs.lemmas.Bool.{eqb-true, eq-eqb}
use Rattle.collation.specs.Reference.{Resource}
use Rattle.lock_name.specs.Locks.{resource_cmp}
use Rattle.lock_name.specs.laws.Counting.{resource_cmp_total, same_resource}
use Rattle.lock_trie.specs.Holders.{counted, AreHolders, IsEntry, IsCounted, entry_of}
use Rattle.lock_trie.specs.Held.{Held, holders_of, held_count, IsEntryPut, IsRecounted, AreHeld, HasNoShorter}
use Rattle.lock_trie.proofs.Holding.{Jobs, counted_same}

pub put_inserted : (old new : Held) (n : Resource) (hs : Jobs) → new ≡ finmap.insert old n hs → IsEntryPut old new n (Some hs)
put_inserted old new n hs is x = ap (λ m. finmap.get m x) is ∙ get-insert resource_cmp_total old n hs x

pub put_removed : (old new : Held) (n : Resource) → new ≡ finmap.remove old n → IsEntryPut old new n None
put_removed old new n is x = ap (λ m. finmap.get m x) is ∙ get-remove resource_cmp_total old n x

-- what was put in between doesn't matter
pub put_over : (old mid new : Held) (n : Resource) (v w : Option Jobs) → IsEntryPut old mid n v → IsEntryPut mid new n w → IsEntryPut old new n w
put_over old mid new n v w first second x = second x ∙ ap (cond (eq_by_cmp resource_cmp x n) w) (first x) ∙ by_test (eq_by_cmp resource_cmp x n)
  where
    by_test : (b : Bool) → cond b w (cond b v (finmap.get old x)) ≡ cond b w (finmap.get old x)
    by_test true = refl
    by_test false = refl

-- a name that is there has its value replaced
pub replaced : {A E : Type 0} (r : Result A E) (old new : Held) (n : Resource) (hs : Jobs) → IsSome (finmap.get old n) → IfOk r (λ _. new ≡ finmap.insert old n hs) → OnErr r (finmap.get old n ≡ None) → new ≡ finmap.insert old n hs
replaced (Ok a) old new n hs there put missed = put
replaced (Err e) old new n hs there put missed = let t : false ≡ true = subst IsSome missed there in absurd (cc)

pub recounted : (old new : Held) (n : Resource) (w : Option Jobs) (job c : ℕ) → IsEntryPut old new n w → IsCounted (holders_of old n) (unwrap_or w []) job c → IsRecounted old new job n c
recounted old new n w job c put count other x = ap (λ o. counted (unwrap_or o []) other) (put x) ∙ by_test (eq_by_cmp resource_cmp x n) refl
  where
    joined : (b : Bool) (v u : ℕ) → cond b v u ≡ cond (b && true) v u
    joined true v u = refl
    joined false v u = refl

    apart : (b : Bool) (v u : ℕ) → u ≡ cond (b && false) v u
    apart true v u = refl
    apart false v u = refl

    by_test : (t : Bool) → eq_by_cmp resource_cmp x n ≡ t → counted (unwrap_or (cond t w (finmap.get old x)) []) other ≡ cond (eq_by_cmp nat_cmp other job && t) c (held_count old other x)
    by_test true e = count other ∙ ap (λ z. cond (eq_by_cmp nat_cmp other job) c (held_count old other z)) (sym (same_resource x n e)) ∙ joined (eq_by_cmp nat_cmp other job) c (held_count old other x)
    by_test false e = apart (eq_by_cmp nat_cmp other job) c (held_count old other x)

pub recounted_same : (held : Held) (n : Resource) (job c : ℕ) → held_count held job n ≡ c → IsRecounted held held job n c
recounted_same held n job c is other x = by_tests (eq_by_cmp nat_cmp other job) (eq_by_cmp resource_cmp x n) refl (counted_same (holders_of held n) job c is other)
  where
    by_tests : (b d : Bool) → eq_by_cmp resource_cmp x n ≡ d → held_count held other n ≡ cond (eq_by_cmp nat_cmp other job) c (held_count held other n) → held_count held other x ≡ cond (eq_by_cmp nat_cmp other job && d) c (held_count held other x)
    by_tests b true e h = ap (held_count held other) (same_resource x n e) ∙ h ∙ ap (λ z. cond (eq_by_cmp nat_cmp other job) c (held_count held other z)) (sym (same_resource x n e)) ∙ joined (eq_by_cmp nat_cmp other job)
      where
        joined : (b : Bool) → cond b c (held_count held other x) ≡ cond (b && true) c (held_count held other x)
        joined true = refl
        joined false = refl
    by_tests b false e h = apart (eq_by_cmp nat_cmp other job)
      where
        apart : (b : Bool) → held_count held other x ≡ cond (b && false) c (held_count held other x)
        apart true = refl
        apart false = refl

-- ---- what holds of all entries

pub held_put : (old new : Held) (n : Resource) (w : Option Jobs) → IsEntryPut old new n w → ((hs : Jobs) → w ≡ Some hs → IsEntry hs) → AreHeld old → AreHeld new
held_put old new n w put entry are x hs is = by_test (eq_by_cmp resource_cmp x n) (sym (put x) ∙ is)
  where
    by_test : (t : Bool) → cond t w (finmap.get old x) ≡ Some hs → IsEntry hs
    by_test true e = entry hs e
    by_test false e = are x hs e

pub short_put : (old new : Held) (n : Resource) (w : Option Jobs) (least less : ℕ) → IsEntryPut old new n w → less ≤ least → (IsSome w → less ≤ length n.reference.subscripts) → HasNoShorter old least → HasNoShorter new less
short_put old new n w least less put low named none x there = by_test (eq_by_cmp resource_cmp x n) refl (subst IsSome (put x) there)
  where
    by_test : (t : Bool) → eq_by_cmp resource_cmp x n ≡ t → IsSome (cond t w (finmap.get old x)) → less ≤ length x.reference.subscripts
    by_test true e some = subst (λ (z : Resource). less ≤ length z.reference.subscripts) (sym (same_resource x n e)) (named some)
    by_test false e some = let h : least ≤ length x.reference.subscripts = none x some in omega arith

-- ---- nothing held

pub none_held : (m : Held) → m ≡ finmap.empty → AreHeld m
none_held m is n hs there = let t : None ≡ Some hs = sym (ap (λ k. finmap.get k n) is ∙ get-empty resource_cmp n) ∙ there in absurd (cc)

pub none_short : (m : Held) (least : ℕ) → m ≡ finmap.empty → HasNoShorter m least
none_short m least is n there = let t : false ≡ true = subst IsSome (ap (λ k. finmap.get k n) is ∙ get-empty resource_cmp n) there in absurd (cc)

pub none_counted : (m : Held) → m ≡ finmap.empty → (job : ℕ) (n : Resource) → held_count m job n ≡ 0
none_counted m is job n = ap (λ o. counted (unwrap_or o []) job) (ap (λ k. finmap.get k n) is ∙ get-empty resource_cmp n)

-- ---- one entry

some_is : (hs gs : Jobs) → Some hs ≡ Some gs → IsEntry hs → IsEntry gs
some_is hs gs is entry = subst (λ o. IsEntry (unwrap_or o [])) is entry

-- in the place of another
pub entry_put : (old new : Held) (n : Resource) (hs : Jobs) (least : ℕ) → new ≡ finmap.insert old n hs → IsEntry hs → IsSome (finmap.get old n) → AreHeld old → HasNoShorter old least → AreHeld new × HasNoShorter new least
entry_put old new n hs least is entry there are none =
    let put = put_inserted old new n hs is in
    (held_put old new n (Some hs) put (λ gs e. some_is hs gs e entry) are, short_put old new n (Some hs) least least put (omega arith) (λ _. none n there) none)

-- one more, which has more subscripts than the fewest or as many
pub entry_added : (old new : Held) (n : Resource) (hs : Jobs) (least less : ℕ) → new ≡ finmap.insert old n hs → IsEntry hs → less ≤ least → less ≤ length n.reference.subscripts → AreHeld old → HasNoShorter old least → AreHeld new × HasNoShorter new less
entry_added old new n hs least less is entry low named are none =
    let put = put_inserted old new n hs is in
    (held_put old new n (Some hs) put (λ gs e. some_is hs gs e entry) are, short_put old new n (Some hs) least less put low (λ _. named) none)

-- ---- what the calls leave

holders_are : (held : Held) (n : Resource) (o : Option Jobs) → o ≡ finmap.get held n → holders_of held n ≡ unwrap_or o []
holders_are held n o found = ap (λ p. unwrap_or p []) (sym found)

-- of a name that was there, with a count of one job changed by f
pub changed_found : (f : ℕ → ℕ) (m held new : Held) (n : Resource) (o w : Option Jobs) (job : ℕ) → m ≡ held → o ≡ finmap.get m n → IsEntryPut held new n w → IsCounted (unwrap_or o []) (unwrap_or w []) job (f (counted (unwrap_or o []) job)) → IsRecounted held new job n (f (held_count held job n))
changed_found f m held new n o w job is found put count =
    recounted held new n w job _ put (subst (λ hs. IsCounted hs (unwrap_or w []) job (f (counted hs job))) (sym (holders_are held n o (found ∙ ap (λ k. finmap.get k n) is))) count)

kept : (hs : Jobs) → unwrap_or (entry_of hs) [] ≡ hs
kept [] = refl
kept (h ∷ hs) = refl

entry_kept : (hs gs : Jobs) → AreHolders hs → entry_of hs ≡ Some gs → IsEntry gs
entry_kept [] gs are is = absurd (cc)
entry_kept (h ∷ hs) gs are is = some_is (h ∷ hs) gs is (omega arith, are)

named_kept : (old : Held) (n : Resource) (least : ℕ) (hs : Jobs) → HasNoShorter old least → Some hs ≡ finmap.get old n → least ≤ length n.reference.subscripts
named_kept old n least hs none found = none n (subst IsSome found refl)

-- fewer counts of one job
module _ (old mid new : Held) (n : Resource) (was hs : Jobs) (found : finmap.get old n ≡ Some was) (first : mid ≡ finmap.insert old n []) (second : IsEntryPut mid new n (entry_of hs)) where
  settled : IsEntryPut old new n (entry_of hs)
  settled = put_over old mid new n (Some []) (entry_of hs) (put_inserted old mid n [] first) second

  pub settled_held : (least : ℕ) → AreHolders hs → AreHeld old → HasNoShorter old least → AreHeld new × HasNoShorter new least
  settled_held least holders are none =
      (held_put old new n (entry_of hs) settled (λ gs e. entry_kept hs gs holders e) are, short_put old new n (entry_of hs) least least settled (omega arith) (λ _. named_kept old n least was none (sym found)) none)

  pub settled_counts : (f : ℕ → ℕ) (held : Held) (job : ℕ) → old ≡ held → IsCounted was hs job (f (counted was job)) → IsRecounted held new job n (f (held_count held job n))
  settled_counts f held job is count =
      changed_found f old held new n (Some was) (entry_of hs) job is (sym found) (subst (λ m. IsEntryPut m new n (entry_of hs)) is settled) (subst (λ z. IsCounted was z job (f (counted was job))) (sym (kept hs)) count)

-- a name that nobody holds
pub unheld_counts : (n_fewer : ℕ) (m held new : Held) (n : Resource) (job : ℕ) → m ≡ held → new ≡ m → finmap.get m n ≡ None → IsRecounted held new job n (held_count held job n - n_fewer)
unheld_counts k m held new n job is new_is none =
    let zero_held : held_count held job n ≡ 0 = ap (λ o. counted (unwrap_or o []) job) (ap (λ z. finmap.get z n) (sym is) ∙ none) in
    subst (λ z. IsRecounted held z job n (held_count held job n - k)) (sym (new_is ∙ is)) (recounted_same held n job (held_count held job n - k) (omega arith))

pub settled_put : (old new : Held) (n : Resource) (hs : Jobs) → new ≡ finmap.insert old n hs → 0 < length hs → IsEntryPut old new n (entry_of hs)
settled_put old new n [] is some = absurd (omega arith)
settled_put old new n (h ∷ hs) is some = put_inserted old new n (h ∷ hs) is

pub settled_gone : (old new : Held) (n : Resource) (hs : Jobs) → new ≡ finmap.remove old n → length hs ≡ 0 → IsEntryPut old new n (entry_of hs)
settled_gone old new n [] is none = put_removed old new n is
settled_gone old new n (h ∷ hs) is none = absurd (omega arith)

-- a name that nobody held has one holder now
pub added_found : (m held new : Held) (n : Resource) (one : Jobs) (job k : ℕ) → m ≡ held → None ≡ finmap.get m n → new ≡ finmap.insert held n one → IsCounted [] one job k → IsRecounted held new job n (held_count held job n + k)
added_found m held new n one job k is found new_is count =
    let k_is : k ≡ 0 + k = omega arith in
    changed_found (λ v. v + k) m held new n None (Some one) job is found (put_inserted held new n one new_is) (subst (λ v. IsCounted [] one job v) k_is count)

pub put_there : (old new : Held) (n : Resource) (hs : Jobs) → new ≡ finmap.insert old n hs → IsSome (finmap.get new n)
put_there old new n hs is =
    let itself : eq_by_cmp resource_cmp n n ≡ true = ap is_eq (tied_itself resource_cmp_total n) in
    subst IsSome (sym (put_inserted old new n hs is n ∙ ap (λ b. cond b (Some hs) (finmap.get old n)) itself)) refl

pub none_of : (hs : Jobs) (b : Bool) → b ≡ (length hs == 0) → b ≡ true → length hs ≡ 0
none_of hs b is e = eqb-true (length hs) 0 (sym is ∙ e)

pub some_of : (hs : Jobs) (b : Bool) → b ≡ (length hs == 0) → b ≡ false → 0 < length hs
some_of [] b is e = let t : true ≡ false = sym (eq-eqb 0 0 refl) ∙ sym is ∙ e in absurd (cc)
some_of (h ∷ hs) b is e = omega arith
