-- Rows by job as a lock state, and the trie beside them.
use Rattle.std.proofs.Common.{◌≡◌, ◌<◌, ℕ, List, Bool, true, false, refl, sym, ap, subst, ◌∙◌, ◌⊎◌, inl, inr}
use Rattle.std.specs.Prelude.{cond, Option, Some, None, IsSome, unwrap_or, is_some, IfErr, Result}
use Rattle.std.specs.Ordering.{nat_cmp, is_eq, eq_by_cmp}
use Rattle.std.specs.Cmp.{nat_cmp_total, tied_itself}
use Rattle.std.specs.Option.{option_map}
use Rattle.std.specs.Map.{lookup}
use Rattle.std.specs.BTreeMap.{is_at}
use Rattle.std.specs.FinMap as finmap
use Rattle.std.specs.FinMap.{nat_cmp-IsAntisymmetric}
use Rattle.refusal.specs.declared.Refusal.{Refusal}
use Rattle.refusal.specs.declared.Refusal.TheVariants.{LockCountFull, OutOfMemory}
use Rattle.collation.specs.Reference.{Resource}
use Rattle.collation.specs.laws.Order.{is_equal}
use Rattle.lock_name.specs.Locks.{count_of, JobLocks, LockState, no_locks, locks_of, is_blocked, changed, job_wants}
use Rattle.lock_name.specs.laws.Blocking.{blocked_tells}
use Rattle.lock_trie.specs.Held.{Held, held_count, IsHeldByAnother}
use Rattle.lock_trie.specs.laws.Results.{if_err_onward}
use Rattle.lock_trie.specs.laws.Mapped.{seen, is_inserted, is_removed}
use Rattle.lock_table.specs.declared.row.Form.{Form}
use Rattle.lock_table.specs.Rows.{want_by, is_full_by, IsKept, AreOthersSame}
use Rattle.lock_table.specs.Tables.{RowsMatchTrie, nothing}

abbrev pub Puts : List (ℕ × JobLocks) → List (ℕ × JobLocks) → ℕ → JobLocks → Type 0
Puts es fs job l = (q : ℕ) → lookup (is_at (nat_cmp q)) fs ≡ cond (is_at (nat_cmp job) q) (Some l) (lookup (is_at (nat_cmp q)) es)

pub is_there : (p : Option JobLocks) (v : JobLocks) → Some v ≡ p → IsSome p
is_there p v e = subst IsSome e refl

got : (es : List (ℕ × JobLocks)) (m : LockState) (job : ℕ) (o : Option JobLocks) → finmap.from_entries es ≡ m → o ≡ lookup (is_at (nat_cmp job)) es → finmap.get m job ≡ o
got es m job o was is = sym (ap (λ s. finmap.get s job) was) ∙ seen nat_cmp_total es job ∙ sym is

pub locks_got : (es : List (ℕ × JobLocks)) (m : LockState) (job : ℕ) (l : JobLocks) → finmap.from_entries es ≡ m → Some l ≡ lookup (is_at (nat_cmp job)) es → l ≡ locks_of job m
locks_got es m job l was is = sym (ap (λ o. unwrap_or o no_locks) (got es m job (Some l) was is))

inserted : (es fs : List (ℕ × JobLocks)) (m : LockState) (job : ℕ) (l : JobLocks) → finmap.from_entries es ≡ m → Puts es fs job l → finmap.from_entries fs ≡ finmap.insert m job l
inserted = is_inserted nat_cmp_total nat_cmp-IsAntisymmetric

pub removed : (es fs : List (ℕ × JobLocks)) (m : LockState) (job : ℕ) → finmap.from_entries es ≡ m → ((q : ℕ) → lookup (is_at (nat_cmp q)) fs ≡ cond (is_at (nat_cmp job) q) None (lookup (is_at (nat_cmp q)) es)) → finmap.from_entries fs ≡ finmap.remove m job
removed = is_removed nat_cmp_total nat_cmp-IsAntisymmetric

pub put : (es fs : List (ℕ × JobLocks)) (m : LockState) (job : ℕ) (l w : JobLocks) → finmap.from_entries es ≡ m → Puts es fs job l → l ≡ w → finmap.from_entries fs ≡ finmap.insert m job w
put es fs m job l w was puts is = inserted es fs m job l was puts ∙ ap (finmap.insert m job) is

-- a row that is changed where it is
pub row_changed : (f : JobLocks → JobLocks) (es fs : List (ℕ × JobLocks)) (m : LockState) (job : ℕ) (l w : JobLocks) → finmap.from_entries es ≡ m → Some l ≡ lookup (is_at (nat_cmp job)) es → Puts es fs job w → w ≡ f l → finmap.from_entries fs ≡ changed f job m (finmap.get m job)
row_changed f es fs m job l w was is puts done = put es fs m job w (f l) was puts done ∙ ap (changed f job m) (sym (got es m job (Some l) was is))

pub row_absent : (f : JobLocks → JobLocks) (es fs : List (ℕ × JobLocks)) (m : LockState) (job : ℕ) → finmap.from_entries es ≡ m → None ≡ lookup (is_at (nat_cmp job)) es → fs ≡ es → finmap.from_entries fs ≡ changed f job m (finmap.get m job)
row_absent f es fs m job was is same = ap finmap.from_entries same ∙ was ∙ ap (changed f job m) (sym (got es m job None was is))

locks_insert : (m : LockState) (job : ℕ) (l : JobLocks) (other : ℕ) → locks_of other (finmap.insert m job l) ≡ cond (eq_by_cmp nat_cmp other job) l (locks_of other m)
locks_insert m job l other = ap (λ o. unwrap_or o no_locks) (finmap.get-insert nat_cmp_total m job l other) ∙ by_test (eq_by_cmp nat_cmp other job)
  where
    by_test : (b : Bool) → unwrap_or (cond b (Some l) (finmap.get m other)) no_locks ≡ cond b l (locks_of other m)
    by_test true = refl
    by_test false = refl

same_job : (other job : ℕ) → eq_by_cmp nat_cmp other job ≡ true → other ≡ job
same_job other job e = nat_cmp-IsAntisymmetric other job (is_equal (nat_cmp other job) e)

other_job : (other job : ℕ) → eq_by_cmp nat_cmp other job ≡ false → other ≡ job → ⊥
other_job other job e is = let itself : eq_by_cmp nat_cmp other job ≡ true = ap (λ j. eq_by_cmp nat_cmp other j) (sym is) ∙ ap is_eq (tied_itself nat_cmp_total other) in let no_ : false ≡ true = sym e ∙ itself in absurd (cc)

-- ---- the trie beside the rows

pub joined_empty : (trie : Held) (m : LockState) → m ≡ finmap.empty → ((job : ℕ) (x : Resource) → held_count trie job x ≡ 0) → RowsMatchTrie trie m
joined_empty trie m is none job x =
    none job x ∙ sym (ap (λ s. count_of (locks_of job s).held x) is ∙ ap (λ o. count_of (unwrap_or o no_locks).held x) (finmap.get-empty nat_cmp job) ∙ ap (λ o. unwrap_or o 0) (finmap.get-empty _ x))

pub row_kept : (trie : Held) (es : List (ℕ × JobLocks)) (job : ℕ) (l : JobLocks) → RowsMatchTrie trie (finmap.from_entries es) → Some l ≡ lookup (is_at (nat_cmp job)) es → IsKept trie job l
row_kept trie es job l joined is x = joined job x ∙ ap (λ s. count_of s.held x) (sym (locks_got es (finmap.from_entries es) job l refl is))

pub row_joined : (before trie : Held) (es fs : List (ℕ × JobLocks)) (job : ℕ) (l : JobLocks) → RowsMatchTrie before (finmap.from_entries es) → Puts es fs job l → AreOthersSame before trie job → IsKept trie job l → RowsMatchTrie trie (finmap.from_entries fs)
row_joined before trie es fs job l joined puts others kept other x = by_test (eq_by_cmp nat_cmp other job) refl
  where
    now : (b : Bool) → eq_by_cmp nat_cmp other job ≡ b → locks_of other (finmap.from_entries fs) ≡ cond b l (locks_of other (finmap.from_entries es))
    now b e = ap (locks_of other) (inserted es fs (finmap.from_entries es) job l refl puts) ∙ locks_insert (finmap.from_entries es) job l other ∙ ap (λ t. cond t l (locks_of other (finmap.from_entries es))) e

    by_test : (b : Bool) → eq_by_cmp nat_cmp other job ≡ b → held_count trie other x ≡ count_of (locks_of other (finmap.from_entries fs)).held x
    by_test true e = ap (λ j. held_count trie j x) (same_job other job e) ∙ kept x ∙ ap (λ s. count_of s.held x) (sym (now true e))
    by_test false e = others other x (other_job other job e) ∙ joined other x ∙ ap (λ s. count_of s.held x) (sym (now false e))

-- a job that has nothing goes
pub removed_joined : (trie : Held) (m n : LockState) (job : ℕ) → RowsMatchTrie trie m → locks_of job m ≡ no_locks → n ≡ finmap.remove m job → RowsMatchTrie trie n
removed_joined trie m n job joined none is other x = joined other x ∙ ap (λ s. count_of s.held x) (by_test (eq_by_cmp nat_cmp other job) refl)
  where
    now : (b : Bool) → eq_by_cmp nat_cmp other job ≡ b → locks_of other n ≡ unwrap_or (cond b None (finmap.get m other)) no_locks
    now b e = ap (locks_of other) is ∙ ap (λ o. unwrap_or o no_locks) (finmap.get-remove nat_cmp_total m job other) ∙ ap (λ t. unwrap_or (cond t None (finmap.get m other)) no_locks) e

    by_test : (b : Bool) → eq_by_cmp nat_cmp other job ≡ b → locks_of other m ≡ locks_of other n
    by_test true e = ap (λ j. locks_of j m) (same_job other job e) ∙ none ∙ sym (now true e)
    by_test false e = sym (now false e)

-- ---- a job that ends

pub empty_locks : (m n : LockState) (job : ℕ) → n ≡ changed nothing job m (finmap.get m job) → locks_of job n ≡ no_locks
empty_locks m n job is = ap (locks_of job) is ∙ by_found (finmap.get m job) refl
  where
    itself : eq_by_cmp nat_cmp job job ≡ true
    itself = ap is_eq (tied_itself nat_cmp_total job)

    by_found : (o : Option JobLocks) → finmap.get m job ≡ o → locks_of job (changed nothing job m o) ≡ no_locks
    by_found None e = ap (λ o. unwrap_or o no_locks) e
    by_found (Some l) e = locks_insert m job no_locks job ∙ ap (λ t. cond t no_locks (locks_of job m)) itself

pub empty_gone : (m n : LockState) (job : ℕ) → n ≡ changed nothing job m (finmap.get m job) → finmap.remove n job ≡ finmap.remove m job
empty_gone m n job is = ap (λ s. finmap.remove s job) is ∙ by_found (finmap.get m job)
  where
    by_key : (q : ℕ) (b : Bool) → eq_by_cmp nat_cmp q job ≡ b → cond b None (cond b (Some no_locks) (finmap.get m q)) ≡ cond b None (finmap.get m q)
    by_key q true e = refl
    by_key q false e = refl

    by_found : (o : Option JobLocks) → finmap.remove (changed nothing job m o) job ≡ finmap.remove m job
    by_found None = refl
    by_found (Some l) = finmap.same_map nat_cmp_total nat_cmp-IsAntisymmetric (finmap.remove (finmap.insert m job no_locks) job) (finmap.remove m job) (λ q.
        finmap.get-remove nat_cmp_total (finmap.insert m job no_locks) job q ∙ ap (cond (eq_by_cmp nat_cmp q job) None) (finmap.get-insert nat_cmp_total m job no_locks q) ∙ by_key q (eq_by_cmp nat_cmp q job) refl ∙ sym (finmap.get-remove nat_cmp_total m job q))

-- ---- a row that is made for a LOCK

abbrev pub made : Bool → ℕ → LockState → LockState
made fresh job m = cond fresh (finmap.insert m job no_locks) m

pub made_locks : (m n : LockState) (job : ℕ) (fresh : Bool) → n ≡ made fresh job m → (fresh ≡ true → finmap.get m job ≡ None) → locks_of job n ≡ locks_of job m
made_locks m n job fresh is none = ap (locks_of job) is ∙ by_test fresh none
  where
    itself : eq_by_cmp nat_cmp job job ≡ true
    itself = ap is_eq (tied_itself nat_cmp_total job)

    by_test : (b : Bool) → (b ≡ true → finmap.get m job ≡ None) → locks_of job (made b job m) ≡ locks_of job m
    by_test true none = locks_insert m job no_locks job ∙ ap (λ t. cond t no_locks (locks_of job m)) itself ∙ sym (ap (λ o. unwrap_or o no_locks) (none refl))
    by_test false none = refl

insert_again : (m : LockState) (job : ℕ) (l w : JobLocks) → finmap.insert (finmap.insert m job l) job w ≡ finmap.insert m job w
insert_again m job l w = finmap.same_map nat_cmp_total nat_cmp-IsAntisymmetric (finmap.insert (finmap.insert m job l) job w) (finmap.insert m job w) (λ q.
    finmap.get-insert nat_cmp_total (finmap.insert m job l) job w q ∙ ap (cond (eq_by_cmp nat_cmp q job) (Some w)) (finmap.get-insert nat_cmp_total m job l q) ∙ by_key q (eq_by_cmp nat_cmp q job) ∙ sym (finmap.get-insert nat_cmp_total m job w q))
  where
    by_key : (q : ℕ) (b : Bool) → cond b (Some w) (cond b (Some l) (finmap.get m q)) ≡ cond b (Some w) (finmap.get m q)
    by_key q true = refl
    by_key q false = refl

pub made_insert : (m n : LockState) (job : ℕ) (fresh : Bool) (w : JobLocks) → n ≡ made fresh job m → finmap.insert n job w ≡ finmap.insert m job w
made_insert m n job fresh w is = ap (λ s. finmap.insert s job w) is ∙ by_test fresh
  where
    by_test : (b : Bool) → finmap.insert (made b job m) job w ≡ finmap.insert m job w
    by_test true = insert_again m job no_locks w
    by_test false = refl

pub made_locked : (m n t : LockState) (job : ℕ) (inside fresh : Bool) (form : Form) (ns : List Resource) → n ≡ made fresh job m → (fresh ≡ true → finmap.get m job ≡ None)
    → t ≡ finmap.insert n job (job_wants inside (want_by form ns (locks_of job n).want) (locks_of job n)) → t ≡ finmap.insert m job (job_wants inside (want_by form ns (locks_of job m).want) (locks_of job m))
made_locked m n t job inside fresh form ns is none locked =
    locked ∙ made_insert m n job fresh _ is ∙ ap (λ l. finmap.insert m job (job_wants inside (want_by form ns l.want) l)) (made_locks m n job fresh is none)

pub made_full : (m n : LockState) (job : ℕ) (fresh b : Bool) (form : Form) (ns : List Resource) → n ≡ made fresh job m → (fresh ≡ true → finmap.get m job ≡ None) → is_full_by form ns (locks_of job n).want ≡ b → is_full_by form ns (locks_of job m).want ≡ b
made_full m n job fresh b form ns is none full = ap (λ l. is_full_by form ns l.want) (sym (made_locks m n job fresh is none)) ∙ full

pub made_gone : (m n t u : LockState) (job : ℕ) (fresh : Bool) → n ≡ made fresh job m → (fresh ≡ true → finmap.get m job ≡ None) → fresh ≡ true → t ≡ n → u ≡ finmap.remove t job → u ≡ m
made_gone m n t u job fresh is none yes_fresh same gone =
    gone ∙ ap (λ s. finmap.remove s job) (same ∙ is ∙ ap (λ b. made b job m) yes_fresh)
    ∙ finmap.same_map nat_cmp_total nat_cmp-IsAntisymmetric (finmap.remove (finmap.insert m job no_locks) job) m (λ q.
    finmap.get-remove nat_cmp_total (finmap.insert m job no_locks) job q ∙ ap (cond (eq_by_cmp nat_cmp q job) None) (finmap.get-insert nat_cmp_total m job no_locks q) ∙ by_key q (eq_by_cmp nat_cmp q job) refl)
  where
    by_key : (q : ℕ) (b : Bool) → eq_by_cmp nat_cmp q job ≡ b → cond b None (cond b (Some no_locks) (finmap.get m q)) ≡ finmap.get m q
    by_key q true e = sym (ap (finmap.get m) (same_job q job e) ∙ none yes_fresh)
    by_key q false e = refl

-- ---- what is blocked

pub blocked_is : (trie : Held) (m : LockState) (job : ℕ) (n : Resource) (b : Bool) → RowsMatchTrie trie m → (b ≡ true → IsHeldByAnother trie job n) → (b ≡ false → IsHeldByAnother trie job n → ⊥) → b ≡ is_blocked m job n
blocked_is trie m job n true joined some none =
    let t = some refl in
    let tells = blocked_tells m job n in
    sym (tells.1 (t.0, t.1, (t.2.0, subst (λ c. 0 < c) (joined t.0 t.2.0) t.2.1, t.2.2)))
blocked_is trie m job n false joined some none = by_test (is_blocked m job n) refl
  where
    by_test : (b : Bool) → is_blocked m job n ≡ b → false ≡ is_blocked m job n
    by_test true e =
        let tells = blocked_tells m job n in
        let t = tells.0 e in
        absurd (none refl (t.0, t.1, (t.2.0, subst (λ c. 0 < c) (sym (joined t.0 t.2.0)) t.2.1, t.2.2)))
    by_test false e = sym e

pub full_along : (form : Form) (ns : List Resource) (l s : JobLocks) (b : Bool) → l ≡ s → is_full_by form ns l.want ≡ b → is_full_by form ns s.want ≡ b
full_along form ns l s b is full = ap (λ (j : JobLocks). is_full_by form ns j.want) (sym is) ∙ full

pub same_put : (es fs : List (ℕ × JobLocks)) (m : LockState) (job : ℕ) (l w : JobLocks) → finmap.from_entries es ≡ m → Some l ≡ lookup (is_at (nat_cmp job)) es → Puts es fs job w → w ≡ l → finmap.from_entries fs ≡ m
same_put es fs m job l w was is puts same = put es fs m job w l was puts same ∙ finmap.same_map nat_cmp_total nat_cmp-IsAntisymmetric (finmap.insert m job l) m (λ q. finmap.get-insert nat_cmp_total m job l q ∙ by_key q (eq_by_cmp nat_cmp q job) refl)
  where
    by_key : (q : ℕ) (b : Bool) → eq_by_cmp nat_cmp q job ≡ b → cond b (Some l) (finmap.get m q) ≡ finmap.get m q
    by_key q true e = sym (ap (finmap.get m) (same_job q job e) ∙ got es m job (Some l) was is)
    by_key q false e = refl

pub found_row : (es : List (ℕ × JobLocks)) (m : LockState) (job : ℕ) (o : Option JobLocks) (b : Bool) → finmap.from_entries es ≡ m → o ≡ lookup (is_at (nat_cmp job)) es → b ≡ is_some o → b ≡ is_some (finmap.get m job)
found_row es m job o b was is b_is = b_is ∙ ap is_some (sym (got es m job o was is))

pub no_row : (o : Option JobLocks) → false ≡ is_some o → o ≡ None
no_row None e = refl
no_row (Some l) e = absurd (cc)

-- a row that is there is found
pub row_there : (es : List (ℕ × JobLocks)) (m : LockState) (job : ℕ) → finmap.from_entries es ≡ m → is_some (finmap.get m job) ≡ true → None ≡ lookup (is_at (nat_cmp job)) es → ⊥
row_there es m job was there none = let clash : false ≡ true = ap is_some (sym (got es m job None was none)) ∙ there in absurd (cc)

pub put_there : (m n : LockState) (job : ℕ) (l : JobLocks) → n ≡ finmap.insert m job l → is_some (finmap.get n job) ≡ true
put_there m n job l is = ap (λ s. is_some (finmap.get s job)) is ∙ ap is_some (finmap.get-insert nat_cmp_total m job l job) ∙ ap (λ t. is_some (cond t (Some l) (finmap.get m job))) (ap is_eq (tied_itself nat_cmp_total job))

pub put_new : (es fs : List (ℕ × JobLocks)) (m : LockState) (job : ℕ) (l : JobLocks) → finmap.from_entries es ≡ m → Puts es fs job l → l ≡ no_locks → finmap.from_entries fs ≡ finmap.insert m job no_locks
put_new es fs m job l was puts is = put es fs m job l no_locks was puts is

pub new_joined : (trie : Held) (es fs : List (ℕ × JobLocks)) (m : LockState) (job : ℕ) (l : JobLocks) → RowsMatchTrie trie (finmap.from_entries es) → finmap.from_entries es ≡ m → finmap.get m job ≡ None → Puts es fs job l → l ≡ no_locks → RowsMatchTrie trie (finmap.from_entries fs)
new_joined trie es fs m job l joined was none puts is = row_joined trie trie es fs job l joined puts (λ other x apart. refl) (λ x. joined job x ∙ ap (λ o. count_of (unwrap_or o no_locks).held x) (ap (λ s. finmap.get s job) was ∙ none) ∙ ap (λ s. count_of s.held x) (sym is))

pub same_joined : (trie : Held) (es fs : List (ℕ × JobLocks)) → fs ≡ es → RowsMatchTrie trie (finmap.from_entries es) → RowsMatchTrie trie (finmap.from_entries fs)
same_joined trie es fs is joined = subst (λ z. RowsMatchTrie trie (finmap.from_entries z)) (sym is) joined

pub copied_some : {A B : Type 0} (f : A → B) (o : Option A) → is_some o ≡ is_some (option_map f o)
copied_some f None = refl
copied_some f (Some a) = refl

pub refused_by : (b : Bool) (refusal : Refusal) → (refusal ≡ OutOfMemory) ⊎ ((refusal ≡ LockCountFull) × (b ≡ true)) → (refusal ≡ OutOfMemory) ⊎ (cond b (Some LockCountFull) None ≡ Some refusal)
refused_by b refusal (inl e) = inl e
refused_by b refusal (inr p) = inr (ap (λ t. cond t (Some LockCountFull) None) p.1 ∙ ap Some (sym p.0))

pub wants_nothing : (es : List (ℕ × JobLocks)) (m : LockState) (job : ℕ) → finmap.from_entries es ≡ m → None ≡ lookup (is_at (nat_cmp job)) es → finmap.empty ≡ (locks_of job m).want
wants_nothing es m job was is = sym (ap (λ o. (unwrap_or o no_locks).want) (got es m job None was is))

pub all_refused_by : {A : Type 0} (r : Result A Refusal) (b : Bool) (ended : Option Refusal) → ended ≡ cond b (Some LockCountFull) None → IfErr r (λ refusal. (refusal ≡ OutOfMemory) ⊎ ((refusal ≡ LockCountFull) × (b ≡ true))) → IfErr r (λ refusal. (refusal ≡ OutOfMemory) ⊎ (ended ≡ Some refusal))
all_refused_by r b ended is cause = subst (λ o. IfErr r (λ refusal. (refusal ≡ OutOfMemory) ⊎ (o ≡ Some refusal))) (sym is) (if_err_onward r (refused_by b) cause)
