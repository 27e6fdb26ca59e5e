-- Which lock names conflict, and what LOCK leaves of counts.
use Rattle.std.proofs.Common.{◌≡◌, ◌<◌, ℕ, Bool, true, false, List, [], ◌∷◌, ◌++◌, length, refl, sym, ap, subst, ◌∙◌, ◌⊎◌, inl, inr, arith}
use Rattle.std.specs.Prelude.{◌||◌, not, max, cond, filter, unwrap_or}
use Rattle.std.specs.List.{list_any}
use Rattle.std.specs.Ordering.{eq_by_cmp, is_eq}
use Rattle.std.specs.Bool.{beq}
use Rattle.std.specs.Cmp.{tied_itself, first_so, second_so}
use Rattle.std.specs.Cmp.Lexicographic.{bytes_decides}
use Rattle.std.proofs.lemmas.Bool.{and_from}
use Rattle.std.specs.FinMap as finmap
use Rattle.lock_name.specs.declared.lock.LockCommand.{LockCommand}
use Rattle.lock_name.specs.declared.lock.LockCommand.TheVariants.{Release, Only, More, Fewer}
use Rattle.collation.specs.Reference.{Reference, Resource}
use Rattle.collation.specs.Database.{is_under, begins_with}
use Rattle.lock_name.specs.Locks.{resource_cmp, JobLocks, LockState, locks_of, count_of, conflict, is_blocked, lock_reply, want_had, want_kept, want_after, job_wants}
use Rattle.lock_name.specs.LockStatements.{times}
use Rattle.lock_name.specs.laws.Counting.{resource_cmp_total, counts_tell}
use Rattle.serial.specs.Locking.{IsBeginning, ConflictTells, GrantTells, wanted_after, LockTells}
use Rattle.serial.specs.laws.ByJob.{locks_put, locks_put_apart}
use Rattle.serial.specs.laws.Excluding.{listed_free}
use Rattle.serial.specs.laws.Overtaken.{false_of_not}

-- ---- names

begins_so : (xs ys : List (List ℕ)) → begins_with xs ys ≡ true → (more : List (List ℕ)) × (xs ≡ ys ++ more)
begins_so xs [] h = (xs, refl)
begins_so [] (y ∷ ys) h = absurd (cc)
begins_so (x ∷ xs) (y ∷ ys) h =
    let same : x ≡ y = (bytes_decides x y).0 (first_so _ _ h) in
    let rest = begins_so xs ys (second_so _ _ h) in
    (rest.0, λ i. same i ∷ rest.1 i)

begins_joined : (ys more : List (List ℕ)) → begins_with (ys ++ more) ys ≡ true
begins_joined [] more = refl
begins_joined (y ∷ ys) more = and_from _ _ ((bytes_decides y y).1 refl) (begins_joined ys more)

under_begins : (r x : Reference) → is_under r x ≡ true → IsBeginning r x
under_begins r x h = record { name = (bytes_decides r.name x.name).0 (first_so _ _ h); more = begins_so x.subscripts r.subscripts (second_so _ _ h) }

begins_under : (r x : Reference) → IsBeginning r x → is_under r x ≡ true
begins_under r x b =
    let more = b.more in
    and_from _ _ ((bytes_decides r.name x.name).1 b.name) (subst (λ xs. begins_with xs r.subscripts ≡ true) (sym more.1) (begins_joined r.subscripts more.0))

same_caret : (a b : Bool) → beq a b ≡ true → a ≡ b
same_caret true true h = refl
same_caret true false h = absurd (cc)
same_caret false true h = absurd (cc)
same_caret false false h = refl

caret_same : (a b : Bool) → a ≡ b → beq a b ≡ true
caret_same true true h = refl
caret_same true false h = absurd (cc)
caret_same false true h = absurd (cc)
caret_same false false h = refl

pub conflict_tells : ConflictTells
conflict_tells n x = (onward, back)
  where
    either : (a b : Bool) → (a || b) ≡ true → (a ≡ true) ⊎ (b ≡ true)
    either true b h = inl refl
    either false b h = inr h

    or_second : (a b : Bool) → b ≡ true → (a || b) ≡ true
    or_second true b h = refl
    or_second false b h = h

    onward : conflict n x ≡ true → (n.has_caret ≡ x.has_caret) × (IsBeginning n.reference x.reference ⊎ IsBeginning x.reference n.reference)
    onward h = (
      same_caret n.has_caret x.has_caret (first_so (beq n.has_caret x.has_caret) _ h),
      elim (either (is_under n.reference x.reference) (is_under x.reference n.reference) (second_so (beq n.has_caret x.has_caret) _ h)) [
        | inl u ↦ inl (under_begins n.reference x.reference u)
        | inr u ↦ inr (under_begins x.reference n.reference u)
      ],
    )

    one_begins : IsBeginning n.reference x.reference ⊎ IsBeginning x.reference n.reference → (is_under n.reference x.reference || is_under x.reference n.reference) ≡ true
    one_begins (inl b) = ap (λ u. u || is_under x.reference n.reference) (begins_under n.reference x.reference b)
    one_begins (inr b) = or_second (is_under n.reference x.reference) _ (begins_under x.reference n.reference b)

    back : (n.has_caret ≡ x.has_caret) × (IsBeginning n.reference x.reference ⊎ IsBeginning x.reference n.reference) → conflict n x ≡ true
    back h = and_from _ _ (caret_same n.has_caret x.has_caret h.0) (one_begins h.1)

-- ---- counts

module _ (job : ℕ) (in_transaction : Bool) (s : LockState) (n : Resource) where
  wanted : (command : LockCommand) → wanted_after job in_transaction command s n ≡ count_of (want_after job command s) n
  wanted command =
      ap (λ (l : JobLocks). count_of l.want n) (locks_put s job (job_wants in_transaction (want_after job command s) (locks_of job s)))
      ∙ by_place in_transaction
    where
      by_place : (b : Bool) → count_of (job_wants b (want_after job command s) (locks_of job s)).want n ≡ count_of (want_after job command s) n
      by_place true = refl
      by_place false = refl

  granted : (command : LockCommand) → lock_reply job command s ≡ true → wanted_after job in_transaction command s n ≡ count_of (want_had command (locks_of job s).want) n
  granted command e = wanted command ∙ ap (λ b. count_of (cond b (want_had command (locks_of job s).want) (want_kept command (locks_of job s).want)) n) e

  blocked : (command : LockCommand) → lock_reply job command s ≡ false → wanted_after job in_transaction command s n ≡ count_of (want_kept command (locks_of job s).want) n
  blocked command e = wanted command ∙ ap (λ b. count_of (cond b (want_had command (locks_of job s).want) (want_kept command (locks_of job s).want)) n) e

  none : count_of finmap.empty n ≡ 0
  none = ap (λ o. unwrap_or o 0) (finmap.get-empty resource_cmp n)

  only_granted : (ns : List Resource) → lock_reply job (Only ns) s ≡ true → wanted_after job in_transaction (Only ns) s n ≡ times n ns
  only_granted ns e =
      let tell = counts_tell n in
      let counted = granted (Only ns) e ∙ tell.more ns finmap.empty in
      let none_yet = none in
      omega arith

  held_then : (command : LockCommand) → count_of (locks_of job (finmap.insert s job (job_wants in_transaction (want_after job command s) (locks_of job s)))).held n
      ≡ cond in_transaction (max (count_of (locks_of job s).held n) (wanted_after job in_transaction command s n)) (wanted_after job in_transaction command s n)
  held_then command =
      ap (λ (l : JobLocks). count_of l.held n) (locks_put s job (job_wants in_transaction (want_after job command s) (locks_of job s)))
      ∙ by_place in_transaction
      ∙ ap (λ c. cond in_transaction (max (count_of (locks_of job s).held n) c) c) (sym (wanted command))
    where
      by_place : (b : Bool) → count_of (job_wants b (want_after job command s) (locks_of job s)).held n ≡ cond b (max (count_of (locks_of job s).held n) (count_of (want_after job command s) n)) (count_of (want_after job command s) n)
      by_place true = let tell = counts_tell n in tell.greatest (locks_of job s).held (want_after job command s)
      by_place false = refl

-- ---- what is granted

one_of : (n k : Resource) (ks : List Resource) → 0 < times n ks → 0 < times n (k ∷ ks)
one_of n k ks h = by_test (eq_by_cmp resource_cmp n k)
  where
    by_test : (b : Bool) → 0 < length (cond b (k ∷ filter (eq_by_cmp resource_cmp n) ks) (filter (eq_by_cmp resource_cmp n) ks))
    by_test true = omega arith
    by_test false = h

first_of : (k : Resource) (ks : List Resource) → 0 < times k (k ∷ ks)
first_of k ks = subst (λ b. 0 < length (cond b (k ∷ filter (eq_by_cmp resource_cmp k) ks) (filter (eq_by_cmp resource_cmp k) ks))) (sym (ap is_eq (tied_itself resource_cmp_total k))) (omega arith)

none_of : (s : LockState) (job : ℕ) (ns : List Resource) → ((n : Resource) → 0 < times n ns → is_blocked s job n ≡ false) → list_any (is_blocked s job) ns ≡ false
none_of s job [] free = refl
none_of s job (k ∷ ks) free = neither_one _ _ (free k (first_of k ks)) (none_of s job ks (λ n h. free n (one_of n k ks h)))
  where
    neither_one : (a b : Bool) → a ≡ false → b ≡ false → (a || b) ≡ false
    neither_one true b h k = absurd (cc)
    neither_one false b h k = k

pub grant_tells : (job : ℕ) (s : LockState) → GrantTells job s
grant_tells job s = record {
  only = λ ns. (λ e n h. listed_free s job n ns (false_of_not _ e) h, λ free. ap not (none_of s job ns free));
  more = λ ns. (λ e n h. listed_free s job n ns (false_of_not _ e) h, λ free. ap not (none_of s job ns free));
  fewer = λ ns. refl;
  released = refl;
}

-- ---- counts after a LOCK

pub lock_tells : (job : ℕ) (in_transaction : Bool) (s : LockState) (n : Resource) → LockTells job in_transaction s n
lock_tells job in_transaction s n =
    let tell = counts_tell n in
    record {
      released = granted job in_transaction s n Release refl ∙ none job in_transaction s n;
      only = only_granted job in_transaction s n;
      only_blocked = λ ns e. blocked job in_transaction s n (Only ns) e ∙ none job in_transaction s n;
      more = λ ns e. granted job in_transaction s n (More ns) e ∙ tell.more ns (locks_of job s).want;
      more_blocked = λ ns e. blocked job in_transaction s n (More ns) e;
      fewer = λ ns. granted job in_transaction s n (Fewer ns) refl ∙ tell.fewer ns (locks_of job s).want;
      held = held_then job in_transaction s n;
      others = λ command other ne. locks_put_apart s job (job_wants in_transaction (want_after job command s) (locks_of job s)) other (λ e. ne e);
    }
