-- What the units of a journal that takes a database over leave.
use Rattle.std.specs.Prelude.{◌≡◌, ◌<◌, ◌==◌, ℕ, zero, suc, Bool, true, false, cond, List, [], ◌∷◌, ◌++◌, length, Option, None}
use Rattle.std.proofs.Common.{refl, sym, ap, ◌∙◌, arith, ◌⊎◌, inl, inr, length-append}
use Rattle.std.proofs.lemmas.Bool.Decides.{eqb_tells}
use Rattle.std.specs.Ordering.{nat_cmp, eq_by_cmp}
use Rattle.std.specs.Cmp.{nat_cmp_total}
use Rattle.std.specs.FinMap as finmap
use Rattle.std.specs.FinMap.{nat_cmp-IsAntisymmetric}
use Rattle.collation.specs.Reference.{Reference}
use Rattle.collation.specs.Database.{Database}
use Rattle.collation.specs.Order.{ref_cmp}
use Rattle.collation.specs.laws.Order.{ref_cmp_total, ref_cmp-IsAntisymmetric}
use Rattle.lock_name.specs.Locks.{LockState, JobLocks, job_commits, changed, locks_after_commit, locks_after_end}
use Rattle.journal.specs.declared.unit.Exchange.{Exchange}
use Rattle.journal.specs.declared.unit.Unit.{Unit as JournalUnit}
use Rattle.journal.specs.declared.unit.Unit.TheVariants.{Whole, End}
use Rattle.journal.specs.Adopted.{settings_of, ends, adopted_units}
use Rattle.journal.specs.Based.{database_of}
use Rattle.journal.specs.Counting.{tally_of}
use Rattle.journal.specs.History.{State, initial, all_after, after, after_unit, AreRight, IsLegal}
use Rattle.journal.specs.laws.History.{after-append, IsLegal-append, all_after-append}

-- ---- what is set

pub sets_all : (nodes : List (Reference × List ℕ)) → all_after (settings_of nodes) finmap.empty ≡ database_of nodes
sets_all [] = refl
sets_all (e ∷ es) = all_after-append (settings_of es) _ finmap.empty ∙ ap (λ (m : Database). finmap.insert m e.0 e.1) (sets_all es)

right-append : (es fs : List Exchange) (m : Database) → AreRight es m → AreRight fs (all_after es m) → AreRight (es ++ fs) m
right-append [] fs m h k = k
right-append (e ∷ es) fs m h k = (h.0, right-append es fs _ h.1 k)

pub sets_right : (nodes : List (Reference × List ℕ)) (m : Database) → AreRight (settings_of nodes) m
sets_right [] m = tt
sets_right (e ∷ es) m = right-append (settings_of es) _ m (sets_right es m) ((refl, refl), tt)

-- ---- no locks

none_either : (b : Bool) (o : Option JobLocks) → o ≡ None → cond b None o ≡ o
none_either true o e = sym e
none_either false o e = refl

none_ends : locks_after_end 0 finmap.empty ≡ finmap.empty
none_ends = finmap.same_map nat_cmp_total nat_cmp-IsAntisymmetric (finmap.remove finmap.empty 0) finmap.empty
    (λ q. finmap.get-remove nat_cmp_total finmap.empty 0 q ∙ none_either (eq_by_cmp nat_cmp q 0) (finmap.get finmap.empty q) (finmap.get-empty nat_cmp q))

none_commits : locks_after_commit 0 finmap.empty ≡ finmap.empty
none_commits = ap (changed job_commits 0 finmap.empty) (finmap.get-empty nat_cmp 0)

still : (n : ℕ) → after (ends n) initial ≡ initial
still zero = refl
still (suc n) = ap (λ (s : LockState). after (ends n) (record { map = finmap.empty; locks = s })) none_ends ∙ still n

-- ---- all of them

ends_number : (n : ℕ) → length (ends n) ≡ n
ends_number zero = refl
ends_number (suc n) = ap suc (ends_number n)

pub adopted_number : (n : ℕ) (nodes : List (Reference × List ℕ)) → length (adopted_units n nodes) ≡ n
adopted_number zero nodes = refl
adopted_number (suc n) nodes = let e = ends_number n in let l = length-append (ends n) (Whole 0 (settings_of nodes) ∷ []) in omega (arith, e, l)

ends_legal : (n : ℕ) (s : State) → IsLegal (ends n) s
ends_legal zero s = tt
ends_legal (suc n) s = (tt, ends_legal n (after_unit (End 0) s))

pub adopted_legal : (n : ℕ) (nodes : List (Reference × List ℕ)) → IsLegal (adopted_units n nodes) initial
adopted_legal zero nodes = tt
adopted_legal (suc n) nodes = IsLegal-append (ends n) (Whole 0 (settings_of nodes) ∷ []) initial (ends_legal n initial) (sets_right nodes (after (ends n) initial).map, tt)

pub adopted_state : (n : ℕ) (nodes : List (Reference × List ℕ)) → (n ≡ 0 → nodes ≡ []) → after (adopted_units n nodes) initial ≡ record { map = database_of nodes; locks = finmap.empty }
adopted_state zero nodes none = ap (λ es. record { map = database_of es; locks = finmap.empty }) (sym (none refl))
adopted_state (suc n) nodes none =
    after-append (ends n) (Whole 0 (settings_of nodes) ∷ []) initial
    ∙ ap (after_unit (Whole 0 (settings_of nodes))) (still n)
    ∙ ap (λ (m : Database). record { map = m; locks = locks_after_commit 0 finmap.empty }) (sets_all nodes)
    ∙ ap (λ (s : LockState). record { map = database_of nodes; locks = s }) none_commits

-- ---- none of them counts for a job

ends_tally : (n job : ℕ) (us : List JournalUnit) → tally_of job (ends n ++ us) ≡ tally_of job us
ends_tally zero job us = refl
ends_tally (suc n) job us = ends_tally n job us

not_nobody : (job : ℕ) → 0 < job → (0 == job) ≡ false
not_nobody job some = by_case (eqb_tells 0 job)
  where
    by_case : (((0 == job) ≡ true) × (0 ≡ job)) ⊎ (((0 == job) ≡ false) × (0 ≡ job → ⊥)) → (0 == job) ≡ false
    by_case (inl same) = let e : 0 ≡ job = same.1 in absurd (omega (arith, e, some))
    by_case (inr other) = other.0

pub adopted_tally : (n : ℕ) (nodes : List (Reference × List ℕ)) (job : ℕ) → 0 < job → tally_of job (adopted_units n nodes) ≡ 0
adopted_tally zero nodes job some = refl
adopted_tally (suc n) nodes job some =
    ends_tally n job (Whole 0 (settings_of nodes) ∷ [])
    ∙ ap (λ b. length (cond b (Whole 0 (settings_of nodes) ∷ []) [])) (not_nobody job some)

-- ---- nodes in order

-- in their order, as a database has them
pub of_entries : (m : Database) → database_of (finmap.entries m) ≡ m
of_entries m = finmap.same_map ref_cmp_total ref_cmp-IsAntisymmetric (database_of (finmap.entries m)) m (λ q. finmap.get-from_entries ref_cmp_total (finmap.entries m) q ∙ sym (finmap.get-entries m q))

pub sorted_entries : (nodes : List (Reference × List ℕ)) (m : Database) → nodes ≡ finmap.entries m → nodes ≡ finmap.entries (database_of nodes)
sorted_entries nodes m e = e ∙ ap finmap.entries (sym (of_entries m) ∙ ap database_of (sym e))

nil_of : {X : Type 0} (xs : List X) → length xs ≡ 0 → xs ≡ []
nil_of [] e = refl
nil_of (x ∷ xs) e = absurd (omega (arith, e))

pub no_entries : (m : Database) → m ≡ finmap.empty → finmap.entries m ≡ []
no_entries m e = nil_of (finmap.entries m) (sym (finmap.len-entries m) ∙ ap (λ (d : Database). finmap.len d) e ∙ finmap.len-empty ref_cmp (List ℕ))
