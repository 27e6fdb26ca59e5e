-- Lists of jobs with their counts.
use Rattle.std.proofs.Common.{zero, suc, ◌≡◌, ◌≤◌, ◌<◌, ◌+◌, ℕ, List, [], ◌∷◌, ◌++◌, Bool, true, false, length, take, get_or, slice_set, refl, sym, ap, subst, ◌∙◌, arith}
use Rattle.std.specs.Prelude.{cond, not, ◌||◌, ◌==◌, Option, Some, None, unwrap_or}
use Rattle.std.specs.List.{remove, refill}
use Rattle.std.specs.Ordering.{nat_cmp, is_eq, eq_by_cmp}
use Rattle.std.specs.Cmp.{nat_cmp_total, tied_itself, eq_by_cmp_equiv}
use Rattle.std.specs.FinMap.{nat_cmp-IsAntisymmetric}
use Rattle.std.specs.FinMap.Entries.{find, find-append}
use Rattle.std.proofs.lemmas.Bool.{eq-eqb, eqb-true}
use Rattle.std.proofs.lemmas.List.{length-set}
use Rattle.collation.specs.laws.Order.{is_equal}
use Rattle.lock_trie.specs.Holders.{counted, has_other, AreHolders, IsCounted, IsFirstAt}

abbrev pub Jobs : Type 0
Jobs = List (ℕ × ℕ)

pub same_job : (j k : ℕ) → eq_by_cmp nat_cmp j k ≡ true → j ≡ k
same_job j k e = nat_cmp-IsAntisymmetric j k (is_equal (nat_cmp j k) e)

pub job_itself : (j : ℕ) → eq_by_cmp nat_cmp j j ≡ true
job_itself j = ap is_eq (tied_itself nat_cmp_total j)

pub other_job : (j k : ℕ) → (j ≡ k → ⊥) → eq_by_cmp nat_cmp j k ≡ false
other_job j k ne = by_test (eq_by_cmp nat_cmp j k) refl
  where
    by_test : (b : Bool) → eq_by_cmp nat_cmp j k ≡ b → eq_by_cmp nat_cmp j k ≡ false
    by_test true e = absurd (ne (same_job j k e))
    by_test false e = e

turned_job : (j k : ℕ) → eq_by_cmp nat_cmp j k ≡ eq_by_cmp nat_cmp k j
turned_job j k = let laws = eq_by_cmp_equiv nat_cmp_total in laws.symm j k

-- a job that isn't found is neither the first nor found behind
record Missed (job : ℕ) (h : ℕ × ℕ) (hs : Jobs) : Type 0 where
  first : eq_by_cmp nat_cmp job h.0 ≡ false
  behind : find nat_cmp job hs ≡ None

missed : (job : ℕ) (h : ℕ × ℕ) (hs : Jobs) → find nat_cmp job (h ∷ hs) ≡ None → Missed job h hs
missed job h hs is = by_test (eq_by_cmp nat_cmp job h.0) refl is
  where
    by_test : (b : Bool) → eq_by_cmp nat_cmp job h.0 ≡ b → cond b (Some h.1) (find nat_cmp job hs) ≡ None → Missed job h hs
    by_test true e is = absurd (cc)
    by_test false e is = record { first = e; behind = is }

-- ---- where a job stands

pub none_yet : (job i : ℕ) (hs : Jobs) (d : ℕ × ℕ) → i < length hs → find nat_cmp job (take i hs) ≡ None → ((get_or hs i d).0 ≡ job → ⊥) → find nat_cmp job (take (suc i) hs) ≡ None
none_yet job i [] d l none ne = absurd (omega arith)
none_yet job zero (h ∷ hs) d l none ne = ap (λ b. cond b (Some h.1) None) (other_job job h.0 (λ e. ne (sym e)))
none_yet job (suc i) (h ∷ hs) d l none ne =
    let m = missed job h (take i hs) none in
    rw m.first (none_yet job i hs d (omega arith) m.behind ne)

pub all_looked_at : (job i : ℕ) (hs : Jobs) → length hs ≤ i → find nat_cmp job (take i hs) ≡ None → find nat_cmp job hs ≡ None
all_looked_at job i [] l none = refl
all_looked_at job zero (h ∷ hs) l none = absurd (omega arith)
all_looked_at job (suc i) (h ∷ hs) l none =
    let m = missed job h (take i hs) none in
    rw m.first (all_looked_at job i hs (omega arith) m.behind)

pub found_here : (job i : ℕ) (hs : Jobs) (d : ℕ × ℕ) → IsFirstAt hs job i → find nat_cmp job hs ≡ Some (get_or hs i d).1
found_here job i [] d at = let l : i < 0 = at.within in absurd (omega arith)
found_here job zero (h ∷ hs) d at = ap (λ b. cond b (Some h.1) (find nat_cmp job hs)) (subst (λ j. eq_by_cmp nat_cmp job j ≡ true) (sym (at.here d)) (job_itself job))
found_here job (suc i) (h ∷ hs) d at =
    let m = missed job h (take i hs) at.before in
    let l : suc i < suc (length hs) = at.within in
    rw m.first (found_here job i hs d (record { within = omega arith; here = at.here; before = m.behind }))

-- ---- a job's count is put

module _ (job c : ℕ) where
  swapped : (q : ℕ) (h : ℕ × ℕ) (x y : Option ℕ) → eq_by_cmp nat_cmp job h.0 ≡ false → cond (eq_by_cmp nat_cmp q h.0) (Some h.1) (cond (eq_by_cmp nat_cmp q job) x y) ≡ cond (eq_by_cmp nat_cmp q job) x (cond (eq_by_cmp nat_cmp q h.0) (Some h.1) y)
  swapped q h x y apart = by_tests (eq_by_cmp nat_cmp q h.0) (eq_by_cmp nat_cmp q job) refl refl
    where
      by_tests : (a b : Bool) → eq_by_cmp nat_cmp q h.0 ≡ a → eq_by_cmp nat_cmp q job ≡ b → cond a (Some h.1) (cond b x y) ≡ cond b x (cond a (Some h.1) y)
      by_tests true true e f = let t : true ≡ false = sym e ∙ ap (λ j. eq_by_cmp nat_cmp j h.0) (same_job q job f) ∙ apart in absurd (cc)
      by_tests true false e f = refl
      by_tests false b e f = refl

  pub found_put : (hs : Jobs) (i k : ℕ) → k ≡ job → IsFirstAt hs job i → (q : ℕ) → find nat_cmp q (slice_set hs i (k, c)) ≡ cond (eq_by_cmp nat_cmp q job) (Some c) (find nat_cmp q hs)
  found_put [] i k is at q = let l : i < 0 = at.within in absurd (omega arith)
  found_put (h ∷ hs) zero k is at q = by_test (eq_by_cmp nat_cmp q job) (ap (eq_by_cmp nat_cmp q) is) (ap (eq_by_cmp nat_cmp q) (at.here (0, 0)))
    where
      by_test : (b : Bool) → eq_by_cmp nat_cmp q k ≡ b → eq_by_cmp nat_cmp q h.0 ≡ b → cond (eq_by_cmp nat_cmp q k) (Some c) (find nat_cmp q hs) ≡ cond b (Some c) (cond (eq_by_cmp nat_cmp q h.0) (Some h.1) (find nat_cmp q hs))
      by_test true e f = ap (λ b. cond b (Some c) (find nat_cmp q hs)) e
      by_test false e f = ap (λ b. cond b (Some c) (find nat_cmp q hs)) e ∙ sym (ap (λ b. cond b (Some h.1) (find nat_cmp q hs)) f)
  found_put (h ∷ hs) (suc i) k is at q =
      let m = missed job h (take i hs) at.before in
      let l : suc i < suc (length hs) = at.within in
      ap (cond (eq_by_cmp nat_cmp q h.0) (Some h.1)) (found_put hs i k is (record { within = omega arith; here = at.here; before = m.behind }) q) ∙ swapped q h (Some c) (find nat_cmp q hs) m.first

  pub are_put : (hs : Jobs) (i k : ℕ) → k ≡ job → 0 < c → c ≤ 65535 → IsFirstAt hs job i → AreHolders hs → AreHolders (slice_set hs i (k, c))
  are_put [] i k is some small at are = let l : i < 0 = at.within in absurd (omega arith)
  are_put (h ∷ hs) zero k is some small at are = (subst (λ j. find nat_cmp j hs ≡ None) (at.here (0, 0) ∙ sym is) are.0, (some, small), are.2)
  are_put (h ∷ hs) (suc i) k is some small at are =
      let m = missed job h (take i hs) at.before in
      let l : suc i < suc (length hs) = at.within in
      let at_next : IsFirstAt hs job i = record { within = omega arith; here = at.here; before = m.behind } in (
        found_put hs i k is at_next h.0 ∙ ap (λ b. cond b (Some c) (find nat_cmp h.0 hs)) (turned_job h.0 job ∙ m.first) ∙ are.0,
        are.1,
        are_put hs i k is some small at_next are.2,
      )

  -- one that wasn't there is added
  pub are_added : (hs : Jobs) → 0 < c → c ≤ 65535 → find nat_cmp job hs ≡ None → AreHolders hs → AreHolders (hs ++ (job, c) ∷ [])
  are_added [] some small none are = (refl, (some, small), tt)
  are_added (h ∷ hs) some small none are =
      let m = missed job h hs none in
      (find-append nat_cmp nat_cmp_total hs job c h.0 m.behind ∙ ap (λ b. cond b (Some c) (find nat_cmp h.0 hs)) (turned_job h.0 job ∙ m.first) ∙ are.0, are.1, are_added hs some small m.behind are.2)

-- ---- a job is taken out

pub found_without : (hs : Jobs) (job i : ℕ) → IsFirstAt hs job i → AreHolders hs → (q : ℕ) → find nat_cmp q (remove hs i) ≡ cond (eq_by_cmp nat_cmp q job) None (find nat_cmp q hs)
found_without [] job i at are q = let l : i < 0 = at.within in absurd (omega arith)
found_without (h ∷ hs) job zero at are q = by_test (eq_by_cmp nat_cmp q job) refl (ap (eq_by_cmp nat_cmp q) (at.here (0, 0)))
  where
    by_test : (b : Bool) → eq_by_cmp nat_cmp q job ≡ b → eq_by_cmp nat_cmp q h.0 ≡ eq_by_cmp nat_cmp q job → find nat_cmp q hs ≡ cond b None (cond (eq_by_cmp nat_cmp q h.0) (Some h.1) (find nat_cmp q hs))
    by_test true e f = ap (λ j. find nat_cmp j hs) (same_job q job e ∙ sym (at.here (0, 0))) ∙ are.0
    by_test false e f = sym (ap (λ b. cond b (Some h.1) (find nat_cmp q hs)) (f ∙ e))
found_without (h ∷ hs) job (suc i) at are q =
    let m = missed job h (take i hs) at.before in
    let l : suc i < suc (length hs) = at.within in
    ap (cond (eq_by_cmp nat_cmp q h.0) (Some h.1)) (found_without hs job i (record { within = omega arith; here = at.here; before = m.behind }) are.2 q) ∙ swapped job 0 q h None (find nat_cmp q hs) m.first

pub are_without : (hs : Jobs) (job i : ℕ) → IsFirstAt hs job i → AreHolders hs → AreHolders (remove hs i)
are_without [] job i at are = let l : i < 0 = at.within in absurd (omega arith)
are_without (h ∷ hs) job zero at are = are.2
are_without (h ∷ hs) job (suc i) at are =
    let m = missed job h (take i hs) at.before in
    let l : suc i < suc (length hs) = at.within in
    let at_next : IsFirstAt hs job i = record { within = omega arith; here = at.here; before = m.behind } in
    (found_without hs job i at_next are.2 h.0 ∙ ap (λ b. cond b None (find nat_cmp h.0 hs)) (turned_job h.0 job ∙ m.first) ∙ are.0, are.1, are_without hs job i at_next are.2)

-- ---- counts

counted_as : (job c : ℕ) (old new : Jobs) (o : Option ℕ) → unwrap_or o 0 ≡ c → ((q : ℕ) → find nat_cmp q new ≡ cond (eq_by_cmp nat_cmp q job) o (find nat_cmp q old)) → IsCounted old new job c
counted_as job c old new o is found q = ap (λ p. unwrap_or p 0) (found q) ∙ by_test (eq_by_cmp nat_cmp q job)
  where
    by_test : (b : Bool) → unwrap_or (cond b o (find nat_cmp q old)) 0 ≡ cond b c (unwrap_or (find nat_cmp q old) 0)
    by_test true = is
    by_test false = refl

pub count_here : (hs : Jobs) (job i : ℕ) (d : ℕ × ℕ) → IsFirstAt hs job i → counted hs job ≡ (get_or hs i d).1
count_here hs job i d at = ap (λ o. unwrap_or o 0) (found_here job i hs d at)

pub counted_put : (hs : Jobs) (job i k c : ℕ) → k ≡ job → IsFirstAt hs job i → IsCounted hs (slice_set hs i (k, c)) job c
counted_put hs job i k c is at = counted_as job c hs _ (Some c) refl (found_put job c hs i k is at)

pub counted_added : (hs : Jobs) (job c : ℕ) → find nat_cmp job hs ≡ None → IsCounted hs (hs ++ (job, c) ∷ []) job c
counted_added hs job c none = counted_as job c hs _ (Some c) refl (λ q. find-append nat_cmp nat_cmp_total hs job c q none)

pub counted_without : (hs : Jobs) (job i c : ℕ) → c ≡ 0 → IsFirstAt hs job i → AreHolders hs → IsCounted hs (remove hs i) job c
counted_without hs job i c is at are = counted_as job c hs _ None (sym is) (found_without hs job i at are)

pub counted_same : (hs : Jobs) (job c : ℕ) → counted hs job ≡ c → IsCounted hs hs job c
counted_same hs job c is q = by_test (eq_by_cmp nat_cmp q job) refl
  where
    by_test : (b : Bool) → eq_by_cmp nat_cmp q job ≡ b → counted hs q ≡ cond b c (counted hs q)
    by_test true e = ap (counted hs) (same_job q job e) ∙ is
    by_test false e = refl

-- each count that is there is from 1 to 65,535
pub small_here : (hs : Jobs) (i : ℕ) (d : ℕ × ℕ) → i < length hs → AreHolders hs → (0 < (get_or hs i d).1) × ((get_or hs i d).1 ≤ 65535)
small_here [] i d l are = absurd (omega arith)
small_here (h ∷ hs) zero d l are = are.1
small_here (h ∷ hs) (suc i) d l are = small_here hs i d (omega arith) are.2

-- ---- a job other than one

pub other_counted : (hs : Jobs) (job : ℕ) → AreHolders hs → has_other hs job ≡ true → (other : ℕ) × (other ≡ job → ⊥) × (0 < counted hs other)
other_counted [] job are e = absurd (cc)
other_counted (h ∷ hs) job are e = by_test (h.0 == job) refl e (other_counted hs job are.2)
  where
    later : h.0 ≡ job → (other : ℕ) × (other ≡ job → ⊥) × (0 < counted hs other) → (other : ℕ) × (other ≡ job → ⊥) × (0 < counted (h ∷ hs) other)
    later is o = (o.0, o.1, subst (λ b. 0 < unwrap_or (cond b (Some h.1) (find nat_cmp o.0 hs)) 0) (sym (other_job o.0 h.0 (λ s. o.1 (s ∙ is)))) o.2)

    by_test : (b : Bool) → (h.0 == job) ≡ b → (not b || has_other hs job) ≡ true → (has_other hs job ≡ true → (other : ℕ) × (other ≡ job → ⊥) × (0 < counted hs other)) → (other : ℕ) × (other ≡ job → ⊥) × (0 < counted (h ∷ hs) other)
    by_test true t e rest = later (eqb-true h.0 job t) (rest e)
    by_test false t e rest = (h.0, (λ s. let f : true ≡ false = sym (eq-eqb h.0 job s) ∙ t in absurd (cc)), subst (λ b. 0 < unwrap_or (cond b (Some h.1) (find nat_cmp h.0 hs)) 0) (sym (job_itself h.0)) are.1.0)

pub none_other : (hs : Jobs) (job other : ℕ) → (other ≡ job → ⊥) → has_other hs job ≡ false → counted hs other ≡ 0
none_other [] job other ne e = refl
none_other (h ∷ hs) job other ne e = by_test (h.0 == job) refl e (none_other hs job other ne)
  where
    by_test : (b : Bool) → (h.0 == job) ≡ b → (not b || has_other hs job) ≡ false → (has_other hs job ≡ false → counted hs other ≡ 0) → counted (h ∷ hs) other ≡ 0
    by_test false t e rest = absurd (cc)
    by_test true t e rest = ap (λ b. unwrap_or (cond b (Some h.1) (find nat_cmp other hs)) 0) (other_job other h.0 (λ s. ne (s ∙ eqb-true h.0 job t))) ∙ rest e

-- ---- what a call leaves

-- as much written as there was
refilled : (xs ws : Jobs) → length ws ≡ length xs → refill (length xs) xs ws ≡ ws
refilled [] [] e = refl
refilled [] (w ∷ ws) e = absurd (omega arith)
refilled (x ∷ xs) [] e = absurd (omega arith)
refilled (x ∷ xs) (w ∷ ws) e = ap (λ zs. w ∷ zs) (refilled xs ws (omega arith))

-- a job's count is now c, others are as they were, and all are holders
pub record IsLeft (old new : Jobs) (job c : ℕ) : Type 0 where
  pub count : IsCounted old new job c
  pub are : AreHolders new

abbrev pub written : Jobs → Jobs → ℕ → ℕ → Jobs
written items now i v = refill (length items) items (slice_set now i ((get_or now i (0, 0)).0, v))

module _ (items all now self : Jobs) (job i : ℕ) (all_is : all ≡ items) (now_is : now ≡ items) (self_is : items ≡ self) (at : IsFirstAt all job i) (are : AreHolders items) where
  pub at_items : IsFirstAt items job i
  at_items = subst (λ z. IsFirstAt z job i) all_is at

  -- the count at the place
  pub count_now : (get_or now i (0, 0)).1 ≡ counted self job
  count_now = ap (λ (z : Jobs). (get_or {A = ℕ × ℕ} z i (0, 0)).1) now_is ∙ sym (count_here items job i (0, 0) at_items) ∙ ap (λ z. counted z job) self_is

  pub small_now : (0 < (get_or now i (0, 0)).1) × ((get_or now i (0, 0)).1 ≤ 65535)
  small_now = subst (λ (z : Jobs). (0 < (get_or {A = ℕ × ℕ} z i (0, 0)).1) × ((get_or {A = ℕ × ℕ} z i (0, 0)).1 ≤ 65535)) (sym now_is) (small_here items i (0, 0) at_items.within are)

  pub left_put : (v c : ℕ) → v ≡ c → 0 < v → v ≤ 65535 → IsLeft self (written items now i v) job c
  left_put v c is some small =
      subst (λ z. IsLeft self (written items now i v) job z) is
      (subst (λ z. IsLeft z (written items now i v) job v) self_is (subst (λ z. IsLeft items (written items z i v) job v) (sym now_is)
      (subst (λ new. IsLeft items new job v) (sym (refilled items (slice_set items i ((get_or items i (0, 0)).0, v)) (length-set items i _)))
      (record { count = counted_put items job i _ v (at_items.here (0, 0)) at_items; are = are_put job v items i _ (at_items.here (0, 0)) some small at_items are }))))

  pub left_without : (new : Jobs) (c : ℕ) → c ≡ 0 → new ≡ remove items i → IsLeft self new job c
  left_without new c is new_is =
      subst (λ z. IsLeft z new job c) self_is (subst (λ z. IsLeft items z job c) (sym new_is) (record { count = counted_without items job i c is at_items are; are = are_without items job i at_items are }))

pub left_added : (items all self new : Jobs) (job n : ℕ) → all ≡ items → items ≡ self → find nat_cmp job all ≡ None → AreHolders items → 0 < n → n ≤ 65535 → new ≡ items ++ (job, n) ∷ [] → IsLeft self new job (counted self job + n)
left_added items all self new job n all_is self_is none are some small new_is =
    let missing : find nat_cmp job items ≡ None = ap (find nat_cmp job) (sym all_is) ∙ none in
    let zero_before : counted self job ≡ 0 = ap (λ z. counted z job) (sym self_is) ∙ ap (λ o. unwrap_or o 0) missing in
    let c_is : n ≡ counted self job + n = omega arith in
    subst (λ c. IsLeft self new job c) c_is (subst (λ z. IsLeft z new job n) self_is (subst (λ z. IsLeft items z job n) (sym new_is) (record { count = counted_added items job n missing; are = are_added job n items some small missing are })))

-- where a count above 0 is left somebody is
pub some_left : (old new : Jobs) (job c : ℕ) → IsLeft old new job c → 0 < c → 0 < length new
some_left old [] job c left some =
    let z : 0 ≡ c = left.count job ∙ ap (λ b. cond b c (counted old job)) (job_itself job) in
    absurd (omega arith)
some_left old (h ∷ hs) job c left some = omega arith
