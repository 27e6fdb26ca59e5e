-- What the trie has of a job after each change.
use Rattle.std.proofs.Common.{zero, suc, ◌≡◌, ◌<◌, ◌≤◌, ◌+◌, ℕ, List, [], ◌∷◌, length, Bool, true, false, refl, sym, ap, subst, ◌∙◌, arith}
use Rattle.std.specs.Prelude.{cond, filter, ◌-◌, min}
use Rattle.std.specs.Ordering.{eq_by_cmp}
use Rattle.collation.specs.Reference.{Resource}
use Rattle.lock_name.specs.Locks.{resource_cmp, Counts, count_of, more_of, fewer_of}
use Rattle.lock_name.specs.LockStatements.{times}
use Rattle.lock_name.specs.laws.Counting.{counts_tell}
use Rattle.lock_trie.specs.Held.{Held, held_count}
use Rattle.lock_table.specs.Counted.{AreCounts, AreLowered, is_listed}
use Rattle.lock_table.specs.Rows.{IsHeldIn}
use Rattle.lock_table.proofs.Lists.{unnamed_times}

pub kept_again : (t : Held) (job : ℕ) (old new : Counts) → new ≡ old → IsHeldIn t job old → IsHeldIn t job new
kept_again t job old new is kept = subst (IsHeldIn t job) (sym is) kept

-- what a list adds, and what it comes to
sum_is : (want new : Counts) (ns : List Resource) → new ≡ more_of ns want → (x : Resource) → count_of new x ≡ count_of want x + times x ns
sum_is want new ns is x = let laws = counts_tell x in ap (λ c. count_of c x) is ∙ laws.more ns want

pub borne_by : (old new : Counts) (ns : List Resource) → new ≡ more_of ns old → AreCounts new → (x : Resource) → count_of old x + times x ns ≤ 65535
borne_by old new ns is are x = let sum = sum_is old new ns is x in let small : count_of new x ≤ 65535 = are.small x in omega arith

-- the trie can have the list too
pub held_fits : (t : Held) (job : ℕ) (held : Counts) (ns : List Resource) → IsHeldIn t job held → ((x : Resource) → count_of held x + times x ns ≤ 65535) → (x : Resource) → held_count t job x + times x ns ≤ 65535
held_fits t job held ns kept small x = let k : held_count t job x ≡ count_of held x = kept x in let s : count_of held x + times x ns ≤ 65535 = small x in omega arith

pub kept_more : (old t : Held) (job : ℕ) (held new : Counts) (ns : List Resource) → new ≡ more_of ns held → IsHeldIn old job held → ((x : Resource) → held_count t job x ≡ held_count old job x + times x ns) → IsHeldIn t job new
kept_more old t job held new ns is kept added x = added x ∙ ap (λ v. v + times x ns) (kept x) ∙ sym (sum_is held new ns is x)

pub kept_undone : (old t : Held) (job : ℕ) (held new : Counts) → new ≡ held → IsHeldIn old job held → ((x : Resource) → held_count t job x ≡ held_count old job x) → IsHeldIn t job new
kept_undone old t job held new is kept same x = same x ∙ kept x ∙ ap (λ c. count_of c x) (sym is)

-- ---- counts with room for a list

times_most : (x : Resource) (ns : List Resource) → times x ns ≤ length ns
times_most x [] = omega arith
times_most x (n ∷ ns) = by_test (eq_by_cmp resource_cmp x n) (times_most x ns)
  where
    by_test : (b : Bool) → times x ns ≤ length ns → length (cond b (n ∷ filter (eq_by_cmp resource_cmp x) ns) (filter (eq_by_cmp resource_cmp x) ns)) ≤ suc (length ns)
    by_test true h = omega arith
    by_test false h = omega arith

pub roomy : (held : Counts) (ns : List Resource) → AreCounts held → ((x : Resource) → is_listed x ns ≡ true → count_of held x + length ns ≤ 65535) → (x : Resource) → count_of held x + times x ns ≤ 65535
roomy held ns are room x = by_test (is_listed x ns) refl (room x) (are.small x) (times_most x ns)
  where
    by_test : (b : Bool) → is_listed x ns ≡ b → (b ≡ true → count_of held x + length ns ≤ 65535) → count_of held x ≤ 65535 → times x ns ≤ length ns → count_of held x + times x ns ≤ 65535
    by_test true e room small most = let r = room refl in omega arith
    by_test false e room small most = let none : times x ns ≡ 0 = unnamed_times x ns e in omega arith

-- a trie that is lowered to fewer counts
pub kept_less : (old t : Held) (job : ℕ) (held new others : Counts) → ((x : Resource) → count_of new x ≤ count_of held x) → ((x : Resource) → count_of others x ≡ 0 → count_of new x ≡ count_of held x) → IsHeldIn old job held
    → AreLowered (held_count old job) (held_count t job) (count_of new) → ((x : Resource) → 0 < count_of others x → held_count t job x ≤ count_of new x) → IsHeldIn t job new
kept_less old t job held new others down same kept lowered reached x = by_count (count_of others x) refl (kept x) (down x) (same x) (lowered.below x) (lowered.least x) (reached x)
  where
    by_count : (n : ℕ) → count_of others x ≡ n → held_count old job x ≡ count_of held x → count_of new x ≤ count_of held x → (count_of others x ≡ 0 → count_of new x ≡ count_of held x) → held_count t job x ≤ held_count old job x
        → min (held_count old job x) (count_of new x) ≤ held_count t job x → (0 < count_of others x → held_count t job x ≤ count_of new x) → held_count t job x ≡ count_of new x
    by_count zero e was down same below least reached = let s = same e in omega arith
    by_count (suc n) e was down same below least reached = let low = reached (omega arith) in omega arith

-- a trie that is lowered to counts that are no higher than what was held
pub just_kept : (old t : Held) (job : ℕ) (held before new want : Counts) → before ≡ held → new ≡ want → ((x : Resource) → count_of want x ≤ count_of held x) → IsHeldIn old job held → AreLowered (held_count old job) (held_count t job) (count_of new)
    → ((x : Resource) → 0 < count_of before x → held_count t job x ≤ count_of new x) → IsHeldIn t job new
just_kept old t job held before new want is new_is low kept lowered reached = kept_less old t job held new before
    (λ x. let w : count_of new x ≡ count_of want x = ap (λ c. count_of c x) new_is in let l : count_of want x ≤ count_of held x = low x in omega arith)
    (λ x none.
    let w : count_of new x ≡ count_of want x = ap (λ c. count_of c x) new_is in
    let l : count_of want x ≤ count_of held x = low x in
    let z : count_of held x ≡ 0 = ap (λ c. count_of c x) (sym is) ∙ none in
    omega arith) kept lowered reached

pub kept_fewer : (old t : Held) (job : ℕ) (held new : Counts) (ns : List Resource) → new ≡ fewer_of ns held → IsHeldIn old job held → ((x : Resource) → held_count t job x ≡ held_count old job x - times x ns) → IsHeldIn t job new
kept_fewer old t job held new ns is kept taken x =
    let laws = counts_tell x in
    taken x ∙ ap (λ v. v - times x ns) (kept x) ∙ sym (ap (λ c. count_of c x) is ∙ laws.fewer ns held)
