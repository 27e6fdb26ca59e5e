-- How many names are held.
use Rattle.std.proofs.Common.{◌≡◌, ◌<◌, ℕ, List, [], ◌∷◌, length, Bool, true, false, refl, sym, ap, subst, ◌∙◌, arith}
use Rattle.std.specs.Prelude.{map, cond, ◌||◌, Option, Some, None, unwrap_or, ◌↔◌}
use Rattle.std.specs.List.{list_any, IsDistinct, AllByRecursion}
use Rattle.std.specs.Set.{is_member}
use Rattle.std.specs.Ordering.{nat_cmp, is_eq, is_lt, eq_by_cmp}
use Rattle.std.specs.Cmp.{nat_cmp_total, tied_itself, eq_by_cmp_equiv, first_so, second_so}
use Rattle.std.specs.FinMap as finmap
use Rattle.std.specs.FinMap.{is_sorted, find}
use Rattle.std.specs.FinMap.Entries.{below_all}
use Rattle.std.proofs.lemmas.Bool.{or_left}
use Rattle.std.proofs.lemmas.Map.Made.{length-from_same_keys}
use Rattle.collation.specs.Reference.{Resource}
use Rattle.collation.specs.laws.Entries.{true_of, some_entry_of, entry_of}
use Rattle.collation.specs.laws.Order.{is_less}
use Rattle.lock_name.specs.Locks.{resource_cmp, count_of, LockState, locks_of}
use Rattle.lock_name.specs.LockStatements.{Holds}
use Rattle.lock_name.specs.laws.Counting.{resource_cmp_total, resource_cmp-IsAntisymmetric, same_resource}
use Rattle.lock_trie.specs.Held.{Held, held_count, AreHeld}
use Rattle.lock_trie.specs.Holders.{counted, IsEntry}
use Rattle.lock_table.specs.Counted.{is_listed}
use Rattle.lock_table.specs.Tables.{RowsMatchTrie, AreNamesHeld, IsNumberHeld}
use Rattle.lock_table.specs.TableStatements.{NumberHeldTells}

abbrev names_of : {X : Type 0} → List (Resource × X) → List Resource
names_of es = map (λ e. e.0) es

-- ---- the names of the trie

apart : {X : Type 0} (k : Resource) (es : List (Resource × X)) → below_all resource_cmp k es ≡ true → AllByRecursion (λ y. eq_by_cmp resource_cmp k y ≡ false) (names_of es)
apart k [] h = tt
apart k (e ∷ es) h = (ap is_eq (is_less (resource_cmp k e.0) (first_so _ _ h)), apart k es (second_so (is_lt (resource_cmp k e.0)) _ h))

distinct : {X : Type 0} (es : List (Resource × X)) → is_sorted resource_cmp es ≡ true → IsDistinct (eq_by_cmp resource_cmp) (names_of es)
unfolding IsDistinct
distinct [] h = tt
distinct (e ∷ es) h = (apart e.0 es (first_so _ _ h), distinct es (second_so (below_all resource_cmp e.0 es) _ h))

listed_entry : {X : Type 0} (x : Resource) (es : List (Resource × X)) → is_listed x (names_of es) ≡ list_any (λ (e : Resource × X). eq_by_cmp resource_cmp x e.0) es
listed_entry x [] = refl
listed_entry x (e ∷ es) = ap (λ b. eq_by_cmp resource_cmp x e.0 || b) (listed_entry x es)

names_length : {X : Type 0} (es : List (Resource × X)) → length (names_of es) ≡ length es
names_length [] = refl
names_length (e ∷ es) = let rest : length (names_of es) ≡ length es = names_length es in omega arith

-- a name that a job holds has an entry
entry_held : (trie : Held) (job : ℕ) (x : Resource) → 0 < held_count trie job x → (hs : List (ℕ × ℕ)) × (finmap.get trie x ≡ Some hs)
entry_held trie job x h = by_found (finmap.get trie x) refl h
  where
    by_found : (o : Option (List (ℕ × ℕ))) → finmap.get trie x ≡ o → 0 < counted (unwrap_or o []) job → (hs : List (ℕ × ℕ)) × (finmap.get trie x ≡ Some hs)
    by_found None is h = absurd (omega arith)
    by_found (Some hs) is h = (hs, is)

-- and an entry has a holder
first_holder : (hs : List (ℕ × ℕ)) → IsEntry hs → (job : ℕ) × (0 < counted hs job)
first_holder [] e = absurd (omega arith)
first_holder (h ∷ hs) e = (h.0, subst (λ o. 0 < unwrap_or (cond (is_eq o) (Some h.1) (find nat_cmp h.0 hs)) 0) (sym (tied_itself nat_cmp_total h.0)) e.1.1.0)

pub names_held : (trie : Held) (s : LockState) → RowsMatchTrie trie s → AreHeld trie → AreNamesHeld s (names_of (finmap.entries trie))
names_held trie s joined held = record {
  once = distinct (finmap.entries trie) (true_of _ (finmap.entries_sorted trie));
  all = λ job x h.
      let there = entry_held trie job x (subst (λ n. 0 < n) (sym (joined job x)) h) in
      listed_entry x (finmap.entries trie)
      ∙ entry_of resource_cmp resource_cmp_total resource_cmp-IsAntisymmetric (λ e. eq_by_cmp resource_cmp x e.0) trie x there.0 there.1 (ap is_eq (tied_itself resource_cmp_total x));
  only = λ x listed.
      let found = some_entry_of resource_cmp resource_cmp_total resource_cmp-IsAntisymmetric (λ e. eq_by_cmp resource_cmp x e.0) trie (sym (listed_entry x (finmap.entries trie)) ∙ listed) in
      let holder = first_holder found.1.0 (held found.0 found.1.0 found.1.1) in
      let count : 0 < held_count trie holder.0 found.0 = subst (λ o. 0 < counted (unwrap_or o []) holder.0) (sym found.1.1) holder.1 in
      let at_x : 0 < held_count trie holder.0 x = subst (λ n. 0 < held_count trie holder.0 n) (sym (same_resource x found.0 found.1.2)) count in
      (holder.0, subst (λ n. 0 < n) (joined holder.0 x) at_x);
}

pub number_held : (trie : Held) (s : LockState) (n : ℕ) → RowsMatchTrie trie s → AreHeld trie → n ≡ length (finmap.entries trie) → IsNumberHeld s n
number_held trie s n joined held is = (names_of (finmap.entries trie), names_held trie s joined held, is ∙ sym (names_length (finmap.entries trie)))

-- ---- what the number tells

same_truth : (a b : Bool) → (a ≡ true → b ≡ true) → (b ≡ true → a ≡ true) → a ≡ b
same_truth true b onward back = sym (onward refl)
same_truth false true onward back = back refl
same_truth false false onward back = refl

one_number : (s : LockState) (m n : ℕ) → IsNumberHeld s m → IsNumberHeld s n → m ≡ n
one_number s m n a b =
    a.2
    ∙ length-from_same_keys (eq_by_cmp_equiv resource_cmp_total) a.0 b.0 a.1.once b.1.once (λ x. same_truth _ _
    (λ listed. let j = a.1.only x listed in b.1.all j.0 x j.1)
    (λ listed. let j = b.1.only x listed in a.1.all j.0 x j.1))
    ∙ sym b.2

none_listed : (s : LockState) (names : List Resource) → AreNamesHeld s names → ((job : ℕ) (x : Resource) → Holds s job x → ⊥) → 0 ≡ length names
none_listed s [] held none = refl
none_listed s (x ∷ names) held none =
    let j = held.only x (or_left (eq_by_cmp resource_cmp x x) (is_listed x names) (ap is_eq (tied_itself resource_cmp_total x))) in
    absurd (none j.0 x j.1)

none_held : (s : LockState) (names : List Resource) → AreNamesHeld s names → 0 ≡ length names → (job : ℕ) (x : Resource) → Holds s job x → ⊥
none_held s [] held none job x h = let listed : false ≡ true = held.all job x h in absurd (cc)
none_held s (y ∷ names) held none job x h = absurd (omega arith)

pub number_tells : (s : LockState) → NumberHeldTells s
number_tells s = record {
  one = one_number s;
  none = λ n is. (λ zero_is job x h. none_held s is.0 is.1 (sym zero_is ∙ is.2) job x h, λ none. is.2 ∙ sym (none_listed s is.0 is.1 none));
}
