-- Counts made from lists.
use Rattle.std.proofs.Common.{◌≡◌, ◌<◌, ◌≤◌, ◌+◌, ℕ, List, [], ◌∷◌, Bool, true, false, suc, zero, drop, length, refl, sym, ap, subst, ◌∙◌, arith}
use Rattle.std.specs.Prelude.{cond, filter, ◌||◌, nat_lt}
use Rattle.std.specs.List.{list_any}
use Rattle.std.specs.Ordering.{is_eq, eq_by_cmp}
use Rattle.std.specs.Cmp.{tied_itself}
use Rattle.std.proofs.lemmas.Bool.{or_left, or_right, lt-ltb, ltb-true}
use Rattle.std.proofs.Math.Seq.{drop-cons}
use Rattle.std.proofs.Math.ListN.{get_or}
use Rattle.collation.specs.Reference.{Resource}
use Rattle.lock_name.specs.Locks.{resource_cmp, Counts, count_of, more_of}
use Rattle.lock_name.specs.LockStatements.{times}
use Rattle.lock_name.specs.laws.Counting.{resource_cmp_total, same_resource, counts_tell}
use Rattle.lock_table.specs.Counted.{is_over, is_listed}

pub once_itself : (n : Resource) (ns : List Resource) → 1 ≤ times n (n ∷ ns)
once_itself n ns = subst (λ b. 1 ≤ length (cond b (n ∷ filter (eq_by_cmp resource_cmp n) ns) (filter (eq_by_cmp resource_cmp n) ns))) (sym (ap is_eq (tied_itself resource_cmp_total n))) (omega arith)

-- a full count that is asked for once more goes over
goes_over : (all : Counts) (n : Resource) (ns : List Resource) (counts : Counts) → more_of (n ∷ ns) counts ≡ all → 65535 ≤ count_of counts n → nat_lt 65535 (count_of all n) ≡ true
goes_over all n ns counts is full =
    let laws = counts_tell n in
    let sum : count_of (more_of (n ∷ ns) counts) n ≡ count_of counts n + times n (n ∷ ns) = laws.more (n ∷ ns) counts in
    let once : 1 ≤ times n (n ∷ ns) = once_itself n ns in
    let same : count_of (more_of (n ∷ ns) counts) n ≡ count_of all n = ap (λ c. count_of c n) is in
    lt-ltb 65535 (count_of all n) (omega arith)

-- small counts are not over
pub none_over : (counts : Counts) (ns : List Resource) → ((n : Resource) → count_of counts n ≤ 65535) → list_any (λ n. nat_lt 65535 (count_of counts n)) ns ≡ false
none_over counts [] small = refl
none_over counts (n ∷ ns) small = by_test (nat_lt 65535 (count_of counts n)) refl (none_over counts ns small)
  where
    by_test : (b : Bool) → nat_lt 65535 (count_of counts n) ≡ b → list_any (λ x. nat_lt 65535 (count_of counts x)) ns ≡ false → (b || list_any (λ x. nat_lt 65535 (count_of counts x)) ns) ≡ false
    by_test true e rest = let over : 65535 < count_of counts n = ltb-true 65535 (count_of counts n) e in let h : count_of counts n ≤ 65535 = small n in absurd (omega arith)
    by_test false e rest = rest

-- a test that passes from the i-th on passes
any_behind : (P : Resource → Bool) (i : ℕ) (ns : List Resource) → list_any P (drop i ns) ≡ true → list_any P ns ≡ true
any_behind P zero ns h = h
any_behind P (suc i) [] h = h
any_behind P (suc i) (n ∷ ns) h = or_right (P n) _ (any_behind P i ns h)

-- where a name that is full comes next
pub over_at : (ns : List Resource) (old now : Counts) (i : ℕ) (n : Resource) → i < length ns → n ≡ get_or ns i n → more_of (drop i ns) now ≡ more_of ns old → 65535 ≤ count_of now n → list_any (is_over ns old) ns ≡ true
over_at ns old now i n h is whole full =
    let front : drop i ns ≡ n ∷ drop (suc i) ns = drop-cons ns i n h ∙ ap (λ z. z ∷ drop (suc i) ns) (sym is) in
    let over = goes_over (more_of ns old) n (drop (suc i) ns) now (ap (λ z. more_of z now) (sym front) ∙ whole) full in
    any_behind (is_over ns old) i ns (ap (list_any (is_over ns old)) front ∙ or_left (is_over ns old n) _ over)

-- ---- names that stand in a list

pub unnamed_times : (x : Resource) (ns : List Resource) → is_listed x ns ≡ false → times x ns ≡ 0
unnamed_times x [] h = refl
unnamed_times x (n ∷ ns) h = by_test (eq_by_cmp resource_cmp x n) h (unnamed_times x ns)
  where
    by_test : (b : Bool) → (b || is_listed x ns) ≡ false → (is_listed x ns ≡ false → times x ns ≡ 0) → length (cond b (n ∷ filter (eq_by_cmp resource_cmp x) ns) (filter (eq_by_cmp resource_cmp x) ns)) ≡ 0
    by_test true h rest = absurd (cc)
    by_test false h rest = rest h

pub times_named : (x : Resource) (ns : List Resource) → 0 < times x ns → is_listed x ns ≡ true
times_named x ns h = by_test (is_listed x ns) refl
  where
    by_test : (b : Bool) → is_listed x ns ≡ b → is_listed x ns ≡ true
    by_test true e = e
    by_test false e = let none : times x ns ≡ 0 = unnamed_times x ns e in absurd (omega arith)

-- one that stands in the list and passes
any_named : (P : Resource → Bool) (x : Resource) (ns : List Resource) → 0 < times x ns → P x ≡ true → list_any P ns ≡ true
any_named P x [] h p = absurd (omega arith)
any_named P x (n ∷ ns) h p = by_test (eq_by_cmp resource_cmp x n) refl h (any_named P x ns)
  where
    by_test : (b : Bool) → eq_by_cmp resource_cmp x n ≡ b → 0 < length (cond b (n ∷ filter (eq_by_cmp resource_cmp x) ns) (filter (eq_by_cmp resource_cmp x) ns)) → (0 < times x ns → P x ≡ true → list_any P ns ≡ true) → (P n || list_any P ns) ≡ true
    by_test true e h rest = or_left (P n) _ (ap P (sym (same_resource x n e)) ∙ p)
    by_test false e h rest = or_right (P n) _ (rest h p)

some_named : (P : Resource → Bool) (ns : List Resource) → list_any P ns ≡ true → (x : Resource) × (0 < times x ns) × (P x ≡ true)
some_named P [] any = absurd (cc)
some_named P (n ∷ ns) any = by_test (P n) refl any (some_named P ns)
  where
    more_times : (x : Resource) (b : Bool) → 0 < times x ns → 0 < length (cond b (n ∷ filter (eq_by_cmp resource_cmp x) ns) (filter (eq_by_cmp resource_cmp x) ns))
    more_times x true h = omega arith
    more_times x false h = h

    by_test : (b : Bool) → P n ≡ b → (b || list_any P ns) ≡ true → (list_any P ns ≡ true → (x : Resource) × (0 < times x ns) × (P x ≡ true)) → (x : Resource) × (0 < times x (n ∷ ns)) × (P x ≡ true)
    by_test true e any rest = let once : 1 ≤ times n (n ∷ ns) = once_itself n ns in (n, omega arith, e)
    by_test false e any rest = let t = rest any in (t.0, more_times t.0 (eq_by_cmp resource_cmp t.0 n) t.1, t.2)

-- what goes over in one list goes over in another
pub over_along : (b w : Counts) (over ns : List Resource) → ((x : Resource) → 0 < times x over → 65535 < count_of b x + times x over → (0 < times x ns) × (65535 < count_of w x + times x ns)) → list_any (is_over over b) over ≡ true → list_any (is_over ns w) ns ≡ true
over_along b w over ns along any =
    let t = some_named (is_over over b) over any in
    let high : 65535 < count_of (more_of over b) t.0 = ltb-true 65535 _ t.2 in
    let laws = counts_tell t.0 in
    let sum : count_of (more_of over b) t.0 ≡ count_of b t.0 + times t.0 over = laws.more over b in
    let both = along t.0 t.1 (omega arith) in
    let goes : count_of (more_of ns w) t.0 ≡ count_of w t.0 + times t.0 ns = laws.more ns w in
    let higher : 65535 < count_of w t.0 + times t.0 ns = both.1 in
    any_named (is_over ns w) t.0 ns both.0 (lt-ltb 65535 _ (omega arith))

-- counts that bear a list
pub borne : (w : Counts) (ns : List Resource) → ((x : Resource) → count_of w x + times x ns ≤ 65535) → list_any (is_over ns w) ns ≡ false
borne w ns small = none_over (more_of ns w) ns (λ x.
    let laws = counts_tell x in
    let sum : count_of (more_of ns w) x ≡ count_of w x + times x ns = laws.more ns w in
    let h : count_of w x + times x ns ≤ 65535 = small x in
    omega arith)

-- counts that tell the same of the names in the list
pub over_same : (b w : Counts) (ns : List Resource) (t : Bool) → ((x : Resource) → is_listed x ns ≡ true → count_of b x ≡ count_of w x) → list_any (is_over ns b) ns ≡ t → list_any (is_over ns w) ns ≡ t
over_same b w ns true same any = over_along b w ns ns (λ x h high. let e : count_of b x ≡ count_of w x = same x (times_named x ns h) in (h, omega arith)) any
over_same b w ns false same none = by_test (list_any (is_over ns w) ns) refl
  where
    by_test : (t : Bool) → list_any (is_over ns w) ns ≡ t → list_any (is_over ns w) ns ≡ false
    by_test true e = let any : list_any (is_over ns b) ns ≡ true = over_along w b ns ns (λ x h high. let e : count_of b x ≡ count_of w x = same x (times_named x ns h) in (h, omega arith)) e in absurd (cc)
    by_test false e = e
