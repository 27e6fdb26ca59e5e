-- The keys that are next in turn: each is placed, none stands twice, and all are there where the limit allows it.
use Rattle.std.proofs.Common.{◌≡◌, ℕ, ◌+◌, ◌≤◌, List, [], ◌∷◌, ◌++◌, length, refl, sym, ap, ◌∙◌, subst, arith}
use Rattle.std.proofs.lemmas.List.{take-append-drop, length-append, length-map, length-take, take_all}
use Rattle.std.proofs.lemmas.List.Folds.{list_any-append}
use Rattle.std.proofs.lemmas.Map.Views.{any-filter_same}
use Rattle.std.specs.Prelude.{Bool, true, false, not, ◌||◌, ◌&&◌, cond, min, filter, take, drop, Option}
use Rattle.std.specs.Ordering.{eq_by_cmp, is_lt}
use Rattle.std.specs.Cmp.{first_so, second_so}
use Rattle.std.specs.FinMap as finmap
use Rattle.std.specs.FinMap.{is_sorted, entries_sorted, contains_key-keys, len-entries}
use Rattle.std.specs.FinMap.Entries.{below_all}
use Rattle.collation.specs.Reference.{Reference}
use Rattle.collation.specs.Order.{ref_cmp}
use Rattle.collation.specs.laws.Order.{is_less}
use Rattle.globals.specs.laws.Nearest.{true_of}
use Rattle.version_store.specs.Versions.{Row, Versions, Stored, keys_of, is_behind, in_turn, next_in_turn}
use Rattle.collector.specs.Turn.{is_among, AreAllPlaced, AreDistinct}
use Rattle.collector.proofs.TurnLemmas.{same_key}

-- ---- each is placed

-- of two tests of which one fails where the other passes, one passes
either : (b t : Bool) → ((b && t) || (not b && t)) ≡ t
either true true = refl
either true false = refl
either false true = refl
either false false = refl

pub among_filter : (P : Reference → Bool) (r : Reference) (rs : List Reference) → is_among (filter P rs) r ≡ (P r && is_among rs r)
among_filter P r rs = any-filter_same (eq_by_cmp ref_cmp r) P (P r) (λ k tie. ap P (sym (same_key r k tie))) rs

-- in turn are just the placed ones
pub among_turn : (mark : Option Reference) (m : Versions) (r : Reference) → is_among (in_turn mark m) r ≡ finmap.contains_key m r
among_turn mark m r =
    list_any-append (eq_by_cmp ref_cmp r) (filter (is_behind mark) ks) (filter (λ q. not (is_behind mark q)) ks)
    ∙ ap (λ b. b || is_among (filter (λ q. not (is_behind mark q)) ks) r) (among_filter (is_behind mark) r ks)
    ∙ ap (λ b. (is_behind mark r && is_among ks r) || b) (among_filter (λ q. not (is_behind mark q)) r ks)
    ∙ either (is_behind mark r) (is_among ks r) ∙ sym (contains_key-keys m r)
  where
    ks : List Reference
    ks = keys_of (finmap.entries m)

-- what a beginning has, the whole has
among_first : (r : Reference) (xs ys : List Reference) → is_among xs r ≡ true → is_among (xs ++ ys) r ≡ true
among_first r xs ys is = list_any-append (eq_by_cmp ref_cmp r) xs ys ∙ ap (λ b. b || is_among ys r) is

among_take : (n : ℕ) (r : Reference) (xs : List Reference) → is_among (take n xs) r ≡ true → is_among xs r ≡ true
among_take n r xs is = ap (λ l. is_among l r) (sym (take-append-drop n xs)) ∙ among_first r (take n xs) (drop n xs) is

pub among_next : (limit : ℕ) (s : Stored) (r : Reference) → is_among (next_in_turn limit s) r ≡ true → finmap.contains_key s.versions r ≡ true
among_next limit s r is = sym (among_turn s.mark s.versions r) ∙ among_take limit r (in_turn s.mark s.versions) is

itself_first : (r : Reference) (rs : List Reference) → eq_by_cmp ref_cmp r r ≡ true → is_among (r ∷ rs) r ≡ true
itself_first r rs e = ap (λ b. b || is_among rs r) e

all_placed : (m : Versions) (rs : List Reference) → ((r : Reference) → is_among rs r ≡ true → finmap.contains_key m r ≡ true) → ((r : Reference) → eq_by_cmp ref_cmp r r ≡ true) → AreAllPlaced m rs
all_placed m [] is same = tt
all_placed m (r ∷ rs) is same = (is r (itself_first r rs (same r)), all_placed m rs (λ q at. is q (later (eq_by_cmp ref_cmp q r) (is_among rs q) at)) same)
  where
    later : (b t : Bool) → t ≡ true → (b || t) ≡ true
    later true t e = refl
    later false t e = e

pub placed_next : (limit : ℕ) (s : Stored) → ((r : Reference) → eq_by_cmp ref_cmp r r ≡ true) → AreAllPlaced s.versions (next_in_turn limit s)
placed_next limit s same = all_placed s.versions (next_in_turn limit s) (among_next limit s) same

-- ---- none stands twice

below_off : (k : Reference) (es : List (Reference × Row)) → below_all ref_cmp k es ≡ true → is_among (keys_of es) k ≡ false
below_off k [] h = refl
below_off k (e ∷ es) h = rw (is_less _ (first_so (is_lt (ref_cmp k e.0)) _ h)) (below_off k es (second_so (is_lt (ref_cmp k e.0)) _ h))

distinct_keys : (es : List (Reference × Row)) → is_sorted ref_cmp es ≡ true → AreDistinct (keys_of es)
distinct_keys [] h = tt
distinct_keys (e ∷ es) h = (below_off e.0 es (first_so (below_all ref_cmp e.0 es) _ h), distinct_keys es (second_so (below_all ref_cmp e.0 es) _ h))

no_more : (P : Reference → Bool) (k : Reference) (rs : List Reference) → is_among rs k ≡ false → is_among (filter P rs) k ≡ false
no_more P k rs off = among_filter P k rs ∙ ap (λ t. P k && t) off ∙ by_test (P k)
  where
    by_test : (b : Bool) → (b && false) ≡ false
    by_test true = refl
    by_test false = refl

pub distinct_filter : (P : Reference → Bool) (rs : List Reference) → AreDistinct rs → AreDistinct (filter P rs)
distinct_filter P [] is = tt
distinct_filter P (r ∷ rs) is = by_test (P r) (distinct_filter P rs is.1)
  where
    by_test : (b : Bool) → AreDistinct (filter P rs) → AreDistinct (cond b (r ∷ filter P rs) (filter P rs))
    by_test true rest = (no_more P r rs is.0, rest)
    by_test false rest = rest

-- two lists of which the second has nothing that passes
distinct_both : (P : Reference → Bool) (rs ys : List Reference) → AreDistinct rs → AreDistinct ys → ((k : Reference) → P k ≡ true → is_among ys k ≡ false) → AreDistinct (filter P rs ++ ys)
distinct_both P [] ys first second off = second
distinct_both P (r ∷ rs) ys first second off = by_test (P r) refl (distinct_both P rs ys first.1 second off)
  where
    by_test : (b : Bool) → P r ≡ b → AreDistinct (filter P rs ++ ys) → AreDistinct (cond b (r ∷ filter P rs) (filter P rs) ++ ys)
    by_test true at rest = (list_any-append (eq_by_cmp ref_cmp r) (filter P rs) ys ∙ ap (λ b. b || is_among ys r) (no_more P r rs first.0) ∙ off r at, rest)
    by_test false at rest = rest

pub distinct_turn : (mark : Option Reference) (m : Versions) → AreDistinct (in_turn mark m)
distinct_turn mark m =
    let keys = distinct_keys (finmap.entries m) (true_of _ (entries_sorted m)) in
    distinct_both (is_behind mark) (keys_of (finmap.entries m)) (filter (λ r. not (is_behind mark r)) (keys_of (finmap.entries m))) keys (distinct_filter (λ r. not (is_behind mark r)) (keys_of (finmap.entries m)) keys)
    (λ k at. among_filter (λ r. not (is_behind mark r)) k (keys_of (finmap.entries m)) ∙ ap (λ b. not b && is_among (keys_of (finmap.entries m)) k) at)

not_among : (b t : Bool) → (b || t) ≡ false → b ≡ false
not_among true t e = e
not_among false t e = refl

distinct_first : (xs ys : List Reference) → AreDistinct (xs ++ ys) → AreDistinct xs
distinct_first [] ys is = tt
distinct_first (x ∷ xs) ys is = (not_among (is_among xs x) (is_among ys x) (sym (list_any-append (eq_by_cmp ref_cmp x) xs ys) ∙ is.0), distinct_first xs ys is.1)

pub distinct_next : (limit : ℕ) (s : Stored) → AreDistinct (next_in_turn limit s)
distinct_next limit s = distinct_first (take limit (in_turn s.mark s.versions)) (drop limit (in_turn s.mark s.versions)) (subst AreDistinct (sym (take-append-drop limit (in_turn s.mark s.versions))) (distinct_turn s.mark s.versions))

-- ---- how many there are

length_parts : (P : Reference → Bool) (rs : List Reference) → length (filter P rs) + length (filter (λ r. not (P r)) rs) ≡ length rs
length_parts P [] = refl
length_parts P (r ∷ rs) = by_test (P r) (length_parts P rs)
  where
    by_test : (b : Bool) → length (filter P rs) + length (filter (λ q. not (P q)) rs) ≡ length rs
        → length (cond b (r ∷ filter P rs) (filter P rs)) + length (cond (not b) (r ∷ filter (λ q. not (P q)) rs) (filter (λ q. not (P q)) rs)) ≡ length (r ∷ rs)
    by_test true rest = omega (arith, rest)
    by_test false rest = omega (arith, rest)

length_turn : (mark : Option Reference) (m : Versions) → length (in_turn mark m) ≡ finmap.len m
length_turn mark m =
    length-append (filter (is_behind mark) ks) (filter (λ r. not (is_behind mark r)) ks) ∙ length_parts (is_behind mark) ks ∙ length-map (finmap.entries m) (λ e. e.0) ∙ sym (len-entries m)
  where
    ks : List Reference
    ks = keys_of (finmap.entries m)

pub length_next : (limit : ℕ) (s : Stored) → length (next_in_turn limit s) ≡ min limit (finmap.len s.versions)
length_next limit s = length-take limit (in_turn s.mark s.versions) ∙ ap (min limit) (length_turn s.mark s.versions)

-- with such a limit all that are in turn are next
next_all : (limit : ℕ) (s : Stored) → finmap.len s.versions ≤ limit → next_in_turn limit s ≡ in_turn s.mark s.versions
next_all limit s le =
    let long = length_turn s.mark s.versions in
    take_all limit (in_turn s.mark s.versions) (omega (arith, long, le))

pub next_large : (limit : ℕ) (s : Stored) → finmap.len s.versions ≤ limit → next_in_turn limit s ≡ next_in_turn (finmap.len s.versions) s
next_large limit s le = next_all limit s le ∙ sym (next_all (finmap.len s.versions) s (omega arith))

-- with such a limit each placed reference is next
pub among_all : (limit : ℕ) (s : Stored) (r : Reference) → finmap.len s.versions ≤ limit → is_among (next_in_turn limit s) r ≡ finmap.contains_key s.versions r
among_all limit s r le = ap (λ l. is_among l r) (next_all limit s le) ∙ among_turn s.mark s.versions r
