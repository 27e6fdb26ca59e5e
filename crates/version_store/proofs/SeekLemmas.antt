-- What stands next to a cut in the content, from what a walk over the tree passes.
use denote.Ref.{Bor}
use Rattle.std.proofs.Common.{◌≡◌, ℕ, ◌<◌, ◌≤◌, ◌-◌, List, [], ◌∷◌, ◌++◌, length, drop, refl, sym, ap, ◌∙◌, subst, append_assoc, append-nil, arith}
use Rattle.std.proofs.lemmas.List.{map-append, reverse-append}
use Rattle.std.proofs.lemmas.List.Elements.{filter-append}
use Rattle.std.proofs.Math.Bool.{and-true}
use Rattle.std.proofs.lemmas.Bool.{and_from}
use Rattle.std.specs.Prelude.{Bool, true, false, not, ◌&&◌, ◌||◌, cond, filter, reverse, Option, Some, None, MatchOption, is_some}
use Rattle.std.specs.Ordering.{is_lt, eq_by_cmp}
use Rattle.std.specs.Cmp.{second_so, first_so, eq_by_cmp_equiv}
use Rattle.std.specs.Bool.{passes}
use Rattle.std.specs.Option.{option_map, option_or}
use Rattle.std.specs.List.{find, slice_get}
use Rattle.std.specs.FinMap as finmap
use Rattle.std.specs.FinMap.{is_sorted}
use Rattle.std.specs.FinMap.Entries.{below_all, is_sorted-where_key}
use Rattle.collation.specs.Reference.{Reference}
use Rattle.collation.specs.Order.{ref_cmp}
use Rattle.collation.specs.laws.Order.{ref_cmp_total, ref_cmp-IsAntisymmetric, is_equal, is_less}
use Rattle.btree.specs.Order as order
use Rattle.btree.specs.Order.{last_of}
use Rattle.steady_map.specs.Shown.{shown, with_value as held_value}
use Rattle.globals.specs.Entries.{nearest_entry, find_last}
use Rattle.version_chain.specs.Versions.{at_of}
use Rattle.version_chain.specs.Chains.{versions_at, IsOpen}
use Rattle.version_store.specs.Versions.{Row, Versions, content_at, with_value, seen_at, first_of}
use Rattle.version_store.specs.Tied.{rows, versions_in, seen_to, reaches, AreOpen, AreKeysOf, IsFilled, IsTied}
use Rattle.globals.specs.declared.cut.Cut.{Cut}
use Rattle.globals.specs.Cuts.{stands_before, stands_within, stands_under, up_to, down_to, entries_from, first_from_cut, last_before_cut, front_down_to, IsRun}
use Rattle.globals.specs.laws.Runs.{run_of_some}
use Rattle.globals.specs.laws.Ends.{both_tests, within-earlier, entries_between, entries_down, back_is, back_goes_on, back_stops_at}
use Rattle.globals.specs.laws.Nearest.{true_of, not_found_itself, none_pass, still_fails}
use Rattle.version_store.specs.laws.Content.{entries_content}
use Rattle.version_store.proofs.TiedLemmas.{State, Pairs, entries_in, get_at, same_some}
use Rattle.version_store.proofs.RowLemmas.{HeldPairs, last_get, still}

-- ---- forward

is_first : {q p : Reference × ℕ} → Some q ≡ Some p → q ≡ p
is_first at = cc

-- what passes a test begins with the first that does
first_left : (P : Reference → Bool) (ps : Pairs) (p : Reference × ℕ) → find (λ e. P e.0) ps ≡ Some p → (later : Pairs) × (filter (λ e. P e.0) ps ≡ p ∷ later)
first_left P [] p at = absurd (cc)
first_left P (q ∷ ps) p at = by_test (P q.0) at (first_left P ps p)
  where
    by_test : (b : Bool) → cond b (Some q) (find (λ e. P e.0) ps) ≡ Some p
        → (find (λ e. P e.0) ps ≡ Some p → (later : Pairs) × (filter (λ e. P e.0) ps ≡ p ∷ later))
        → (later : Pairs) × (cond b (q ∷ filter (λ e. P e.0) ps) (filter (λ e. P e.0) ps) ≡ p ∷ later)
    by_test true at rest = (filter (λ e. P e.0) ps, cc)
    by_test false at rest = rest at

none_left : (P : Reference → Bool) (ps : Pairs) → find (λ e. P e.0) ps ≡ None → filter (λ e. P e.0) ps ≡ []
none_left P [] none = refl
none_left P (q ∷ ps) none = by_test (P q.0) none (none_left P ps)
  where
    by_test : (b : Bool) → cond b (Some q) (find (λ e. P e.0) ps) ≡ None → (find (λ e. P e.0) ps ≡ None → filter (λ e. P e.0) ps ≡ [])
        → cond b (q ∷ filter (λ e. P e.0) ps) (filter (λ e. P e.0) ps) ≡ []
    by_test true none rest = absurd (cc)
    by_test false none rest = rest none

-- what is seen of the rows that pass a test
seen_filter : (P : Reference → Bool) (c : State) (s : ℕ) (ps : Pairs) → filter (λ e. P e.0) (seen_at s (rows c ps)) ≡ seen_at s (rows c (filter (λ p. P p.0) ps))
seen_filter P c s [] = refl
seen_filter P c s (p ∷ ps) = by_case (P p.0) refl (at_of s (versions_at c p.1)) refl (seen_filter P c s ps)
  where
    by_case : (b : Bool) → P p.0 ≡ b → (v : Option (List ℕ)) → at_of s (versions_at c p.1) ≡ v
        → filter (λ e. P e.0) (seen_at s (rows c ps)) ≡ seen_at s (rows c (filter (λ q. P q.0) ps))
        → filter (λ e. P e.0) (with_value p.0 v (seen_at s (rows c ps))) ≡ seen_at s (rows c (cond b (p ∷ filter (λ q. P q.0) ps) (filter (λ q. P q.0) ps)))
    by_case true b None v rest = rest ∙ sym (ap (λ o. with_value p.0 o (seen_at s (rows c (filter (λ q. P q.0) ps)))) v)
    by_case true b (Some x) v rest =
        ap (λ t. cond t ((p.0, x) ∷ filter (λ e. P e.0) (seen_at s (rows c ps))) (filter (λ e. P e.0) (seen_at s (rows c ps)))) b
        ∙ ap (λ l. (p.0, x) ∷ l) rest
        ∙ sym (ap (λ o. with_value p.0 o (seen_at s (rows c (filter (λ q. P q.0) ps)))) v)
    by_case false b None v rest = rest
    by_case false b (Some x) v rest = ap (λ t. cond t ((p.0, x) ∷ filter (λ e. P e.0) (seen_at s (rows c ps))) (filter (λ e. P e.0) (seen_at s (rows c ps)))) b ∙ rest

pub entries_seen : (B : Reference → Bool) (c : State) (ps : Pairs) (s : ℕ) → is_sorted ref_cmp ps ≡ true
    → seen_at s (rows c (filter (λ p. not (B p.0)) ps)) ≡ filter (λ e. not (B e.0)) (finmap.entries (content_at (versions_in c ps) s))
entries_seen B c ps s h = sym (ap (filter (λ e. not (B e.0))) (entries_content (versions_in c ps) s ∙ ap (seen_at s) (entries_in c ps h)) ∙ seen_filter (λ x. not (B x)) c s ps)

-- ---- backward

or_none : {A : Type 0} (o : Option A) → option_or o None ≡ o
or_none None = refl
or_none (Some x) = refl

-- one pair more at the end
first_joined : (c : State) (s : ℕ) (xs : Pairs) (p : Reference × ℕ) → first_of (seen_at s (rows c (xs ++ p ∷ []))) ≡ option_or (first_of (seen_at s (rows c xs))) (first_of (with_value p.0 (at_of s (versions_at c p.1)) []))
first_joined c s [] p = refl
first_joined c s (x ∷ xs) p = by_value (at_of s (versions_at c x.1)) (first_joined c s xs p)
  where
    by_value : (v : Option (List ℕ)) → first_of (seen_at s (rows c (xs ++ p ∷ []))) ≡ option_or (first_of (seen_at s (rows c xs))) (first_of (with_value p.0 (at_of s (versions_at c p.1)) []))
        → first_of (with_value x.0 v (seen_at s (rows c (xs ++ p ∷ [])))) ≡ option_or (first_of (with_value x.0 v (seen_at s (rows c xs)))) (first_of (with_value p.0 (at_of s (versions_at c p.1)) []))
    by_value None rest = rest
    by_value (Some y) rest = refl

find_last_seen : (P : Reference → Bool) (c : State) (s : ℕ) (ps : Pairs) → find_last (λ e. P e.0) (seen_at s (rows c ps)) ≡ first_of (seen_at s (rows c (reverse (filter (λ p. P p.0) ps))))
find_last_seen P c s [] = refl
find_last_seen P c s (p ∷ ps) = by_case (P p.0) refl (at_of s (versions_at c p.1)) refl (find_last_seen P c s ps)
  where
    fs : Pairs
    fs = filter (λ q. P q.0) ps

    turned : first_of (seen_at s (rows c (reverse (p ∷ fs)))) ≡ option_or (first_of (seen_at s (rows c (reverse fs)))) (first_of (with_value p.0 (at_of s (versions_at c p.1)) []))
    turned = ap (λ xs. first_of (seen_at s (rows c xs))) (reverse-append (p ∷ []) fs) ∙ first_joined c s (reverse fs) p

    by_case : (b : Bool) → P p.0 ≡ b → (v : Option (List ℕ)) → at_of s (versions_at c p.1) ≡ v
        → find_last (λ e. P e.0) (seen_at s (rows c ps)) ≡ first_of (seen_at s (rows c (reverse fs)))
        → find_last (λ e. P e.0) (with_value p.0 v (seen_at s (rows c ps))) ≡ first_of (seen_at s (rows c (reverse (cond b (p ∷ fs) fs))))
    by_case true b None v rest = rest ∙ sym (turned ∙ ap (λ o. option_or (first_of (seen_at s (rows c (reverse fs)))) (first_of (with_value p.0 o []))) v ∙ or_none (first_of (seen_at s (rows c (reverse fs)))))
    by_case true b (Some x) v rest =
        ap (λ t. option_or (find_last (λ e. P e.0) (seen_at s (rows c ps))) (cond t (Some (p.0, x)) None)) b
        ∙ ap (λ o. option_or o (Some (p.0, x))) rest
        ∙ sym (turned ∙ ap (λ o. option_or (first_of (seen_at s (rows c (reverse fs)))) (first_of (with_value p.0 o []))) v)
    by_case false b None v rest = rest
    by_case false b (Some x) v rest =
        ap (λ t. option_or (find_last (λ e. P e.0) (seen_at s (rows c ps))) (cond t (Some (p.0, x)) None)) b
        ∙ or_none (find_last (λ e. P e.0) (seen_at s (rows c ps))) ∙ rest

none_before : (P : Reference → Bool) (ps : Pairs) → order.find_last (λ e. P e.0) ps ≡ None → filter (λ e. P e.0) ps ≡ []
none_before P [] none = refl
none_before P (q ∷ ps) none = by_rest (order.find_last (λ e. P e.0) ps) refl (P q.0) none (none_before P ps)
  where
    by_rest : (o : Option (Reference × ℕ)) → order.find_last (λ e. P e.0) ps ≡ o → (b : Bool) → option_or o (cond b (Some q) None) ≡ None
        → (order.find_last (λ e. P e.0) ps ≡ None → filter (λ e. P e.0) ps ≡ [])
        → cond b (q ∷ filter (λ e. P e.0) ps) (filter (λ e. P e.0) ps) ≡ []
    by_rest (Some x) is b none rest = absurd (cc)
    by_rest None is true none rest = absurd (cc)
    by_rest None is false none rest = rest is

-- what passes a test ends with the last that does
last_left : (P : Reference → Bool) (ps : Pairs) (p : Reference × ℕ) → order.find_last (λ e. P e.0) ps ≡ Some p → (earlier : Pairs) × (filter (λ e. P e.0) ps ≡ earlier ++ p ∷ [])
last_left P [] p at = absurd (cc)
last_left P (q ∷ ps) p at = by_rest (order.find_last (λ e. P e.0) ps) refl (P q.0) at (last_left P ps p) (none_before P ps)
  where
    by_rest : (o : Option (Reference × ℕ)) → order.find_last (λ e. P e.0) ps ≡ o → (b : Bool) → option_or o (cond b (Some q) None) ≡ Some p
        → (order.find_last (λ e. P e.0) ps ≡ Some p → (earlier : Pairs) × (filter (λ e. P e.0) ps ≡ earlier ++ p ∷ []))
        → (order.find_last (λ e. P e.0) ps ≡ None → filter (λ e. P e.0) ps ≡ [])
        → (earlier : Pairs) × (cond b (q ∷ filter (λ e. P e.0) ps) (filter (λ e. P e.0) ps) ≡ earlier ++ p ∷ [])
    by_rest (Some x) is true at rest none = let r = rest (is ∙ at) in (q ∷ r.0, ap (λ l. q ∷ l) r.1)
    by_rest (Some x) is false at rest none = rest (is ∙ at)
    by_rest None is true at rest none = ([], ap (λ l. q ∷ l) (none is) ∙ ap (λ r. r ∷ []) (is_first at))
    by_rest None is false at rest none = absurd (cc)

-- ---- the ids that a walk passes are open

-- the first pair is found by its key, and those after it by theirs
pub first_found : (p : Reference × ℕ) (ps : Pairs) → finmap.find ref_cmp p.0 (p ∷ ps) ≡ Some p.1
first_found p ps = ap (λ r. cond r (Some p.1) (finmap.find ref_cmp p.0 ps)) (let laws = eq_by_cmp_equiv ref_cmp_total in laws.refl p.0)

pub found_behind : (p : Reference × ℕ) (ps : Pairs) (q : Reference) (id : ℕ) → is_sorted ref_cmp (p ∷ ps) ≡ true → finmap.find ref_cmp q ps ≡ Some id → finmap.find ref_cmp q (p ∷ ps) ≡ Some id
found_behind p ps q id h at = by_tie (eq_by_cmp ref_cmp q p.0) refl
  where
    by_tie : (t : Bool) → eq_by_cmp ref_cmp q p.0 ≡ t → cond t (Some p.1) (finmap.find ref_cmp q ps) ≡ Some id
    by_tie true t =
        let same = ref_cmp-IsAntisymmetric q p.0 (is_equal _ t) in
        let none = sym at ∙ ap (λ x. finmap.find ref_cmp x ps) same ∙ not_found_itself ref_cmp ref_cmp_total ref_cmp-IsAntisymmetric p.0 ps (first_so (below_all ref_cmp p.0 ps) _ h) in
        absurd (cc)
    by_tie false t = at

all_open : (c : State) (ps : Pairs) → is_sorted ref_cmp ps ≡ true → ((q : Reference) (id : ℕ) → finmap.find ref_cmp q ps ≡ Some id → IsOpen c id) → AreOpen c ps
all_open c [] h is = tt
all_open c (p ∷ ps) h is =
    (is p.0 p.1 (first_found p ps), all_open c ps (second_so (below_all ref_cmp p.0 ps) _ h) (λ q id at. is q id (found_behind p ps q id h at)))

pub open_in : (c : State) (ps : Pairs) (now : ℕ) → IsTied ps c now → AreOpen c ps
open_in c ps now tied = all_open c ps tied.sorted tied.opened

pub open_filter : (c : State) (P : Reference × ℕ → Bool) (ps : Pairs) → AreOpen c ps → AreOpen c (filter P ps)
open_filter c P [] opened = tt
open_filter c P (p ∷ ps) opened = by_test (P p) (open_filter c P ps opened.1)
  where
    by_test : (b : Bool) → AreOpen c (filter P ps) → AreOpen c (cond b (p ∷ filter P ps) (filter P ps))
    by_test true rest = (opened.0, rest)
    by_test false rest = rest

pub open_first : (c : State) (P : Reference → Bool) (ps : Pairs) (p : Reference × ℕ) → AreOpen c ps → find (λ e. P e.0) ps ≡ Some p → IsOpen c p.1
open_first c P (q ∷ ps) p opened at = by_test (P q.0) at (open_first c P ps p opened.1)
  where
    by_test : (b : Bool) → cond b (Some q) (find (λ e. P e.0) ps) ≡ Some p → (find (λ e. P e.0) ps ≡ Some p → IsOpen c p.1) → IsOpen c p.1
    by_test true at rest = subst (λ (r : Reference × ℕ). IsOpen c r.1) (is_first at) opened.0
    by_test false at rest = rest at
open_first c P [] p opened at = absurd (cc)

open_part : (c : State) (xs : Pairs) (p : Reference × ℕ) → AreOpen c (xs ++ p ∷ []) → IsOpen c p.1
open_part c [] p opened = opened.0
open_part c (x ∷ xs) p opened = open_part c xs p opened.1

pub open_last : (c : State) (P : Reference → Bool) (ps : Pairs) (p : Reference × ℕ) → AreOpen c ps → order.find_last (λ e. P e.0) ps ≡ Some p → IsOpen c p.1
open_last c P ps p opened at =
    let left = last_left P ps p at in
    open_part c left.0 p (subst (AreOpen c) left.1 (open_filter c (λ e. P e.0) ps opened))

-- ---- the keys that a walk passes are placed

keys_filter : (m : Versions) (P : Reference × ℕ → Bool) (ps : Pairs) → AreKeysOf m ps → AreKeysOf m (filter P ps)
keys_filter m P [] keys = tt
keys_filter m P (p ∷ ps) keys = by_test (P p) (keys_filter m P ps keys.1)
  where
    by_test : (b : Bool) → AreKeysOf m (filter P ps) → AreKeysOf m (cond b (p ∷ filter P ps) (filter P ps))
    by_test true rest = (keys.0, rest)
    by_test false rest = rest

-- each pair of a part of the tree is found there
found_in : (c : State) (ps qs : Pairs) → is_sorted ref_cmp ps ≡ true → is_sorted ref_cmp qs ≡ true → ((q : Reference) (id : ℕ) → finmap.find ref_cmp q qs ≡ Some id → finmap.find ref_cmp q ps ≡ Some id) → AreKeysOf (versions_in c ps) qs
found_in c ps [] h k is = tt
found_in c ps (q ∷ qs) h k is =
    (ap is_some (get_at c ps q.0 q.1 h (is q.0 q.1 (first_found q qs))), found_in c ps qs h (second_so (below_all ref_cmp q.0 qs) _ k) (λ r id at. is r id (found_behind q qs r id k at)))

pub keys_walked : (c : State) (P : Reference × ℕ → Bool) (ps : Pairs) → is_sorted ref_cmp ps ≡ true → AreKeysOf (versions_in c ps) (filter P ps)
keys_walked c P ps h = keys_filter (versions_in c ps) P ps (found_in c ps ps h h (λ q id at. at))

open_append : (c : State) (xs ys : Pairs) → AreOpen c xs → AreOpen c ys → AreOpen c (xs ++ ys)
open_append c [] ys first second = second
open_append c (x ∷ xs) ys first second = (first.0, open_append c xs ys first.1 second)

pub open_reverse : (c : State) (ps : Pairs) → AreOpen c ps → AreOpen c (reverse ps)
open_reverse c [] opened = tt
open_reverse c (p ∷ ps) opened = subst (AreOpen c) (sym (reverse-append (p ∷ []) ps)) (open_append c (reverse ps) (p ∷ []) (open_reverse c ps opened.1) (opened.0, tt))

-- ---- the first key after another

first_row : (c : State) (P : Reference → Bool) (ps : Pairs) → find (λ e. P e.0) (rows c ps) ≡ option_map (λ p. (p.0, versions_at c p.1)) (find (λ p. P p.0) ps)
first_row c P [] = refl
first_row c P (p ∷ ps) = by_test (P p.0) (first_row c P ps)
  where
    by_test : (b : Bool) → find (λ e. P e.0) (rows c ps) ≡ option_map (λ p. (p.0, versions_at c p.1)) (find (λ p. P p.0) ps)
        → cond b (Some (p.0, versions_at c p.1)) (find (λ e. P e.0) (rows c ps)) ≡ option_map (λ p. (p.0, versions_at c p.1)) (cond b (Some p) (find (λ p. P p.0) ps))
    by_test true rest = refl
    by_test false rest = rest

first_key : (o : Option (Reference × ℕ)) (c : State) → option_map (λ (r : Reference × Row). r.0) (option_map (λ p. (p.0, versions_at c p.1)) o) ≡ option_map (λ (p : Reference × ℕ). p.0) o
first_key None c = refl
first_key (Some p) c = refl

pub key_in : (B : Reference → Bool) (c : State) (ps : Pairs) → is_sorted ref_cmp ps ≡ true
    → option_map (λ (r : Reference × Row). r.0) (nearest_entry true (λ x. not (B x)) (versions_in c ps)) ≡ option_map (λ (p : Reference × ℕ). p.0) (find (λ p. not (B p.0)) ps)
key_in B c ps h =
    ap (λ es. option_map (λ (r : Reference × Row). r.0) (find (λ e. not (B e.0)) es)) (entries_in c ps h)
    ∙ ap (option_map (λ (r : Reference × Row). r.0)) (first_row c (λ x. not (B x)) ps)
    ∙ first_key (find (λ p. not (B p.0)) ps) c

-- what a walk passes is sorted
pub sorted_filter : (P : Reference → Bool) (ps : Pairs) → is_sorted ref_cmp ps ≡ true → is_sorted ref_cmp (filter (λ p. P p.0) ps) ≡ true
sorted_filter P ps h = true_of _ (is_sorted-where_key ref_cmp P ps (passes _ h))

-- ---- what stands before an end

first_kept : {X : Type 0} (P : Reference → Bool) (es : List (Reference × X)) → find (λ e. P e.0) es ≡ first_of (filter (λ e. P e.0) es)
first_kept P [] = refl
first_kept P (e ∷ es) = elim (P e.0) as (λ b. cond b (Some e) (find (λ e. P e.0) es) ≡ first_of (cond b (e ∷ filter (λ e. P e.0) es) (filter (λ e. P e.0) es))) [
  | true ↦ refl
  | false ↦ first_kept P es
]

find_last_both : {X : Type 0} (B N : Reference → Bool) (es : List (Reference × X)) → find_last (λ e. B e.0) (filter (λ e. N e.0) es) ≡ find_last (λ e. B e.0 && N e.0) es
find_last_both B N [] = refl
find_last_both {X = X} B N (e ∷ es) = by_tests (N e.0) (B e.0) refl (find_last_both B N es)
  where
    by_tests : (n b : Bool) → B e.0 ≡ b → find_last (λ e. B e.0) (filter (λ e. N e.0) es) ≡ find_last (λ e. B e.0 && N e.0) es
        → find_last (λ e. B e.0) (cond n (e ∷ filter (λ e. N e.0) es) (filter (λ e. N e.0) es)) ≡ option_or (find_last (λ e. B e.0 && N e.0) es) (cond (b && n) (Some e) None)
    by_tests true b is rest = (λ i. option_or (rest i) (cond (is i) (Some e) None)) ∙ ap (λ n. option_or (find_last (λ e. B e.0 && N e.0) es) (cond n (Some e) None)) (sym (and-true b))
    by_tests false true is rest = rest ∙ sym (or_none (find_last (λ e. B e.0 && N e.0) es))
    by_tests false false is rest = rest ∙ sym (or_none (find_last (λ e. B e.0 && N e.0) es))

seen_append : (s : ℕ) (xs ys : List (Reference × Row)) → seen_at s (xs ++ ys) ≡ seen_at s xs ++ seen_at s ys
seen_append s [] ys = refl
seen_append s (x ∷ xs) ys = by_value (at_of s x.1) (seen_append s xs ys)
  where
    by_value : (v : Option (List ℕ)) → seen_at s (xs ++ ys) ≡ seen_at s xs ++ seen_at s ys → with_value x.0 v (seen_at s (xs ++ ys)) ≡ with_value x.0 v (seen_at s xs) ++ seen_at s ys
    by_value None rest = rest
    by_value (Some y) rest = ap (λ l. (x.0, y) ∷ l) rest

pub seen_to_append : (end : Option Cut) (s : ℕ) (c : State) (xs ys : Pairs) → seen_to end s c (xs ++ ys) ≡ seen_to end s c xs ++ seen_to end s c ys
seen_to_append end s c xs ys =
    ap (λ ps. seen_at s (rows c ps)) (filter-append (λ p. stands_within end p.0) xs ys)
    ∙ ap (seen_at s) (map-append (λ p. (p.0, versions_at c p.1)) (filter (λ p. stands_within end p.0) xs) (filter (λ p. stands_within end p.0) ys))
    ∙ seen_append s (rows c (filter (λ p. stands_within end p.0) xs)) (rows c (filter (λ p. stands_within end p.0) ys))

-- a part of nothing
behind_none : (xs ys : Pairs) → xs ++ ys ≡ [] → ys ≡ []
behind_none [] ys none = none
behind_none (x ∷ xs) ys none = absurd (cc)

module _ (end : Option Cut) where
  abbrev W : Reference → Bool
  W x = stands_within end x

  none_behind : (p : Reference × ℕ) (later : Pairs) → is_sorted ref_cmp (p ∷ later) ≡ true → W p.0 ≡ false → filter (λ q. W q.0) later ≡ []
  none_behind p later h out = none_pass ref_cmp W p.0 later (λ y l. still_fails ref_cmp W (within-earlier end) p.0 y out l) (first_so _ _ h)

  -- where one of these stands beyond the end, all that come after them do
  pub none_later : (xs later : Pairs) → is_sorted ref_cmp (xs ++ later) ≡ true → reaches end xs ≡ true → filter (λ q. W q.0) later ≡ []
  none_later [] later h met = absurd (cc)
  none_later (x ∷ xs) later h met = by_test (W x.0) refl met (none_later xs later (second_so (below_all ref_cmp x.0 (xs ++ later)) _ h))
    where
      by_test : (b : Bool) → W x.0 ≡ b → not b || reaches end xs ≡ true → (reaches end xs ≡ true → filter (λ q. W q.0) later ≡ []) → filter (λ q. W q.0) later ≡ []
      by_test true b met on = on met
      by_test false b met on = behind_none (filter (λ q. W q.0) xs) (filter (λ q. W q.0) later) (sym (filter-append (λ q. W q.0) xs later) ∙ none_behind x (xs ++ later) h b)

  -- a step along what a look passes
  module _ (c : State) (s : ℕ) (left later : Pairs) (p : Reference × ℕ) (first : left ≡ p ∷ later) where
    pub seen_on : W p.0 ≡ true → seen_to end s c left ≡ with_value p.0 (at_of s (versions_at c p.1)) [] ++ seen_to end s c later
    seen_on h =
        ap (seen_to end s c) first ∙ ap (λ b. seen_at s (rows c (cond b (p ∷ filter (λ q. W q.0) later) (filter (λ q. W q.0) later)))) h
        ∙ in_front (at_of s (versions_at c p.1))
      where
        in_front : (v : Option (List ℕ)) → with_value p.0 v (seen_to end s c later) ≡ with_value p.0 v [] ++ seen_to end s c later
        in_front None = refl
        in_front (Some x) = refl

    pub none_beyond : is_sorted ref_cmp left ≡ true → W p.0 ≡ false → seen_to end s c left ≡ []
    none_beyond h out =
        ap (seen_to end s c) first ∙ ap (λ b. seen_at s (rows c (cond b (p ∷ filter (λ q. W q.0) later) (filter (λ q. W q.0) later)))) out
        ∙ ap (λ ps. seen_at s (rows c ps)) (none_behind p later (ap (is_sorted ref_cmp) (sym first) ∙ h) out)

    pub met_on : W p.0 ≡ true → reaches end left ≡ reaches end later
    met_on h = ap (reaches end) first ∙ ap (λ b. not b || reaches end later) h

    pub met_here : W p.0 ≡ false → reaches end left ≡ true
    met_here h = ap (reaches end) first ∙ ap (λ b. not b || reaches end later) h

-- ---- a row

pub none_of : {A : Type 0} (xs : List A) → length xs ≡ 0 → xs ≡ []
none_of [] zero = refl
none_of (x ∷ xs) zero = absurd (omega (arith, zero))

abbrev Nodes : Type 0
Nodes = List (Reference × List ℕ)

-- what the next reference of a row adds lies in the run
pub one_more : (all run more added left later : Nodes) → all ≡ run ++ left → left ≡ added ++ later → more ≡ run ++ added → all ≡ more ++ later
one_more all run more added left later is first pushed = is ∙ ap (λ l. run ++ l) first ∙ sym (append_assoc run added later) ∙ ap (λ l. l ++ later) (sym pushed)

-- a row's first pair, shown or hidden
pub shown_step : (row rest : HeldPairs) (item : Reference × Option ℕ) (id : ℕ) → row ≡ item ∷ rest → item.1 ≡ Some id → shown row ≡ (item.0, id) ∷ shown rest
shown_step row rest item id is held = ap shown is ∙ ap (λ o. held_value item.0 o (shown rest)) held

pub hidden_step : (row rest : HeldPairs) (item : Reference × Option ℕ) → row ≡ item ∷ rest → item.1 ≡ None → shown row ≡ shown rest
hidden_step row rest item is held = ap shown is ∙ ap (λ o. held_value item.0 o (shown rest)) held

pub filled_by_all : (most : ℕ) (all run left : Nodes) → all ≡ run ++ left → left ≡ [] → length run ≤ most → IsFilled most run all
filled_by_all most all run left is none few = record { left = left; parts = is; bounded = few; whole = λ _. none }

pub filled_by_most : (most : ℕ) (all run left : Nodes) → all ≡ run ++ left → length run ≡ most → IsFilled most run all
filled_by_most most all run left is full = record { left = left; parts = is; bounded = omega (arith, full); whole = λ few. absurd (omega (arith, few, full)) }

module _ (end : Option Cut) (p : Reference × Option ℕ) where
  first_within : (x : Reference × Option ℕ) (ps : HeldPairs) → is_sorted ref_cmp (x ∷ ps) ≡ true → last_of (x ∷ ps) ≡ Some p → stands_within end p.0 ≡ true → stands_within end x.0 ≡ true
  first_within x [] h last below = ap (λ (q : Reference × Option ℕ). stands_within end q.0) (same_some x p last) ∙ below
  first_within x (y ∷ ps) h last below =
      within-earlier end x.0 y.0 (is_less _ (first_so (is_lt (ref_cmp x.0 y.0)) _ (first_so (below_all ref_cmp x.0 (y ∷ ps)) _ h)))
      (first_within y ps (second_so (below_all ref_cmp x.0 (y ∷ ps)) _ h) (sym (still (last_of ps) x y) ∙ last) below)

  with_within : (x : Reference) (held : Option ℕ) (ps : Pairs) → stands_within end x ≡ true → filter (λ q. stands_within end q.0) ps ≡ ps
      → filter (λ q. stands_within end q.0) (held_value x held ps) ≡ held_value x held ps
  with_within x None ps below rest = rest
  with_within x (Some id) ps below rest = rw below (ap (λ l. (x, id) ∷ l) rest)

  -- all of a row stands before the end, if its last key does
  row_within : (row : HeldPairs) → is_sorted ref_cmp row ≡ true → last_of row ≡ Some p → stands_within end p.0 ≡ true → filter (λ q. stands_within end q.0) (shown row) ≡ shown row
  row_within [] h last below = refl
  row_within (x ∷ []) h last below = with_within x.0 x.1 [] (first_within x [] h last below) refl
  row_within (x ∷ y ∷ ps) h last below =
      with_within x.0 x.1 (shown (y ∷ ps)) (first_within x (y ∷ ps) h last below)
      (row_within (y ∷ ps) (second_so (below_all ref_cmp x.0 (y ∷ ps)) _ h) (sym (still (last_of ps) x y) ∙ last) below)

all_pass : (ps : Pairs) → filter (λ q. true) ps ≡ ps
all_pass [] = refl
all_pass (p ∷ ps) = ap (λ l. p ∷ l) (all_pass ps)

pub as_whole : (end : Option Cut) (p : Reference × Option ℕ) (row : HeldPairs) → is_sorted ref_cmp row ≡ true → slice_get row (length row - 1) ≡ Some p → stands_within end p.0 ≡ true
    → filter (λ q. true) (shown row) ≡ filter (λ q. stands_within end q.0) (shown row)
as_whole end p row h last below = all_pass (shown row) ∙ sym (row_within end p row h (sym (last_get row) ∙ last) below)

pub never_met : (ps : Pairs) → reaches None ps ≡ true → ⊥
never_met [] met = absurd (cc)
never_met (p ∷ ps) met = never_met ps met

-- a row that is passed before the end. end_here is the end where it may lie in the row
module _ (most : ℕ) (end here : Option Cut) (s : ℕ) (c : State) (left more : Pairs) (row : HeldPairs) (is : left ≡ shown row ++ more)
    (same : filter (λ p. stands_within here p.0) (shown row) ≡ filter (λ p. stands_within end p.0) (shown row)) (all run new : List (Reference × List ℕ)) (so_far : all ≡ run ++ seen_to end s c left)
    (filled : IsFilled most new (run ++ seen_to here s c (shown row))) where
  parts : all ≡ (new ++ filled.left) ++ seen_to end s c more
  parts =
      so_far ∙ ap (λ ps. run ++ seen_to end s c ps) is ∙ ap (λ l. run ++ l) (seen_to_append end s c (shown row) more)
      ∙ sym (append_assoc run (seen_to end s c (shown row)) (seen_to end s c more))
      ∙ ap (λ ps. (run ++ seen_at s (rows c ps)) ++ seen_to end s c more) (sym same)
      ∙ ap (λ l. l ++ seen_to end s c more) filled.parts

  -- the run has as many as were asked for
  pub row_fills : 1 ≤ most → length new ≡ most → IsRun most new all
  row_fills some full = run_of_some most all new (filled.left ++ seen_to end s c more) (parts ∙ append_assoc new filled.left (seen_to end s c more)) filled.bounded (omega (arith, full, some))

  -- it has fewer
  pub row_passes : length new < most → all ≡ new ++ seen_to end s c more
  row_passes few = parts ∙ ap (λ l. (new ++ l) ++ seen_to end s c more) (filled.whole few) ∙ ap (λ l. l ++ seen_to end s c more) (append-nil new)

  -- the end lies in the row
  pub row_ends : 1 ≤ most → is_sorted ref_cmp left ≡ true → reaches end (shown row) ≡ true → IsRun most new all
  row_ends some h met =
      let none : seen_to end s c more ≡ [] = ap (λ ps. seen_at s (rows c ps)) (none_later end (shown row) more (ap (is_sorted ref_cmp) (sym is) ∙ h) met) in
      record {
        front = record { rest = filled.left ++ seen_to end s c more; parts = parts ∙ append_assoc new filled.left (seen_to end s c more) };
        bounded = filled.bounded;
        ends = λ e. row_passes (let n : length new ≡ 0 = ap length e in omega (arith, n, some)) ∙ ap (λ l. l ++ seen_to end s c more) e ∙ none;
      }

below_front : (x : Reference) (xs ys : Pairs) → below_all ref_cmp x (xs ++ ys) ≡ true → below_all ref_cmp x xs ≡ true
below_front x [] ys h = refl
below_front x (p ∷ xs) ys h = and_from _ _ (first_so _ _ h) (below_front x xs ys (second_so (is_lt (ref_cmp x p.0)) _ h))

pub sorted_front : (xs ys : Pairs) → is_sorted ref_cmp (xs ++ ys) ≡ true → is_sorted ref_cmp xs ≡ true
sorted_front [] ys h = refl
sorted_front (p ∷ xs) ys h = and_from _ _ (below_front p.0 xs ys (first_so _ _ h)) (sorted_front xs ys (second_so (below_all ref_cmp p.0 (xs ++ ys)) _ h))

-- the first node of a run is the first of all
pub first_in_run : (run all : List (Reference × List ℕ)) (o : Option (Bor Reference × Bor (List ℕ))) → IsRun 1 run all → MatchOption o (drop 0 run ≡ []) (λ e. drop 0 run ≡ (e.0.now, e.1.now) ∷ drop 1 run)
    → option_map (λ e. (e.0.now, e.1.now)) o ≡ first_of all
first_in_run run all None is none = sym (ap first_of (is.ends none))
first_in_run run all (Some e) is has = sym (ap first_of (is.front.parts ∙ ap (λ l. l ++ is.front.rest) has))

-- ---- the walks

module _ (cut : Cut) (end : Option Cut) (c : State) (ps : Pairs) (s : ℕ) (h : is_sorted ref_cmp ps ≡ true) where
  abbrev from_cut : Pairs
  from_cut = filter (λ p. not (stands_before cut p.0)) ps

  -- what is seen between a cut and an end
  pub seen_between : seen_to end s c from_cut ≡ entries_from cut (up_to end (content_at (versions_in c ps) s))
  seen_between =
      sym (seen_filter (stands_within end) c s from_cut)
      ∙ ap (filter (λ e. stands_within end e.0)) (entries_seen (stands_before cut) c ps s h)
      ∙ sym (entries_between cut end (content_at (versions_in c ps) s))

  -- the first of it
  pub first_between : first_of (seen_to end s c from_cut) ≡ first_from_cut cut (up_to end (content_at (versions_in c ps) s))
  first_between = ap first_of seen_between ∙ sym (first_kept (λ x. not (stands_before cut x)) (finmap.entries (up_to end (content_at (versions_in c ps) s))))

  pub none_between : find (λ p. not (stands_before cut p.0)) ps ≡ None → first_from_cut cut (up_to end (content_at (versions_in c ps) s)) ≡ None
  none_between none = sym first_between ∙ ap (λ l. first_of (seen_to end s c l)) (none_left (λ x. not (stands_before cut x)) ps none)

  module _ (p : Reference × ℕ) (at : find (λ p. not (stands_before cut p.0)) ps ≡ Some p) where
    pub beyond_between : stands_within end p.0 ≡ false → first_from_cut cut (up_to end (content_at (versions_in c ps) s)) ≡ None
    beyond_between out =
        let left = first_left (λ x. not (stands_before cut x)) ps p at in
        sym first_between ∙ ap first_of (none_beyond end c s from_cut left.0 p left.1 (sorted_filter (λ x. not (stands_before cut x)) ps h) out)

    pub found_between : (x : List ℕ) → at_of s (versions_at c p.1) ≡ Some x → stands_within end p.0 ≡ true → first_from_cut cut (up_to end (content_at (versions_in c ps) s)) ≡ Some (p.0, x)
    found_between x has h =
        let left = first_left (λ x. not (stands_before cut x)) ps p at in
        sym first_between ∙ ap first_of (seen_on end c s from_cut left.0 p left.1 h ∙ ap (λ o. with_value p.0 o [] ++ seen_to end s c left.0) has)

module _ (cut : Cut) (floor : Option Cut) (c : State) (ps : Pairs) (s : ℕ) (h : is_sorted ref_cmp ps ≡ true) where
  abbrev back_from_cut : Pairs
  back_from_cut = reverse (filter (λ p. stands_before cut p.0) ps)

  -- the last between a floor and a cut
  pub last_between : first_of (seen_at s (rows c (front_down_to floor back_from_cut))) ≡ last_before_cut cut (down_to floor (content_at (versions_in c ps) s))
  last_between =
      ap (λ l. first_of (seen_at s (rows c l))) (back_is floor (filter (λ p. stands_before cut p.0) ps) (sorted_filter (stands_before cut) ps h) ∙ ap reverse (both_tests (stands_before cut) (λ x. not (stands_under floor x)) ps))
      ∙ sym (find_last_seen (λ x. stands_before cut x && not (stands_under floor x)) c s ps)
      ∙ ap (find_last (λ e. stands_before cut e.0 && not (stands_under floor e.0))) (sym (entries_content (versions_in c ps) s ∙ ap (seen_at s) (entries_in c ps h)))
      ∙ sym (find_last_both (stands_before cut) (λ x. not (stands_under floor x)) (finmap.entries (content_at (versions_in c ps) s)))
      ∙ ap (find_last (λ e. stands_before cut e.0)) (sym (entries_down floor (content_at (versions_in c ps) s)))

  pub none_back : order.find_last (λ p. stands_before cut p.0) ps ≡ None → last_before_cut cut (down_to floor (content_at (versions_in c ps) s)) ≡ None
  none_back none = sym last_between ∙ ap (λ l. first_of (seen_at s (rows c (front_down_to floor (reverse l))))) (none_before (stands_before cut) ps none)

  module _ (p : Reference × ℕ) (at : order.find_last (λ p. stands_before cut p.0) ps ≡ Some p) where
    turned : (earlier : Pairs) × (back_from_cut ≡ p ∷ earlier)
    turned = let left = last_left (stands_before cut) ps p at in (reverse left.0, ap reverse left.1 ∙ reverse-append left.0 (p ∷ []))

    pub under_back : stands_under floor p.0 ≡ true → last_before_cut cut (down_to floor (content_at (versions_in c ps) s)) ≡ None
    under_back out = sym last_between ∙ ap (λ l. first_of (seen_at s (rows c l))) (back_stops_at floor back_from_cut turned.0 p turned.1 out)

    pub found_back : (x : List ℕ) → at_of s (versions_at c p.1) ≡ Some x → stands_under floor p.0 ≡ false → last_before_cut cut (down_to floor (content_at (versions_in c ps) s)) ≡ Some (p.0, x)
    found_back x has in_it =
        sym last_between ∙ ap (λ l. first_of (seen_at s (rows c l))) (back_goes_on floor back_from_cut turned.0 p turned.1 in_it)
        ∙ ap (λ o. first_of (with_value p.0 o (seen_at s (rows c (front_down_to floor turned.0))))) has
