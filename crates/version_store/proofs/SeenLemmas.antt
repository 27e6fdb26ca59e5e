-- Pairs that are seen off a walk over the tree, until there are so many.
use Rattle.std.proofs.Common.{◌≡◌, ℕ, zero, suc, ◌+◌, ◌-◌, ◌<◌, ◌≤◌, List, [], ◌∷◌, ◌++◌, length, refl, sym, ap, ◌∙◌, subst, arith}
use Rattle.std.proofs.lemmas.List.{append-nil, append_assoc, length_push, length-map, take_all}
use Rattle.std.specs.Prelude.{Bool, true, false, not, cond, filter, take, Option, None, Some}
use Rattle.std.specs.FinMap as finmap
use Rattle.std.specs.FinMap.{is_sorted}
use Rattle.std.specs.FinMap.Entries.{below_all}
use Rattle.std.specs.Cmp.{first_so, second_so}
use Rattle.collation.specs.Reference.{Reference}
use Rattle.collation.specs.Order.{ref_cmp}
use Rattle.globals.specs.declared.cut.Cut.{Cut}
use Rattle.globals.specs.Cuts.{stands_before}
use Rattle.globals.specs.laws.Nearest.{none_pass, still_fails}
use Rattle.globals.specs.laws.Cuts.{stands_before-earlier}
use Rattle.version_chain.specs.Versions.{is_one_value}
use Rattle.version_chain.specs.Chains.{versions_at, listed}
use Rattle.version_store.specs.Versions.{Versions, Stored, versions_of, keys_of, is_behind, is_worth_a_cut, last_or, next_in_turn, AreNextVisits}
use Rattle.version_store.specs.Tied.{versions_in, keys_worth, HasSeen}
use Rattle.version_store.proofs.TiedLemmas.{State, Pairs, get_at}
use Rattle.version_store.proofs.SeekLemmas.{first_found, found_behind}
use Rattle.version_store.proofs.TurnLemmas.{turn_unmarked, turn_marked, keys_filter}

-- ---- one pair more

last_push : (mark : Option Reference) (ps : Pairs) (p : Reference × ℕ) → last_or mark (keys_of (ps ++ p ∷ [])) ≡ Some p.0
last_push mark [] p = refl
last_push mark (q ∷ ps) p = last_push (Some q.0) ps p

worth_push : (c : State) (ps : Pairs) (p : Reference × ℕ) → keys_worth c (ps ++ p ∷ []) ≡ keys_worth c ps ++ cond (is_one_value (versions_at c p.1)) [] (p.0 ∷ [])
worth_push c [] p = alone (is_one_value (versions_at c p.1))
  where
    alone : (b : Bool) → keys_of (cond (not b) (p ∷ []) []) ≡ cond b [] (p.0 ∷ [])
    alone true = refl
    alone false = refl
worth_push c (q ∷ ps) p = by_test (is_one_value (versions_at c q.1)) (worth_push c ps p)
  where
    worth : Pairs → Pairs
    worth = filter (λ r. not (is_one_value (versions_at c r.1)))

    by_test : (b : Bool) → keys_of (worth (ps ++ p ∷ [])) ≡ keys_of (worth ps) ++ cond (is_one_value (versions_at c p.1)) [] (p.0 ∷ [])
        → keys_of (cond (not b) (q ∷ worth (ps ++ p ∷ [])) (worth (ps ++ p ∷ []))) ≡ keys_of (cond (not b) (q ∷ worth ps) (worth ps)) ++ cond (is_one_value (versions_at c p.1)) [] (p.0 ∷ [])
    by_test true rest = rest
    by_test false rest = ap (λ l. q.0 ∷ l) rest

pub seen_more : (c : State) (ps : Pairs) (p : Reference × ℕ) (ks js : List Reference) (n m : ℕ) (was is : Option Reference) → m ≡ n + 1 → is ≡ Some p.0
    → js ≡ ks ++ cond (is_one_value (versions_at c p.1)) [] (p.0 ∷ []) → HasSeen c ps ks n was → HasSeen c (ps ++ p ∷ []) js m is
seen_more c ps p ks js n m was is one at copied seen =
    let long = length_push ps p in
    let visited = seen.visited_is in
    record {
      keys_are = copied ∙ ap (λ l. l ++ cond (is_one_value (versions_at c p.1)) [] (p.0 ∷ [])) seen.keys_are ∙ sym (worth_push c ps p);
      visited_is = omega (arith, one, visited, long);
      last_is = at ∙ sym (last_push None ps p);
    }

-- ---- a walk, of which so many pairs more are seen

-- what a walk has seen where it stands, once it began behind the pairs qs
pub record StandsAt (c : State) (qs all : Pairs) (limit : ℕ) (left : Pairs) (ks : List Reference) (n : ℕ) (last : Option Reference) : Type 0 where
  pub pairs : Pairs
  pub seen : HasSeen c pairs ks n last
  pub same : pairs ++ take (limit - length pairs) left ≡ qs ++ take (limit - length qs) all

pub stands_first : (c : State) (qs all : Pairs) (limit : ℕ) (left : Pairs) (ks : List Reference) (n : ℕ) (last : Option Reference) → left ≡ all → HasSeen c qs ks n last → StandsAt c qs all limit left ks n last
stands_first c qs all limit left ks n last is seen = record { pairs = qs; seen = seen; same = ap (λ l. qs ++ take (limit - length qs) l) is }

pairs_more : (ps rest : Pairs) (n : ℕ) (p : Reference × ℕ) → length ps < n → (ps ++ p ∷ []) ++ take (n - length (ps ++ p ∷ [])) rest ≡ ps ++ take (n - length ps) (p ∷ rest)
pairs_more ps rest n p less =
    let longer = length_push ps p in
    let more : n - length ps ≡ suc (n - length (ps ++ p ∷ [])) = omega (arith, longer, less) in
    append_assoc ps (p ∷ []) (take (n - length (ps ++ p ∷ [])) rest) ∙ ap (λ i. ps ++ take i (p ∷ rest)) (sym more)

pub stands_more : (c : State) (qs all : Pairs) (limit : ℕ) (left rest : Pairs) (p : Reference × ℕ) (ks js : List Reference) (n m : ℕ) (was is : Option Reference) → left ≡ p ∷ rest → n < limit
    → ((ps : Pairs) → HasSeen c ps ks n was → HasSeen c (ps ++ p ∷ []) js m is) → StandsAt c qs all limit left ks n was → StandsAt c qs all limit rest js m is
stands_more c qs all limit left rest p ks js n m was is steps less more at =
    let visited = at.seen.visited_is in
    record {
      pairs = at.pairs ++ p ∷ [];
      seen = more at.pairs at.seen;
      same = pairs_more at.pairs rest limit p (omega (arith, visited, less)) ∙ ap (λ l. at.pairs ++ take (limit - length at.pairs) l) (sym steps) ∙ at.same;
    }

pub stands_full : (c : State) (qs all : Pairs) (limit : ℕ) (left : Pairs) (ks : List Reference) (n : ℕ) (last : Option Reference) → limit ≤ n → StandsAt c qs all limit left ks n last
    → HasSeen c (qs ++ take (limit - length qs) all) ks n last
stands_full c qs all limit left ks n last full at =
    let visited = at.seen.visited_is in
    let none : limit - length at.pairs ≡ 0 = omega (arith, visited, full) in
    subst (λ ps. HasSeen c ps ks n last) (sym (append-nil at.pairs) ∙ ap (λ i. at.pairs ++ take i left) (sym none) ∙ at.same) at.seen

pub stands_last : (c : State) (qs all : Pairs) (limit : ℕ) (left : Pairs) (ks : List Reference) (n : ℕ) (last : Option Reference) → left ≡ [] → StandsAt c qs all limit left ks n last
    → HasSeen c (qs ++ take (limit - length qs) all) ks n last
stands_last c qs all limit left ks n last none at =
    subst (λ ps. HasSeen c ps ks n last)
    (sym (append-nil at.pairs) ∙ ap (λ l. at.pairs ++ l) (sym (take_all (limit - length at.pairs) [] (omega arith))) ∙ ap (λ l. at.pairs ++ take (limit - length at.pairs) l) (sym none) ∙ at.same) at.seen

-- what stands before a cut, where the first that is left doesn't
pub pairs_past : (high : Cut) (qs ps : Pairs) (p : Reference × ℕ) → qs ≡ p ∷ ps → is_sorted ref_cmp qs ≡ true → stands_before high p.0 ≡ false → filter (λ q. stands_before high q.0) qs ≡ []
pairs_past high qs ps p steps h out =
    let rest = filter (λ (q : Reference × ℕ). stands_before high q.0) ps in
    ap (filter (λ (q : Reference × ℕ). stands_before high q.0)) steps
    ∙ ap (λ b. cond b (p ∷ rest) rest) out
    ∙ none_pass ref_cmp (stands_before high) p.0 ps (λ y less. still_fails ref_cmp (stands_before high) (stands_before-earlier high) p.0 y out less) (first_so (below_all ref_cmp p.0 ps) _ (ap (is_sorted ref_cmp) (sym steps) ∙ h))

-- and where it does
pub pairs_before : (high : Cut) (qs ps : Pairs) (p : Reference × ℕ) → qs ≡ p ∷ ps → stands_before high p.0 ≡ true → filter (λ q. stands_before high q.0) qs ≡ p ∷ filter (λ q. stands_before high q.0) ps
pairs_before high qs ps p steps inside =
    let rest = filter (λ (q : Reference × ℕ). stands_before high q.0) ps in
    ap (filter (λ (q : Reference × ℕ). stands_before high q.0)) steps ∙ ap (λ b. cond b (p ∷ rest) rest) inside

-- ---- from the tree's pairs to the references in turn

-- each pair's key has the versions under its id
abbrev AreRows : State → Versions → Pairs → Type 0
AreRows c m [] = Unit {0}
AreRows c m (p ∷ ps) = (versions_of m p.0 ≡ versions_at c p.1) × AreRows c m ps

rows_found : (c : State) (m : Versions) (ps : Pairs) → is_sorted ref_cmp ps ≡ true → ((q : Reference) (id : ℕ) → finmap.find ref_cmp q ps ≡ Some id → versions_of m q ≡ versions_at c id) → AreRows c m ps
rows_found c m [] h is = tt
rows_found c m (p ∷ ps) h is =
    (is p.0 p.1 (first_found p ps), rows_found c m ps (second_so (below_all ref_cmp p.0 ps) _ h) (λ q id at. is q id (found_behind p ps q id h at)))

rows_in : (c : State) (ps : Pairs) → is_sorted ref_cmp ps ≡ true → AreRows c (versions_in c ps) ps
rows_in c ps h = rows_found c (versions_in c ps) ps h (λ q id at. ap listed (get_at c ps q id h at))

rows_filter : (c : State) (m : Versions) (P : Reference × ℕ → Bool) (ps : Pairs) → AreRows c m ps → AreRows c m (filter P ps)
rows_filter c m P [] are = tt
rows_filter c m P (p ∷ ps) are = by_test (P p) (rows_filter c m P ps are.1)
  where
    by_test : (b : Bool) → AreRows c m (filter P ps) → AreRows c m (cond b (p ∷ filter P ps) (filter P ps))
    by_test true rest = (are.0, rest)
    by_test false rest = rest

rows_both : (c : State) (m : Versions) (ps qs : Pairs) → AreRows c m ps → AreRows c m qs → AreRows c m (ps ++ qs)
rows_both c m [] qs first second = second
rows_both c m (p ∷ ps) qs first second = (first.0, rows_both c m ps qs first.1 second)

rows_take : (c : State) (m : Versions) (n : ℕ) (ps : Pairs) → AreRows c m ps → AreRows c m (take n ps)
rows_take c m zero ps are = tt
rows_take c m (suc n) [] are = tt
rows_take c m (suc n) (p ∷ ps) are = (are.0, rows_take c m n ps are.1)

keys_take : (n : ℕ) (ps : Pairs) → keys_of (take n ps) ≡ take n (keys_of ps)
keys_take zero ps = refl
keys_take (suc n) [] = refl
keys_take (suc n) (p ∷ ps) = ap (λ l. p.0 ∷ l) (keys_take n ps)

keys_both : (ps qs : Pairs) → keys_of (ps ++ qs) ≡ keys_of ps ++ keys_of qs
keys_both [] qs = refl
keys_both (p ∷ ps) qs = ap (λ l. p.0 ∷ l) (keys_both ps qs)

-- what is worth a cut, by the keys
worth_rows : (c : State) (m : Versions) (ps : Pairs) → AreRows c m ps → keys_worth c ps ≡ filter (is_worth_a_cut m) (keys_of ps)
worth_rows c m [] are = refl
worth_rows c m (p ∷ ps) are = by_test (is_one_value (versions_at c p.1)) (is_one_value (versions_of m p.0)) (ap is_one_value are.0) (worth_rows c m ps are.1)
  where
    worth : Pairs
    worth = filter (λ r. not (is_one_value (versions_at c r.1))) ps

    rest : List Reference
    rest = filter (is_worth_a_cut m) (keys_of ps)

    by_test : (b d : Bool) → d ≡ b → keys_of worth ≡ rest → keys_of (cond (not b) (p ∷ worth) worth) ≡ cond (not d) (p.0 ∷ rest) rest
    by_test true d e is = rw e is
    by_test false d e is = rw e (ap (λ l. p.0 ∷ l) is)

-- pairs that were seen are what is next, where their keys are
next_seen : (c : State) (limit : ℕ) (s : Stored) (ps : Pairs) (ks : List Reference) (n : ℕ) (last : Option Reference) → AreRows c s.versions ps → keys_of ps ≡ next_in_turn limit s → HasSeen c ps ks n last
    → AreNextVisits limit s ks n last
next_seen c limit s ps ks n last are turn seen =
    let long = length-map ps (λ (p : Reference × ℕ). p.0) in
    let same = ap (λ (l : List Reference). length l) turn in
    let visited = seen.visited_is in
    record {
      keys_are = seen.keys_are ∙ worth_rows c s.versions ps are ∙ ap (filter (is_worth_a_cut s.versions)) turn;
      visited_is = omega (arith, visited, long, same);
      last_is = seen.last_is ∙ ap (last_or None) turn;
    }

seen_none : (c : State) (ks : List Reference) (n : ℕ) (last : Option Reference) → length ks ≡ 0 → n ≡ 0 → last ≡ None → HasSeen c [] ks n last
seen_none c [] n last none begun at = record { keys_are = refl; visited_is = begun; last_is = at }
seen_none c (k ∷ ks) n last none begun at = absurd (omega (arith, none))

next_unmarked : (c : State) (ps : Pairs) (limit : ℕ) (s : Stored) (ks : List Reference) (n : ℕ) (last : Option Reference) → is_sorted ref_cmp ps ≡ true → s.versions ≡ versions_in c ps → s.mark ≡ None
    → HasSeen c ([] ++ take (limit - 0) ps) ks n last → AreNextVisits limit s ks n last
next_unmarked c ps limit s ks n last h versions mark seen =
    next_seen c limit s (take (limit - 0) ps) ks n last
    (subst (λ m. AreRows c m (take (limit - 0) ps)) (sym versions) (rows_take c (versions_in c ps) (limit - 0) ps (rows_in c ps h)))
    (rw (mark, versions) (turn_unmarked limit c ps [] (keys_of (take (limit - 0) ps)) h refl (keys_take (limit - 0) ps)))
    seen

next_marked : (c : State) (ps : Pairs) (limit : ℕ) (s : Stored) (mark : Reference) (first : Pairs) (ks : List Reference) (n : ℕ) (last : Option Reference) → is_sorted ref_cmp ps ≡ true → s.versions ≡ versions_in c ps → s.mark ≡ Some mark
    → first ≡ [] ++ take (limit - 0) (filter (λ p. not (not (is_behind (Some mark) p.0))) ps)
    → HasSeen c (first ++ take (limit - length first) (filter (λ p. not (is_behind (Some mark) p.0)) ps)) ks n last → AreNextVisits limit s ks n last
next_marked c ps limit s mark first ks n last h versions at is seen =
    let behind = filter (λ (p : Reference × ℕ). not (not (is_behind (Some mark) p.0))) ps in
    let others = filter (λ (p : Reference × ℕ). not (is_behind (Some mark) p.0)) ps in
    let rows = rows_in c ps h in
    let one : keys_of first ≡ [] ++ take (limit - 0) (keys_of behind) = ap keys_of is ∙ keys_take (limit - 0) behind in
    let two : keys_of (first ++ take (limit - length first) others) ≡ keys_of first ++ take (limit - length (keys_of first)) (filter (λ x. not (is_behind (Some mark) x)) (keys_of ps)) =
    keys_both first (take (limit - length first) others)
    ∙ ap (λ l. keys_of first ++ l) (keys_take (limit - length first) others)
    ∙ ap (λ l. keys_of first ++ take (limit - length first) l) (sym (keys_filter (λ x. not (is_behind (Some mark) x)) ps))
    ∙ ap (λ i. keys_of first ++ take (limit - i) (filter (λ x. not (is_behind (Some mark) x)) (keys_of ps))) (sym (length-map first (λ (p : Reference × ℕ). p.0))) in
    next_seen c limit s (first ++ take (limit - length first) others) ks n last
    (subst (λ m. AreRows c m (first ++ take (limit - length first) others)) (sym versions)
    (rows_both c (versions_in c ps) first (take (limit - length first) others)
    (subst (AreRows c (versions_in c ps)) (sym is) (rows_take c (versions_in c ps) (limit - 0) behind (rows_filter c (versions_in c ps) (λ p. not (not (is_behind (Some mark) p.0))) ps rows)))
    (rows_take c (versions_in c ps) (limit - length first) others (rows_filter c (versions_in c ps) (λ p. not (is_behind (Some mark) p.0)) ps rows))))
    (rw (at, versions) (turn_marked mark limit c ps [] (keys_of first) (keys_of (first ++ take (limit - length first) others)) h refl one two))
    seen

-- ---- the same from what the walks answer

pub seen_unmarked : (c : State) (ps : Pairs) (limit : ℕ) (s : Stored) (js ks : List Reference) (m n : ℕ) (was last : Option Reference) → is_sorted ref_cmp ps ≡ true → s.versions ≡ versions_in c ps → s.mark ≡ None
    → length js ≡ 0 → m ≡ 0 → was ≡ None → ((qs : Pairs) → HasSeen c qs js m was → HasSeen c (qs ++ take (limit - length qs) ps) ks n last) → AreNextVisits limit s ks n last
seen_unmarked c ps limit s js ks m n was last h versions mark none begun at more =
    next_unmarked c ps limit s ks n last h versions mark (more [] (seen_none c js m was none begun at))

pub seen_marked : (c : State) (ps : Pairs) (limit : ℕ) (s : Stored) (mark : Reference) (is js ks : List Reference) (l m n : ℕ) (first was last : Option Reference) → is_sorted ref_cmp ps ≡ true → s.versions ≡ versions_in c ps → s.mark ≡ Some mark
    → length is ≡ 0 → l ≡ 0 → first ≡ None
    → ((qs : Pairs) → HasSeen c qs is l first → HasSeen c (qs ++ take (limit - length qs) (filter (λ p. not (not (is_behind (Some mark) p.0))) ps)) js m was)
    → ((qs : Pairs) → HasSeen c qs js m was → HasSeen c (qs ++ take (limit - length qs) (filter (λ p. not (is_behind (Some mark) p.0)) ps)) ks n last) → AreNextVisits limit s ks n last
seen_marked c ps limit s mark is js ks l m n first was last h versions at none begun from more others =
    let one = [] ++ take (limit - 0) (filter (λ (p : Reference × ℕ). not (not (is_behind (Some mark) p.0))) ps) in
    next_marked c ps limit s mark one ks n last h versions at refl (others one (more [] (seen_none c is l first none begun from)))
