-- Keys that are copied off a walk over the tree, until there are so many.
use Rattle.std.proofs.Common.{◌≡◌, ℕ, zero, suc, ◌-◌, ◌<◌, List, [], ◌∷◌, ◌++◌, length, refl, sym, ap, ◌∙◌, arith}
use Rattle.std.proofs.lemmas.List.{append-nil, append_assoc, length_push, length-map, take_all}
use Rattle.std.specs.Prelude.{Bool, true, false, not, cond, filter, take, None, Some, Result, Ok, Err, OnOk}
use Rattle.std.specs.Cmp.{first_so}
use Rattle.std.specs.FinMap as finmap
use Rattle.std.specs.FinMap.{is_sorted, len-entries}
use Rattle.std.specs.FinMap.Entries.{below_all}
use Rattle.collation.specs.Reference.{Reference}
use Rattle.collation.specs.Order.{ref_cmp}
use Rattle.globals.specs.declared.cut.Cut.{Cut}
use Rattle.globals.specs.Cuts.{stands_before}
use Rattle.globals.specs.laws.Nearest.{none_pass, still_fails}
use Rattle.globals.specs.laws.Cuts.{stands_before-earlier}
use Rattle.version_store.specs.Versions.{keys_of, is_behind, in_turn}
use Rattle.version_store.specs.Tied.{rows, versions_in}
use Rattle.version_store.proofs.TiedLemmas.{State, Pairs, entries_in}

-- what holds on success goes on
pub on_ok : {T E : Type 0} {A B : Type 0} (r : Result T E) → (A → B) → OnOk r A → OnOk r B
on_ok (Ok x) f a = f a
on_ok (Err e) f a = tt

-- one key more
pub turn_more : (ks rest : List Reference) (n : ℕ) (k : Reference) → length ks < n → (ks ++ k ∷ []) ++ take (n - length (ks ++ k ∷ [])) rest ≡ ks ++ take (n - length ks) (k ∷ rest)
turn_more ks rest n k less =
    let longer = length_push ks k in
    let more : n - length ks ≡ suc (n - length (ks ++ k ∷ [])) = omega (arith, longer, less) in
    append_assoc ks (k ∷ []) (take (n - length (ks ++ k ∷ [])) rest) ∙ ap (λ i. ks ++ take i (k ∷ rest)) (sym more)

-- the same from the list that was left
pub turn_step : (ks js left rest all : List Reference) (n : ℕ) (k : Reference) → js ≡ ks ++ k ∷ [] → left ≡ k ∷ rest → length ks < n → ks ++ take (n - length ks) left ≡ all → js ++ take (n - length js) rest ≡ all
turn_step ks js left rest all n k pushed steps less is =
    ap (λ l. l ++ take (n - length l) rest) pushed ∙ turn_more ks rest n k less ∙ ap (λ l. ks ++ take (n - length ks) l) (sym steps) ∙ is

-- nothing is left
pub turn_none : (ks : List Reference) (n : ℕ) → ks ++ take n [] ≡ ks
turn_none ks n = ap (λ l. ks ++ l) (take_all n [] (omega arith)) ∙ append-nil ks

pub keys_filter : (P : Reference → Bool) (ps : Pairs) → filter P (keys_of ps) ≡ keys_of (filter (λ p. P p.0) ps)
keys_filter P [] = refl
keys_filter P (p ∷ ps) = by_test (P p.0) (keys_filter P ps)
  where
    by_test : (b : Bool) → filter P (keys_of ps) ≡ keys_of (filter (λ q. P q.0) ps) → cond b (p.0 ∷ filter P (keys_of ps)) (filter P (keys_of ps)) ≡ keys_of (cond b (p ∷ filter (λ q. P q.0) ps) (filter (λ q. P q.0) ps))
    by_test true rest = ap (λ l. p.0 ∷ l) rest
    by_test false rest = rest

-- what stands before a cut, where the first that is left doesn't
pub none_before : (high : Cut) (ps : Pairs) (p : Reference × ℕ) → is_sorted ref_cmp (p ∷ ps) ≡ true → stands_before high p.0 ≡ false → filter (stands_before high) (keys_of (p ∷ ps)) ≡ []
none_before high ps p h out =
    ap (λ b. cond b (p.0 ∷ filter (stands_before high) (keys_of ps)) (filter (stands_before high) (keys_of ps))) out
    ∙ keys_filter (stands_before high) ps
    ∙ ap keys_of (none_pass ref_cmp (stands_before high) p.0 ps (λ y less. still_fails ref_cmp (stands_before high) (stands_before-earlier high) p.0 y out less) (first_so (below_all ref_cmp p.0 ps) _ h))

pub turn_past : (high : Cut) (ks all : List Reference) (n : ℕ) (qs ps : Pairs) (p : Reference × ℕ) → qs ≡ p ∷ ps → is_sorted ref_cmp qs ≡ true → stands_before high p.0 ≡ false
    → ks ++ take (n - length ks) (filter (stands_before high) (keys_of qs)) ≡ all → ks ≡ all
turn_past high ks all n qs ps p steps h out is =
    let none = none_before high ps p (ap (is_sorted ref_cmp) (sym steps) ∙ h) out in
    sym (turn_none ks (n - length ks)) ∙ ap (λ l. ks ++ take (n - length ks) l) (sym (ap (λ l. filter (stands_before high) (keys_of l)) steps ∙ none)) ∙ is

-- the first that is left stands before the cut
pub first_before : (high : Cut) (qs ps : Pairs) (p : Reference × ℕ) → qs ≡ p ∷ ps → stands_before high p.0 ≡ true → filter (stands_before high) (keys_of qs) ≡ p.0 ∷ filter (stands_before high) (keys_of ps)
first_before high qs ps p steps inside =
    ap (λ l. filter (stands_before high) (keys_of l)) steps ∙ ap (λ b. cond b (p.0 ∷ filter (stands_before high) (keys_of ps)) (filter (stands_before high) (keys_of ps))) inside

pub len_in : (c : State) (ps : Pairs) → is_sorted ref_cmp ps ≡ true → finmap.len (versions_in c ps) ≡ length ps
len_in c ps h = len-entries (versions_in c ps) ∙ ap (λ es. length es) (entries_in c ps h) ∙ length-map ps (λ p. (p.0, _))

-- ---- the keys in turn, from those of the tree

keys_rows : (c : State) (ps : Pairs) → keys_of (rows c ps) ≡ keys_of ps
keys_rows c [] = refl
keys_rows c (p ∷ ps) = ap (λ l. p.0 ∷ l) (keys_rows c ps)

pub keys_in : (c : State) (ps : Pairs) → is_sorted ref_cmp ps ≡ true → keys_of (finmap.entries (versions_in c ps)) ≡ keys_of ps
keys_in c ps h = ap keys_of (entries_in c ps h) ∙ keys_rows c ps

all_pass : (rs : List Reference) → filter (is_behind None) rs ≡ rs
all_pass [] = refl
all_pass (r ∷ rs) = ap (λ l. r ∷ l) (all_pass rs)

none_fails : (rs : List Reference) → filter (λ r. not (is_behind None r)) rs ≡ []
none_fails [] = refl
none_fails (r ∷ rs) = none_fails rs

twice_not : (b : Bool) → not (not b) ≡ b
twice_not true = refl
twice_not false = refl

all_left : (n : ℕ) (xs : List Reference) → take (n - 0) xs ≡ take n xs
all_left n xs = let same : n - 0 ≡ n = omega arith in ap (λ i. take i xs) same

-- two parts, of which the second is taken where the first ends
take_both : (n : ℕ) (xs ys : List Reference) → take n xs ++ take (n - length (take n xs)) ys ≡ take n (xs ++ ys)
take_both zero xs ys = refl
take_both (suc n) [] ys = all_left (suc n) ys
take_both (suc n) (x ∷ xs) ys =
    let same : suc n - suc (length (take n xs)) ≡ n - length (take n xs) = omega arith in
    ap (λ i. x ∷ (take n xs ++ take i ys)) same ∙ ap (λ l. x ∷ l) (take_both n xs ys)

pub turn_unmarked : (limit : ℕ) (c : State) (ps : Pairs) (ks js : List Reference) → is_sorted ref_cmp ps ≡ true → length ks ≡ 0 → js ≡ ks ++ take (limit - length ks) (keys_of ps) → js ≡ take limit (in_turn None (versions_in c ps))
turn_unmarked limit c ps [] js h none is =
    is ∙ all_left limit (keys_of ps) ∙ sym (ap (take limit) (ap (λ l. filter (is_behind None) l ++ filter (λ r. not (is_behind None r)) l) (keys_in c ps h) ∙ ap (λ l. l ++ filter (λ r. not (is_behind None r)) (keys_of ps)) (all_pass (keys_of ps)) ∙ ap (λ l. keys_of ps ++ l) (none_fails (keys_of ps)) ∙ append-nil (keys_of ps)))
turn_unmarked limit c ps (k ∷ ks) js h none is = absurd (omega (arith, none))

pub turn_marked : (mark : Reference) (limit : ℕ) (c : State) (ps : Pairs) (ks is js : List Reference) → is_sorted ref_cmp ps ≡ true → length ks ≡ 0
    → is ≡ ks ++ take (limit - length ks) (keys_of (filter (λ p. not (not (is_behind (Some mark) p.0))) ps))
    → js ≡ is ++ take (limit - length is) (filter (λ x. not (is_behind (Some mark) x)) (keys_of ps)) → js ≡ take limit (in_turn (Some mark) (versions_in c ps))
turn_marked mark limit c ps [] is js h none first second =
    let others = filter (λ x. not (is_behind (Some mark) x)) (keys_of ps) in
    let behind : keys_of (filter (λ p. not (not (is_behind (Some mark) p.0))) ps) ≡ filter (is_behind (Some mark)) (keys_of ps) =
    sym (keys_filter (λ x. not (not (is_behind (Some mark) x))) ps) ∙ (λ i. filter (λ x. twice_not (is_behind (Some mark) x) i) (keys_of ps)) in
    let one = first ∙ all_left limit (keys_of (filter (λ p. not (not (is_behind (Some mark) p.0))) ps)) ∙ ap (take limit) behind in
    second ∙ ap (λ l. l ++ take (limit - length l) others) one
    ∙ take_both limit (filter (is_behind (Some mark)) (keys_of ps)) others
    ∙ ap (λ l. take limit (filter (is_behind (Some mark)) l ++ filter (λ r. not (is_behind (Some mark) r)) l)) (sym (keys_in c ps h))
turn_marked mark limit c ps (k ∷ ks) is js h none first second = absurd (omega (arith, none))
