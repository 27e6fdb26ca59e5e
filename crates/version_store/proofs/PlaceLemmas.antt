-- References that are placed already.
use Rattle.std.proofs.Common.{◌≡◌, ℕ, zero, suc, ◌+◌, ◌<◌, List, [], ◌∷◌, length, take, drop, map, get_or, refl, sym, ap, ◌∙◌, subst, arith}
use Rattle.std.proofs.lemmas.List.{drop_more}
use Rattle.std.specs.Prelude.{cond, Bool, true, false, Option, Some, None}
use Rattle.std.specs.Ordering.{eq_by_cmp}
use Rattle.std.specs.FinMap.{find}
use Rattle.std.specs.FinMap as finmap
use Rattle.std.specs.declared.cmp.Ordering.TheVariants.{Equal}
use Rattle.collation.specs.Reference.{Reference}
use Rattle.collation.specs.Order.{ref_cmp}
use Rattle.collation.specs.laws.Order.{ref_cmp_total, ref_cmp-IsAntisymmetric, is_equal}
use Rattle.collation.specs.Changes.{Change}
use Rattle.version_chain.specs.Chains.{listed}
use Rattle.version_store.specs.Versions.{Row, Versions, versions_of, all_placed, placed, is_bare, AddsNoneBare}
use Rattle.version_store.specs.Tied.{AreKeysOf}

-- the reference that a walk passes is placed, and what it passes next too
pub keys_left : (m : Versions) (qs ps : List (Reference × ℕ)) (p : Reference × ℕ) → qs ≡ p ∷ ps → AreKeysOf m qs → (finmap.contains_key m p.0 ≡ true) × AreKeysOf m ps
keys_left m qs ps p steps keys = subst (AreKeysOf m) steps keys

-- the first of those that are left is placed
pub placed_next : (m : Versions) (cs : List Change) (i : ℕ) (c : Change) → i < length cs → c ≡ get_or cs i c → all_placed (map (λ d. d.0) (drop (i + 1) cs)) (placed c.0 m) ≡ all_placed (map (λ d. d.0) (drop i cs)) m
placed_next m cs i c low is = ap (λ ds. all_placed (map (λ d. d.0) ds) m) (sym (drop_more cs i c low ∙ ap (λ d. d ∷ drop (i + 1) cs) (sym is)))

-- where a change is of the reference that a walk passes, the others are all that have to be placed
pub placed_along : (m : Versions) (cs : List Change) (i : ℕ) (c : Change) (k : Reference) → i < length cs → c ≡ get_or cs i c → Equal ≡ ref_cmp c.0 k → finmap.contains_key m k ≡ true
    → all_placed (map (λ d. d.0) (drop (i + 1) cs)) m ≡ all_placed (map (λ d. d.0) (drop i cs)) m
placed_along m cs i c k low is tie there =
    let same : c.0 ≡ k = ref_cmp-IsAntisymmetric c.0 k (sym tie) in
    let rest = map {A = Change} (λ d. d.0) (drop (i + 1) cs) in
    ap (λ b. all_placed rest (cond b m (finmap.insert m c.0 []))) (sym (ap (finmap.contains_key m) same ∙ there)) ∙ placed_next m cs i c low is

-- ---- what is placed, and taken out again

found_of : (x : Reference) (c : Change) (o : Option (Option (List ℕ))) → cond (eq_by_cmp ref_cmp x c.0) (Some c.1) o ≡ None → (eq_by_cmp ref_cmp x c.0 ≡ false) × (o ≡ None)
found_of x c o none = by_tie (eq_by_cmp ref_cmp x c.0) none
  where
    by_tie : (t : Bool) → cond t (Some c.1) o ≡ None → (t ≡ false) × (o ≡ None)
    by_tie true never = absurd (cc)
    by_tie false is = (refl, is)

-- a reference that isn't among changes isn't that of one of them
pub apart_at : (x : Reference) (cs : List Change) (i : ℕ) (c : Change) → find ref_cmp x cs ≡ None → i < length cs → c ≡ get_or cs i c → eq_by_cmp ref_cmp x c.0 ≡ false
apart_at x [] i c none low is = absurd (omega (arith, low))
apart_at x (d ∷ cs) zero c none low is = ap (λ (e : Change). eq_by_cmp ref_cmp x e.0) is ∙ (let f = found_of x d (find ref_cmp x cs) none in f.0)
apart_at x (d ∷ cs) (suc i) c none low is = apart_at x cs i c (let f = found_of x d (find ref_cmp x cs) none in f.1) (omega (arith, low)) is

-- nor among the last of them
pub apart_of_drop : (x : Reference) (cs : List Change) (i : ℕ) → find ref_cmp x cs ≡ None → find ref_cmp x (drop i cs) ≡ None
apart_of_drop x cs zero none = none
apart_of_drop x [] (suc i) none = refl
apart_of_drop x (d ∷ cs) (suc i) none = apart_of_drop x cs i (let f = found_of x d (find ref_cmp x cs) none in f.1)

pub apart_of_take : (x : Reference) (cs : List Change) (i : ℕ) → find ref_cmp x cs ≡ None → find ref_cmp x (take i cs) ≡ None
apart_of_take x cs zero none = refl
apart_of_take x [] (suc i) none = refl
apart_of_take x (d ∷ cs) (suc i) none = let f = found_of x d (find ref_cmp x cs) none in ap (λ t. cond t (Some d.1) (find ref_cmp x (take i cs))) f.0 ∙ apart_of_take x cs i f.1

-- taken out where it is bare, it isn't bare, and no other is that wasn't
pub taken_out : (m : Versions) (k x : Reference) (b : Bool) → b ≡ is_bare (finmap.get m k) → is_bare (finmap.get (cond b (finmap.remove m k) m) x) ≡ true → (eq_by_cmp ref_cmp x k ≡ false) × (is_bare (finmap.get m x) ≡ true)
taken_out m k x true is bare = by_tie (eq_by_cmp ref_cmp x k) refl (ap is_bare (sym (finmap.get-remove ref_cmp_total m k x)) ∙ bare)
  where
    by_tie : (t : Bool) → eq_by_cmp ref_cmp x k ≡ t → is_bare (cond t None (finmap.get m x)) ≡ true → (t ≡ false) × (is_bare (finmap.get m x) ≡ true)
    by_tie true tie h = absurd (cc)
    by_tie false tie h = (refl, h)
taken_out m k x false is bare = by_tie (eq_by_cmp ref_cmp x k) refl
  where
    by_tie : (t : Bool) → eq_by_cmp ref_cmp x k ≡ t → (t ≡ false) × (is_bare (finmap.get m x) ≡ true)
    by_tie true tie =
        let same : x ≡ k = ref_cmp-IsAntisymmetric x k (is_equal (ref_cmp x k) tie) in
        let never : true ≡ false = sym bare ∙ ap (λ y. is_bare (finmap.get m y)) same ∙ sym is in
        absurd (cc)
    by_tie false tie = (refl, bare)

-- all or none
pub none_added : (cs : List Change) (k n : ℕ) (old mid new : Versions)
    → ((x : Reference) → find ref_cmp x (take k (drop n cs)) ≡ None → finmap.get mid x ≡ finmap.get old x)
    → ((x : Reference) → is_bare (finmap.get new x) ≡ true → (is_bare (finmap.get mid x) ≡ true) × (find ref_cmp x cs ≡ None))
    → AddsNoneBare old new
none_added cs k n old mid new others left x bare =
    let l = left x bare in
    ap is_bare (sym (others x (apart_of_take x (drop n cs) k (apart_of_drop x cs n l.1)))) ∙ l.0

-- its versions are as they were: it had none
pub rows_out : (m : Versions) (k : Reference) (b : Bool) → b ≡ is_bare (finmap.get m k) → (r : Reference) → versions_of (cond b (finmap.remove m k) m) r ≡ versions_of m r
rows_out m k false is r = refl
rows_out m k true is r = ap listed (finmap.get-remove ref_cmp_total m k r) ∙ by_tie (eq_by_cmp ref_cmp r k) refl
  where
    none_in : (o : Option Row) → true ≡ is_bare o → [] ≡ listed o
    none_in None never = absurd (cc)
    none_in (Some []) bare = refl
    none_in (Some (v ∷ vs)) never = absurd (cc)

    by_tie : (t : Bool) → eq_by_cmp ref_cmp r k ≡ t → listed (cond t None (finmap.get m r)) ≡ listed (finmap.get m r)
    by_tie true tie = none_in (finmap.get m r) (is ∙ ap (λ q. is_bare (finmap.get m q)) (sym (ref_cmp-IsAntisymmetric r k (is_equal (ref_cmp r k) tie))))
    by_tie false tie = refl

-- one that is neither the first of those that are left nor among the others is not among them
pub apart_of_next : (x : Reference) (cs : List Change) (i : ℕ) (c : Change) → i < length cs → c ≡ get_or cs i c → eq_by_cmp ref_cmp x c.0 ≡ false → find ref_cmp x (drop (i + 1) cs) ≡ None → find ref_cmp x (drop i cs) ≡ None
apart_of_next x cs i c low is other none =
    ap (find ref_cmp x) (drop_more cs i c low ∙ ap (λ d. d ∷ drop (i + 1) cs) (sym is)) ∙ ap (λ t. cond t (Some c.1) (find ref_cmp x (drop (i + 1) cs))) other ∙ none
