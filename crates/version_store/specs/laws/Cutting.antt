-- Laws of changes that are cut as they are written, for callers.
use Rattle.std.proofs.Common.{◌≡◌, ℕ, ◌≤◌, List, [], ◌∷◌, refl, sym, ap, subst, ◌∙◌}
use Rattle.std.specs.Prelude.{Bool, true, false, cond, Option, Some, None, is_some}
use Rattle.std.specs.Ordering.{eq_by_cmp}
use Rattle.std.specs.Cmp.{eq_by_cmp_equiv}
use Rattle.std.specs.FinMap as finmap
use Rattle.std.specs.FinMap.{find, get, get-insert, get-remove}
use Rattle.collation.specs.Reference.{Reference}
use Rattle.collation.specs.Order.{ref_cmp}
use Rattle.collation.specs.laws.Order.{ref_cmp_total, ref_cmp-IsAntisymmetric, is_equal}
use Rattle.version_chain.specs.Versions.{at_of, IsAbove}
use Rattle.version_chain.specs.Chains.{listed}
use Rattle.version_chain.specs.Cut.{left_after}
use Rattle.version_chain.specs.laws.Cut.{at_of-left_after}
use Rattle.version_store.specs.Versions.{Row, Versions, content_at, versions_of, with_version, written, ArePlaced, AreBelow, row_after, is_bare, unless_bare, tidied, written_and_cut, row_cut}
use Rattle.collation.specs.Changes.{Change, AreOnce}
use Rattle.version_store.specs.laws.Content.{get_same, content_alike, rows_written}

-- ---- a reference that is tidied

bare_row : (o : Option Row) → is_bare o ≡ true → listed o ≡ []
bare_row None bare = refl
bare_row (Some []) bare = refl
bare_row (Some (v ∷ vs)) bare = absurd (cc)

-- another reference is found as before
get_unless_bare : (r q : Reference) (m : Versions) → eq_by_cmp ref_cmp q r ≡ false → get (unless_bare r m) q ≡ get m q
get_unless_bare r q m other = by_bare (is_bare (get m r))
  where
    by_bare : (t : Bool) → get (cond t (finmap.remove m r) m) q ≡ get m q
    by_bare true = get-remove ref_cmp_total m r q ∙ ap (λ b. cond b None (get m q)) other
    by_bare false = refl

-- and no reference has other versions
rows_unless_bare : (r q : Reference) (m : Versions) → versions_of (unless_bare r m) q ≡ versions_of m q
rows_unless_bare r q m = by_bare (is_bare (get m r)) refl
  where
    by_tie : (t : Bool) → (t ≡ true → versions_of m q ≡ []) → listed (cond t None (get m q)) ≡ versions_of m q
    by_tie true none = sym (none refl)
    by_tie false none = refl

    by_bare : (t : Bool) → is_bare (get m r) ≡ t → versions_of (cond t (finmap.remove m r) m) q ≡ versions_of m q
    by_bare true bare = ap listed (get-remove ref_cmp_total m r q) ∙ by_tie (eq_by_cmp ref_cmp q r) (λ t. ap listed (get_same m q r t) ∙ bare_row (get m r) bare)
    by_bare false bare = refl

pub get_tidied : (horizon : ℕ) (r q : Reference) (m : Versions) → eq_by_cmp ref_cmp q r ≡ false → get (tidied horizon r m) q ≡ get m q
get_tidied horizon r q m other =
    get_unless_bare r q (finmap.insert m r (left_after horizon (versions_of m r))) other
    ∙ get-insert ref_cmp_total m r (left_after horizon (versions_of m r)) q ∙ ap (λ b. cond b (Some (left_after horizon (versions_of m r))) (get m q)) other

listed_cond : (t : Bool) (vs : Row) (o : Option Row) → listed (cond t (Some vs) o) ≡ cond t vs (listed o)
listed_cond true vs o = refl
listed_cond false vs o = refl

pub rows_tidied : (horizon : ℕ) (r q : Reference) (m : Versions) → versions_of (tidied horizon r m) q ≡ cond (eq_by_cmp ref_cmp q r) (left_after horizon (versions_of m r)) (versions_of m q)
rows_tidied horizon r q m =
    rows_unless_bare r q (finmap.insert m r (left_after horizon (versions_of m r)))
    ∙ ap listed (get-insert ref_cmp_total m r (left_after horizon (versions_of m r)) q)
    ∙ listed_cond (eq_by_cmp ref_cmp q r) (left_after horizon (versions_of m r)) (get m q)

itself : (r : Reference) → eq_by_cmp ref_cmp r r ≡ true
itself r = let laws = eq_by_cmp_equiv ref_cmp_total in laws.refl r

row_with : (stamp : ℕ) (c : Change) (m : Versions) → versions_of (with_version stamp c m) c.0 ≡ (stamp, c.1) ∷ versions_of m c.0
row_with stamp c m =
    ap listed (get-insert ref_cmp_total m c.0 ((stamp, c.1) ∷ versions_of m c.0) c.0)
    ∙ listed_cond (eq_by_cmp ref_cmp c.0 c.0) ((stamp, c.1) ∷ versions_of m c.0) (get m c.0)
    ∙ ap (λ b. cond b ((stamp, c.1) ∷ versions_of m c.0) (versions_of m c.0)) (itself c.0)

-- the versions once one change is written and cut
row_one : (stamp horizon : ℕ) (c : Change) (q : Reference) (m : Versions)
    → versions_of (tidied horizon c.0 (with_version stamp c m)) q ≡ cond (eq_by_cmp ref_cmp q c.0) (left_after horizon ((stamp, c.1) ∷ versions_of m c.0)) (versions_of m q)
row_one stamp horizon c q m =
    rows_tidied horizon c.0 q (with_version stamp c m)
    ∙ ap (λ vs. cond (eq_by_cmp ref_cmp q c.0) (left_after horizon vs) (versions_of (with_version stamp c m) q)) (row_with stamp c m)
    ∙ by_tie (eq_by_cmp ref_cmp q c.0) refl
  where
    by_tie : (t : Bool) → eq_by_cmp ref_cmp q c.0 ≡ t → cond t (left_after horizon ((stamp, c.1) ∷ versions_of m c.0)) (versions_of (with_version stamp c m) q) ≡ cond t (left_after horizon ((stamp, c.1) ∷ versions_of m c.0)) (versions_of m q)
    by_tie true t = refl
    by_tie false t = ap listed (get-insert ref_cmp_total m c.0 ((stamp, c.1) ∷ versions_of m c.0) q) ∙ ap (λ b. listed (cond b (Some ((stamp, c.1) ∷ versions_of m c.0)) (get m q))) t

-- ---- all changes

pub rows_cut : (stamp horizon : ℕ) (cs : List Change) (m : Versions) (r : Reference) → AreOnce cs → versions_of (written_and_cut stamp horizon cs m) r ≡ row_cut stamp horizon (find ref_cmp r cs) (versions_of m r)
rows_cut stamp horizon [] m r apart = refl
rows_cut stamp horizon (c ∷ cs) m r apart =
    rows_cut stamp horizon cs (tidied horizon c.0 (with_version stamp c m)) r apart.1
    ∙ ap (row_cut stamp horizon (find ref_cmp r cs)) (row_one stamp horizon c r m)
    ∙ by_tie (eq_by_cmp ref_cmp r c.0) (λ t. ref_cmp-IsAntisymmetric r c.0 (is_equal _ t))
  where
    by_tie : (t : Bool) → (t ≡ true → r ≡ c.0)
        → row_cut stamp horizon (find ref_cmp r cs) (cond t (left_after horizon ((stamp, c.1) ∷ versions_of m c.0)) (versions_of m r)) ≡ row_cut stamp horizon (cond t (Some c.1) (find ref_cmp r cs)) (versions_of m r)
    by_tie true f =
        let same = f refl in
        ap (λ o. row_cut stamp horizon o (left_after horizon ((stamp, c.1) ∷ versions_of m c.0))) (ap (λ x. find ref_cmp x cs) same ∙ apart.0)
        ∙ ap (λ x. left_after horizon ((stamp, c.1) ∷ versions_of m x)) (sym same)
    by_tie false f = refl

-- from the horizon on the content is as without the cut
pub content_cut_at : (stamp horizon s : ℕ) (cs : List Change) (m : Versions) → AreOnce cs → horizon ≤ s → content_at (written_and_cut stamp horizon cs m) s ≡ content_at (written stamp cs m) s
content_cut_at stamp horizon s cs m apart le = content_alike _ _ s (λ r.
    ap (at_of s) (rows_cut stamp horizon cs m r apart) ∙ by_found (find ref_cmp r cs) (versions_of m r) ∙ ap (at_of s) (sym (rows_written stamp cs m r apart)))
  where
    by_found : (o : Option (Option (List ℕ))) (vs : Row) → at_of s (row_cut stamp horizon o vs) ≡ at_of s (row_after stamp o vs)
    by_found None vs = refl
    by_found (Some x) vs = at_of-left_after horizon s ((stamp, x) ∷ vs) le

-- ---- what a list of changes asks for still holds after the first

pub other_key : (k : Reference) (c : Change) (cs : List Change) → find ref_cmp k (c ∷ cs) ≡ None → eq_by_cmp ref_cmp c.0 k ≡ false
other_key k c cs none = let laws = eq_by_cmp_equiv ref_cmp_total in laws.symm c.0 k ∙ by_tie (eq_by_cmp ref_cmp k c.0) none
  where
    by_tie : (t : Bool) → cond t (Some c.1) (find ref_cmp k cs) ≡ None → t ≡ false
    by_tie true e = absurd (cc)
    by_tie false e = refl

pub other_keys : (k : Reference) (c : Change) (cs : List Change) → find ref_cmp k (c ∷ cs) ≡ None → find ref_cmp k cs ≡ None
other_keys k c cs = by_tie (eq_by_cmp ref_cmp k c.0)
  where
    by_tie : (t : Bool) → cond t (Some c.1) (find ref_cmp k cs) ≡ None → find ref_cmp k cs ≡ None
    by_tie true e = absurd (cc)
    by_tie false e = e

-- where the others are found as before
placed_elsewhere : (k : Reference) (m n : Versions) (cs : List Change) → ((q : Reference) → eq_by_cmp ref_cmp q k ≡ false → get n q ≡ get m q) → find ref_cmp k cs ≡ None → ArePlaced m cs → ArePlaced n cs
placed_elsewhere k m n [] same e p = tt
placed_elsewhere k m n (c ∷ cs) same e p = (ap is_some (same c.0 (other_key k c cs e)) ∙ p.0, placed_elsewhere k m n cs same (other_keys k c cs e) p.1)

below_elsewhere : (stamp : ℕ) (k : Reference) (m n : Versions) (cs : List Change) → ((q : Reference) → eq_by_cmp ref_cmp q k ≡ false → get n q ≡ get m q) → find ref_cmp k cs ≡ None → AreBelow stamp m cs → AreBelow stamp n cs
below_elsewhere stamp k m n [] same e p = tt
below_elsewhere stamp k m n (c ∷ cs) same e p = (subst (λ o. IsAbove stamp (listed o)) (sym (same c.0 (other_key k c cs e))) p.0, below_elsewhere stamp k m n cs same (other_keys k c cs e) p.1)

pub get_one : (stamp horizon : ℕ) (c : Change) (m : Versions) (q : Reference) → eq_by_cmp ref_cmp q c.0 ≡ false → get (tidied horizon c.0 (with_version stamp c m)) q ≡ get m q
get_one stamp horizon c m q other =
    get_tidied horizon c.0 q (with_version stamp c m) other
    ∙ get-insert ref_cmp_total m c.0 ((stamp, c.1) ∷ versions_of m c.0) q ∙ ap (λ b. cond b (Some ((stamp, c.1) ∷ versions_of m c.0)) (get m q)) other

pub placed_cut : (stamp horizon : ℕ) (c : Change) (m : Versions) (cs : List Change) → find ref_cmp c.0 cs ≡ None → ArePlaced m cs → ArePlaced (tidied horizon c.0 (with_version stamp c m)) cs
placed_cut stamp horizon c m cs e p = placed_elsewhere c.0 m _ cs (get_one stamp horizon c m) e p

pub below_cut : (stamp horizon : ℕ) (c : Change) (m : Versions) (cs : List Change) → find ref_cmp c.0 cs ≡ None → AreBelow stamp m cs → AreBelow stamp (tidied horizon c.0 (with_version stamp c m)) cs
below_cut stamp horizon c m cs e p = below_elsewhere stamp c.0 m _ cs (get_one stamp horizon c m) e p
