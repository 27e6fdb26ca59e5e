-- Laws of content, for callers.
use Rattle.std.proofs.Common.{◌≡◌, ℕ, suc, ◌<◌, ◌≤◌, List, [], ◌∷◌, refl, sym, ap, ◌∙◌, subst, arith}
use Rattle.std.specs.Prelude.{Bool, true, false, cond, map, Option, Some, None, is_some}
use Rattle.std.specs.declared.cmp.Ordering.{Ordering}
use Rattle.std.specs.declared.cmp.Ordering.TheVariants.{Equal}
use Rattle.std.specs.Ordering.{is_lt, eq_by_cmp}
use Rattle.std.specs.Cmp.{IsTotalOrder, first_so, second_so, eq_by_cmp_equiv}
use Rattle.std.specs.Bool.{passes}
use Rattle.std.specs.Option.{option_and_then}
use Rattle.std.specs.FinMap as finmap
use Rattle.std.specs.FinMap.{FinMap, find, is_sorted, get, get-insert, get-remove, get-entries, get-from_sorted, entries_sorted, entries-from_sorted, same_map}
use Rattle.std.specs.FinMap.Entries.{below_all}
use Rattle.collation.specs.Reference.{Reference}
use Rattle.collation.specs.Order.{ref_cmp}
use Rattle.collation.specs.laws.Order.{ref_cmp_total, ref_cmp-IsAntisymmetric, is_less, is_equal}
use Rattle.collation.specs.Database.{Database}
use Rattle.globals.specs.laws.Nearest.{true_of, not_found_itself}
use Rattle.version_chain.specs.Versions.{Entry, at_of, IsAbove}
use Rattle.version_chain.specs.laws.Versions.{at_head, at_of-before, at_settled}
use Rattle.version_chain.specs.laws.Cut.{at_of-left_after}
use Rattle.version_chain.specs.Cut.{left_after}
use Rattle.version_chain.specs.Chains.{listed}
use Rattle.version_store.specs.Versions.{Row, Versions, with_value, seen_at, content_at, versions_of, with_version, written, ArePlaced, AreBelow, placed, all_placed, row_after}
use Rattle.collation.specs.Changes.{Change, set_to, changed, AreOnce}

below_tied : {K X : Type 0} (R : K → K → Ordering) → IsTotalOrder R → (q x : K) (es : List (K × X)) → R q x ≡ Equal → below_all R x es ≡ true → below_all R q es ≡ true
below_tied R o q x [] t h = refl
below_tied R o q x (e ∷ es) t h = rw (o.congr q x e.0 t ∙ is_less _ (first_so (is_lt (R x e.0)) _ h)) (below_tied R o q x es t (second_so (is_lt (R x e.0)) _ h))

module _ {K V : Type 0} (R : K → K → Ordering) where
  -- nothing new stands in front of a key
  pub below_seen : (s : ℕ) (x : K) (es : List (K × List (Entry V))) → below_all R x es ≡ true → below_all R x (seen_at s es) ≡ true
  below_seen s x [] h = refl
  below_seen s x (e ∷ es) h = by_value (at_of s e.1) (below_seen s x es (second_so (is_lt (R x e.0)) _ h))
    where
      by_value : (v : Option V) → below_all R x (seen_at s es) ≡ true → below_all R x (with_value e.0 v (seen_at s es)) ≡ true
      by_value None rest = rest
      by_value (Some v) rest = rw (first_so (is_lt (R x e.0)) _ h) rest

  pub sorted_seen : (s : ℕ) (es : List (K × List (Entry V))) → is_sorted R es ≡ true → is_sorted R (seen_at s es) ≡ true
  sorted_seen s [] h = refl
  sorted_seen s (e ∷ es) h = by_value (at_of s e.1) (sorted_seen s es (second_so (below_all R e.0 es) _ h))
    where
      by_value : (v : Option V) → is_sorted R (seen_at s es) ≡ true → is_sorted R (with_value e.0 v (seen_at s es)) ≡ true
      by_value None rest = rest
      by_value (Some v) rest = rw (below_seen s e.0 es (first_so (below_all R e.0 es) _ h)) rest

  pub find_none : (q : K) (es : List (K × V)) → below_all R q es ≡ true → find R q es ≡ None
  find_none q [] h = refl
  find_none q (e ∷ es) h = rw (is_less _ (first_so (is_lt (R q e.0)) _ h)) (find_none q es (second_so (is_lt (R q e.0)) _ h))

  pub find_seen : IsTotalOrder R → (s : ℕ) (q : K) (es : List (K × List (Entry V))) → is_sorted R es ≡ true → find R q (seen_at s es) ≡ option_and_then (at_of s) (find R q es)
  find_seen o s q [] h = refl
  find_seen o s q (e ∷ es) h = by_tie (eq_by_cmp R q e.0) refl (at_of s e.1) refl (find_seen o s q es (second_so (below_all R e.0 es) _ h))
    where
      by_tie : (t : Bool) → eq_by_cmp R q e.0 ≡ t → (v : Option V) → at_of s e.1 ≡ v → find R q (seen_at s es) ≡ option_and_then (at_of s) (find R q es) → find R q (with_value e.0 v (seen_at s es)) ≡ option_and_then (at_of s) (cond t (Some e.1) (find R q es))
      by_tie true t None v rest = find_none q (seen_at s es) (below_tied R o q e.0 (seen_at s es) (is_equal _ t) (below_seen s e.0 es (first_so (below_all R e.0 es) _ h))) ∙ sym v
      by_tie true t (Some x) v rest = ap (λ b. cond b (Some x) (find R q (seen_at s es))) t ∙ sym v
      by_tie false t None v rest = rest
      by_tie false t (Some x) v rest = ap (λ b. cond b (Some x) (find R q (seen_at s es))) t ∙ rest

sorted_entries : (m : Versions) → is_sorted ref_cmp (finmap.entries m) ≡ true
sorted_entries m = true_of _ (entries_sorted m)

-- the entries of the content
pub entries_content : (m : Versions) (s : ℕ) → finmap.entries (content_at m s) ≡ seen_at s (finmap.entries m)
entries_content m s = entries-from_sorted ref_cmp (seen_at s (finmap.entries m)) (passes _ (sorted_seen ref_cmp s (finmap.entries m) (sorted_entries m)))

-- the value of a reference at a stamp
pub get_content : (m : Versions) (s : ℕ) (q : Reference) → get (content_at m s) q ≡ option_and_then (at_of s) (get m q)
get_content m s q =
    get-from_sorted ref_cmp (seen_at s (finmap.entries m)) q (passes _ (sorted_seen ref_cmp s (finmap.entries m) (sorted_entries m)))
    ∙ find_seen ref_cmp ref_cmp_total s q (finmap.entries m) (sorted_entries m)
    ∙ ap (option_and_then (at_of s)) (sym (get-entries m q))

same_content : (d e : Database) → ((q : Reference) → get d q ≡ get e q) → d ≡ e
same_content d e is = same_map ref_cmp_total ref_cmp-IsAntisymmetric d e is

pub get_same : {X : Type 0} (m : FinMap ref_cmp X) (q k : Reference) → eq_by_cmp ref_cmp q k ≡ true → get m q ≡ get m k
get_same m q k t = ap (get m) (ref_cmp-IsAntisymmetric q k (is_equal _ t))

split : {A : Type 0} (t : Bool) (a b c : A) → (t ≡ true → a ≡ c) → (t ≡ false → b ≡ c) → cond t a b ≡ c
split true a b c first second = first refl
split false a b c first second = second refl

and_then_cond : (s : ℕ) (t : Bool) (vs : Row) (o : Option Row) → option_and_then (at_of s) (cond t (Some vs) o) ≡ cond t (at_of s vs) (option_and_then (at_of s) o)
and_then_cond s true vs o = refl
and_then_cond s false vs o = refl

at_listed : (s : ℕ) (o : Option Row) → at_of s (listed o) ≡ option_and_then (at_of s) o
at_listed s None = refl
at_listed s (Some vs) = refl

-- content after a reference has other versions
pub get_content_insert : (m : Versions) (k : Reference) (vs : Row) (s : ℕ) (q : Reference) → get (content_at (finmap.insert m k vs) s) q ≡ cond (eq_by_cmp ref_cmp q k) (at_of s vs) (get (content_at m s) q)
get_content_insert m k vs s q =
    get_content (finmap.insert m k vs) s q
    ∙ ap (option_and_then (at_of s)) (get-insert ref_cmp_total m k vs q)
    ∙ and_then_cond s (eq_by_cmp ref_cmp q k) vs (get m q)
    ∙ ap (cond (eq_by_cmp ref_cmp q k) (at_of s vs)) (sym (get_content m s q))

-- other versions that show the same at a stamp leave the content there
pub content_kept : (m : Versions) (k : Reference) (vs : Row) (s : ℕ) → at_of s vs ≡ at_of s (versions_of m k) → content_at (finmap.insert m k vs) s ≡ content_at m s
content_kept m k vs s same = same_content _ _ (λ q.
    get_content_insert m k vs s q
    ∙ split (eq_by_cmp ref_cmp q k) _ _ _
    (λ t. same ∙ at_listed s (get m k) ∙ sym (get_content m s k) ∙ sym (get_same (content_at m s) q k t))
    (λ _. refl))

-- a placed reference without versions is in no content
pub content_placed : (m : Versions) (k : Reference) (s : ℕ) → get m k ≡ None → content_at (finmap.insert m k []) s ≡ content_at m s
content_placed m k s none = content_kept m k [] s (sym (ap (λ o. at_of s (listed o)) none))

get_set_to : (r : Reference) (v : Option (List ℕ)) (d : Database) (q : Reference) → get (set_to r v d) q ≡ cond (eq_by_cmp ref_cmp q r) v (get d q)
get_set_to r None d q = get-remove ref_cmp_total d r q
get_set_to r (Some v) d q = get-insert ref_cmp_total d r v q

content_version : (m : Versions) (c : Change) (s : ℕ) → content_at (with_version s c m) s ≡ set_to c.0 c.1 (content_at m s)
content_version m c s = same_content _ _ (λ q.
    get_content_insert m c.0 ((s, c.1) ∷ versions_of m c.0) s q
    ∙ ap (λ v. cond (eq_by_cmp ref_cmp q c.0) v (get (content_at m s) q)) (at_head s c.1 (versions_of m c.0))
    ∙ sym (get_set_to c.0 c.1 (content_at m s) q))

-- at the stamp the content is the old one with the changes done
pub content_written : (s : ℕ) (cs : List Change) (m : Versions) → content_at (written s cs m) s ≡ changed cs (content_at m s)
content_written s [] m = refl
content_written s (c ∷ cs) m = content_written s cs (with_version s c m) ∙ ap (changed cs) (content_version m c s)

-- before the stamp it is as it was
pub content_before : (stamp s : ℕ) (cs : List Change) (m : Versions) → s < stamp → content_at (written stamp cs m) s ≡ content_at m s
content_before stamp s [] m before = refl
content_before stamp s (c ∷ cs) m before =
    content_before stamp s cs (with_version stamp c m) before
    ∙ content_kept m c.0 ((stamp, c.1) ∷ versions_of m c.0) s (at_of-before s stamp c.1 (versions_of m c.0) before)

-- where no version is after now, the content from now on is that at now
pub content_settled : (m : Versions) (now s : ℕ) → ((q : Reference) → IsAbove (suc now) (versions_of m q)) → now ≤ s → content_at m s ≡ content_at m now
content_settled m now s low le = same_content _ _ (λ q.
    get_content m s q ∙ sym (at_listed s (get m q)) ∙ at_settled now s (versions_of m q) (low q) le ∙ at_listed now (get m q) ∙ sym (get_content m now q))

-- ---- what a list of changes asks for still holds after the first

turned_false : (q k : Reference) → eq_by_cmp ref_cmp k q ≡ false → eq_by_cmp ref_cmp q k ≡ false
turned_false q k e = let laws = eq_by_cmp_equiv ref_cmp_total in laws.symm q k ∙ e

not_found : (k : Reference) (c : Change) (cs : List Change) → find ref_cmp k (c ∷ cs) ≡ None → eq_by_cmp ref_cmp k c.0 ≡ false
not_found k c cs = by_tie (eq_by_cmp ref_cmp k c.0)
  where
    by_tie : (t : Bool) → cond t (Some c.1) (find ref_cmp k cs) ≡ None → t ≡ false
    by_tie true e = absurd (cc)
    by_tie false e = refl

not_found_on : (k : Reference) (c : Change) (cs : List Change) → find ref_cmp k (c ∷ cs) ≡ None → find ref_cmp k cs ≡ None
not_found_on k c cs = by_tie (eq_by_cmp ref_cmp k c.0)
  where
    by_tie : (t : Bool) → cond t (Some c.1) (find ref_cmp k cs) ≡ None → find ref_cmp k cs ≡ None
    by_tie true e = absurd (cc)
    by_tie false e = e

get_apart : (m : Versions) (k : Reference) (vs : Row) (c : Change) (cs : List Change) → find ref_cmp k (c ∷ cs) ≡ None → get (finmap.insert m k vs) c.0 ≡ get m c.0
get_apart m k vs c cs e = get-insert ref_cmp_total m k vs c.0 ∙ ap (λ b. cond b (Some vs) (get m c.0)) (turned_false c.0 k (not_found k c cs e))

pub placed_on : (m : Versions) (k : Reference) (vs : Row) (cs : List Change) → find ref_cmp k cs ≡ None → ArePlaced m cs → ArePlaced (finmap.insert m k vs) cs
placed_on m k vs [] e p = tt
placed_on m k vs (c ∷ cs) e p = (ap is_some (get_apart m k vs c cs e) ∙ p.0, placed_on m k vs cs (not_found_on k c cs e) p.1)

pub below_on : (stamp : ℕ) (m : Versions) (k : Reference) (vs : Row) (cs : List Change) → find ref_cmp k cs ≡ None → AreBelow stamp m cs → AreBelow stamp (finmap.insert m k vs) cs
below_on stamp m k vs [] e p = tt
below_on stamp m k vs (c ∷ cs) e p = (subst (λ o. IsAbove stamp (listed o)) (sym (get_apart m k vs c cs e)) p.0, below_on stamp m k vs cs (not_found_on k c cs e) p.1)

above_on : (now stamp : ℕ) (vs : Row) → IsAbove (suc now) vs → now < stamp → IsAbove stamp vs
above_on now stamp [] low less = tt
above_on now stamp (v ∷ vs) low less = omega (arith, low, less)

-- a stamp above now is above all versions
pub below_of : (m : Versions) (now stamp : ℕ) (cs : List Change) → ((q : Reference) → IsAbove (suc now) (versions_of m q)) → now < stamp → AreBelow stamp m cs
below_of m now stamp [] low less = tt
below_of m now stamp (c ∷ cs) low less = (above_on now stamp (versions_of m c.0) (low c.0) less, below_of m now stamp cs low less)

-- a reference without versions can go
pub content_dropped : (m : Versions) (k : Reference) (s : ℕ) → get m k ≡ Some [] → content_at (finmap.remove m k) s ≡ content_at m s
content_dropped m k s bare = same_content _ _ (λ q.
    get_content (finmap.remove m k) s q
    ∙ ap (option_and_then (at_of s)) (get-remove ref_cmp_total m k q)
    ∙ split_none (eq_by_cmp ref_cmp q k) (get m q) (λ t. get_same m q k t ∙ bare)
    ∙ sym (get_content m s q))
  where
    split_none : (t : Bool) (o : Option Row) → (t ≡ true → o ≡ Some []) → option_and_then (at_of s) (cond t None o) ≡ option_and_then (at_of s) o
    split_none true o is = sym (ap (option_and_then (at_of s)) (is refl))
    split_none false o is = refl

-- a cut at a horizon leaves the content from the horizon on
pub content_cut : (m : Versions) (k : Reference) (horizon s : ℕ) → horizon ≤ s → content_at (finmap.insert m k (left_after horizon (versions_of m k))) s ≡ content_at m s
content_cut m k horizon s le = content_kept m k (left_after horizon (versions_of m k)) s (at_of-left_after horizon s (versions_of m k) le)

-- ---- references that are placed

get_placed : (k r : Reference) (m : Versions) (o : Option Row) → get m k ≡ o → get (placed k m) r ≡ cond (eq_by_cmp ref_cmp r k) (Some (listed o)) (get m r)
get_placed k r m None is = ap (λ b. get (cond b m (finmap.insert m k [])) r) (ap is_some is) ∙ get-insert ref_cmp_total m k [] r
get_placed k r m (Some vs) is =
    ap (λ b. get (cond b m (finmap.insert m k [])) r) (ap is_some is)
    ∙ sym (split (eq_by_cmp ref_cmp r k) (Some vs) (get m r) (get m r) (λ t. sym is ∙ sym (get_same m r k t)) (λ _. refl))

-- no reference has other versions
pub rows_placed : (k r : Reference) (m : Versions) → versions_of (placed k m) r ≡ versions_of m r
rows_placed k r m =
    ap listed (get_placed k r m (get m k) refl) ∙ by_tie (eq_by_cmp ref_cmp r k) (λ t. ap listed (get_same m r k t))
  where
    by_tie : (t : Bool) → (t ≡ true → versions_of m r ≡ versions_of m k) → listed (cond t (Some (listed (get m k))) (get m r)) ≡ listed (get m r)
    by_tie true f = sym (f refl)
    by_tie false f = refl

-- the reference is placed, and what was placed still is
pub contains_placed : (k r : Reference) (m : Versions) → finmap.contains_key (placed k m) r ≡ cond (eq_by_cmp ref_cmp r k) true (finmap.contains_key m r)
contains_placed k r m = ap is_some (get_placed k r m (get m k) refl) ∙ by_tie (eq_by_cmp ref_cmp r k)
  where
    by_tie : (t : Bool) → is_some (cond t (Some (listed (get m k))) (get m r)) ≡ cond t true (is_some (get m r))
    by_tie true = refl
    by_tie false = refl

-- an empty row is as no row
pub rows_bare : (m : Versions) (k r : Reference) → get m k ≡ None → versions_of (finmap.insert m k []) r ≡ versions_of m r
rows_bare m k r none = ap (λ b. versions_of (cond b m (finmap.insert m k [])) r) (sym (ap is_some none)) ∙ rows_placed k r m

-- content at a stamp is told by what is seen of the versions there
pub content_alike : (m n : Versions) (s : ℕ) → ((r : Reference) → at_of s (versions_of m r) ≡ at_of s (versions_of n r)) → content_at m s ≡ content_at n s
content_alike m n s same = same_content _ _ (λ q.
    get_content m s q ∙ sym (at_listed s (get m q)) ∙ same q ∙ at_listed s (get n q) ∙ sym (get_content n s q))

pub content_rows : (m n : Versions) (s : ℕ) → ((r : Reference) → versions_of m r ≡ versions_of n r) → content_at m s ≡ content_at n s
content_rows m n s same = content_alike m n s (λ r. ap (at_of s) (same r))

pub contains_all_placed : (ks : List Reference) (r : Reference) (m : Versions) → finmap.contains_key m r ≡ true → finmap.contains_key (all_placed ks m) r ≡ true
contains_all_placed [] r m is = is
contains_all_placed (k ∷ ks) r m is = contains_all_placed ks r (placed k m) (contains_placed k r m ∙ by_tie (eq_by_cmp ref_cmp r k))
  where
    by_tie : (t : Bool) → cond t true (finmap.contains_key m r) ≡ true
    by_tie true = refl
    by_tie false = is

-- what `place_keys` leaves is ready for the changes
pub are_placed : (cs : List Change) (m : Versions) → ArePlaced (all_placed (map (λ c. c.0) cs) m) cs
are_placed [] m = tt
are_placed (c ∷ cs) m =
    let itself : eq_by_cmp ref_cmp c.0 c.0 ≡ true = let laws = eq_by_cmp_equiv ref_cmp_total in laws.refl c.0 in
    (contains_all_placed (map (λ d. d.0) cs) c.0 (placed c.0 m) (contains_placed c.0 c.0 m ∙ ap (λ b. cond b true (finmap.contains_key m c.0)) itself), are_placed cs (placed c.0 m))

-- changes in order are each of another reference
pub apart_sorted : (cs : List Change) → is_sorted ref_cmp cs ≡ true → AreOnce cs
apart_sorted [] h = tt
apart_sorted (c ∷ cs) h =
    (not_found_itself ref_cmp ref_cmp_total ref_cmp-IsAntisymmetric c.0 cs (first_so (below_all ref_cmp c.0 cs) _ h), apart_sorted cs (second_so (below_all ref_cmp c.0 cs) _ h))

-- ---- the versions of a reference once changes are written

pub rows_written : (stamp : ℕ) (cs : List Change) (m : Versions) (r : Reference) → AreOnce cs → versions_of (written stamp cs m) r ≡ row_after stamp (find ref_cmp r cs) (versions_of m r)
rows_written stamp [] m r apart = refl
rows_written stamp (c ∷ cs) m r apart =
    rows_written stamp cs (with_version stamp c m) r apart.1
    ∙ ap (λ o. row_after stamp (find ref_cmp r cs) (listed o)) (get-insert ref_cmp_total m c.0 ((stamp, c.1) ∷ versions_of m c.0) r)
    ∙ by_tie (eq_by_cmp ref_cmp r c.0) (λ t. ref_cmp-IsAntisymmetric r c.0 (is_equal _ t))
  where
    by_tie : (t : Bool) → (t ≡ true → r ≡ c.0)
        → row_after stamp (find ref_cmp r cs) (listed (cond t (Some ((stamp, c.1) ∷ versions_of m c.0)) (get m r))) ≡ row_after stamp (cond t (Some c.1) (find ref_cmp r cs)) (versions_of m r)
    by_tie true f =
        let same = f refl in
        ap (λ o. row_after stamp o ((stamp, c.1) ∷ versions_of m c.0)) (ap (λ x. find ref_cmp x cs) same ∙ apart.0)
        ∙ ap (λ x. (stamp, c.1) ∷ versions_of m x) (sym same)
    by_tie false f = refl
