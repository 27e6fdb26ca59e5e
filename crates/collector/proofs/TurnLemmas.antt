-- A visit of one key more: what it does to the rows, and to what is left to visit.
use Rattle.std.proofs.Common.{◌≡◌, ℕ, ◌+◌, ◌-◌, ◌<◌, ◌≤◌, List, [], ◌∷◌, length, map, refl, sym, ap, ◌∙◌, subst, arith}
use Rattle.std.specs.Prelude.{Bool, true, false, cond, ◌||◌, min, Some, None, filter, is_some, if◌then◌else◌}
use Rattle.std.specs.List.{list_any}
use Rattle.std.specs.Ordering.{eq_by_cmp}
use Rattle.std.specs.Cmp.{eq_by_cmp_equiv}
use Rattle.std.specs.FinMap as finmap
use Rattle.std.specs.FinMap.{get, get-insert, get-remove, len-insert, len-remove, len-entries, contains_key-keys}
use Rattle.collation.specs.Reference.{Reference}
use Rattle.collation.specs.Order.{ref_cmp}
use Rattle.collation.specs.laws.Order.{ref_cmp_total, ref_cmp-IsAntisymmetric, is_equal}
use Rattle.version_chain.specs.Chains.{listed}
use Rattle.version_chain.specs.Cut.{left_after}
use Rattle.version_store.specs.Versions.{Row, Versions, versions_of, is_bare, tidied}
use Rattle.version_store.specs.laws.Cutting.{get_tidied}
use Rattle.collector.specs.Turn.{kept, is_among, row_left, versions_gone, keys_gone, IsProgress, AreAllPlaced, AreDistinct}

pub itself : (r : Reference) → eq_by_cmp ref_cmp r r ≡ true
itself r = let laws = eq_by_cmp_equiv ref_cmp_total in laws.refl r

pub turned : (q k : Reference) → eq_by_cmp ref_cmp k q ≡ false → eq_by_cmp ref_cmp q k ≡ false
turned q k e = let laws = eq_by_cmp_equiv ref_cmp_total in laws.symm q k ∙ e

pub same_key : (q k : Reference) → eq_by_cmp ref_cmp q k ≡ true → q ≡ k
same_key q k e = ref_cmp-IsAntisymmetric q k (is_equal _ e)

-- ---- one key

get_put : (m : Versions) (k : Reference) (vs : Row) → get (finmap.insert m k vs) k ≡ Some vs
get_put m k vs = get-insert ref_cmp_total m k vs k ∙ ap (λ b. cond b (Some vs) (get m k)) (itself k)

-- a row that was put is bare where it is empty
pub bare_put : (m : Versions) (k : Reference) (vs : Row) → is_bare (get (finmap.insert m k vs) k) ≡ is_bare (Some vs)
bare_put m k vs = ap is_bare (get_put m k vs)

-- the key itself, once it is visited
get_visited : (h : ℕ) (k : Reference) (m : Versions) → get (tidied h k m) k ≡ kept (left_after h (versions_of m k))
get_visited h k m = by_row (left_after h (versions_of m k))
  where
    by_row : (vs : Row) → get (cond (is_bare (get (finmap.insert m k vs) k)) (finmap.remove (finmap.insert m k vs) k) (finmap.insert m k vs)) k ≡ kept vs
    by_row [] =
        ap (λ b. get (cond b (finmap.remove (finmap.insert m k []) k) (finmap.insert m k [])) k) (bare_put m k [])
        ∙ get-remove ref_cmp_total (finmap.insert m k []) k k ∙ ap (λ b. cond b None (get (finmap.insert m k []) k)) (itself k)
    by_row (v ∷ vs) =
        ap (λ b. get (cond b (finmap.remove (finmap.insert m k (v ∷ vs)) k) (finmap.insert m k (v ∷ vs))) k) (bare_put m k (v ∷ vs))
        ∙ get_put m k (v ∷ vs)

-- how many are placed, once it is visited
one_at_least : (k : Reference) (es : List (Reference × Row)) → list_any (eq_by_cmp ref_cmp k) (map (λ e. e.0) es) ≡ true → 0 < length es
one_at_least k [] is = absurd (cc)
one_at_least k (e ∷ es) is = omega arith

len_put : (m : Versions) (k : Reference) (vs : Row) → finmap.contains_key m k ≡ true → finmap.len (finmap.insert m k vs) ≡ finmap.len m
len_put m k vs placed = len-insert ref_cmp_total m k vs ∙ ap (λ b. cond b (finmap.len m) (finmap.len m + 1)) placed

pub len_visited : (h : ℕ) (k : Reference) (m : Versions) → finmap.contains_key m k ≡ true → finmap.len (tidied h k m) + cond (is_bare (Some (left_after h (versions_of m k)))) 1 0 ≡ finmap.len m
len_visited h k m placed = by_row (left_after h (versions_of m k))
  where
    some : 0 < finmap.len m
    some = subst (λ n. 0 < n) (sym (len-entries m)) (one_at_least k (finmap.entries m) (sym (contains_key-keys m k) ∙ placed))

    by_row : (vs : Row) → finmap.len (cond (is_bare (get (finmap.insert m k vs) k)) (finmap.remove (finmap.insert m k vs) k) (finmap.insert m k vs)) + cond (is_bare (Some vs)) 1 0 ≡ finmap.len m
    by_row [] =
        let out = len-remove ref_cmp_total (finmap.insert m k []) k ∙ ap (λ o. cond (is_some o) (finmap.len (finmap.insert m k []) - 1) (finmap.len (finmap.insert m k []))) (get_put m k []) in
        let same = len_put m k [] placed in
        ap (λ b. finmap.len (cond b (finmap.remove (finmap.insert m k []) k) (finmap.insert m k [])) + 1) (bare_put m k []) ∙ omega (arith, out, same, some)
    by_row (v ∷ vs) =
        let same = len_put m k (v ∷ vs) placed in
        ap (λ b. finmap.len (cond b (finmap.remove (finmap.insert m k (v ∷ vs)) k) (finmap.insert m k (v ∷ vs))) + 0) (bare_put m k (v ∷ vs)) ∙ omega (arith, same)

-- another key keeps its versions
rows_other : (h : ℕ) (k q : Reference) (m : Versions) → eq_by_cmp ref_cmp q k ≡ false → versions_of (tidied h k m) q ≡ versions_of m q
rows_other h k q m other = ap listed (get_tidied h k q m other)

-- ---- the keys that are left to visit

off_first : (k r : Reference) (rs : List Reference) → is_among (r ∷ rs) k ≡ false → eq_by_cmp ref_cmp r k ≡ false
off_first k r rs off = turned r k (by_tie (eq_by_cmp ref_cmp k r) off)
  where
    by_tie : (t : Bool) → (t || is_among rs k) ≡ false → t ≡ false
    by_tie true e = absurd (cc)
    by_tie false e = refl

off_rest : (k r : Reference) (rs : List Reference) → is_among (r ∷ rs) k ≡ false → is_among rs k ≡ false
off_rest k r rs off = by_tie (eq_by_cmp ref_cmp k r) off
  where
    by_tie : (t : Bool) → (t || is_among rs k) ≡ false → is_among rs k ≡ false
    by_tie true e = absurd (cc)
    by_tie false e = e

pub placed_step : (h : ℕ) (k : Reference) (m : Versions) (rs : List Reference) → is_among rs k ≡ false → AreAllPlaced m rs → AreAllPlaced (tidied h k m) rs
placed_step h k m [] off placed = tt
placed_step h k m (r ∷ rs) off placed = (ap is_some (get_tidied h k r m (off_first k r rs off)) ∙ placed.0, placed_step h k m rs (off_rest k r rs off) placed.1)

pub gone_step : (h : ℕ) (k : Reference) (m : Versions) (rs : List Reference) → is_among rs k ≡ false → versions_gone h (tidied h k m) rs ≡ versions_gone h m rs
gone_step h k m [] off = refl
gone_step h k m (r ∷ rs) off =
    ap (λ vs. (length vs - length (left_after h vs)) + versions_gone h (tidied h k m) rs) (rows_other h k r m (off_first k r rs off))
    ∙ ap (λ n. (length (versions_of m r) - length (left_after h (versions_of m r))) + n) (gone_step h k m rs (off_rest k r rs off))

pub keys_step : (h : ℕ) (k : Reference) (m : Versions) (rs : List Reference) → is_among rs k ≡ false → keys_gone h (tidied h k m) rs ≡ keys_gone h m rs
keys_step h k m [] off = refl
keys_step h k m (r ∷ rs) off =
    ap (λ vs. length (cond (is_bare (Some (left_after h vs))) (r ∷ gone (tidied h k m)) (gone (tidied h k m)))) (rows_other h k r m (off_first k r rs off))
    ∙ by_bare (is_bare (Some (left_after h (versions_of m r)))) (keys_step h k m rs (off_rest k r rs off))
  where
    gone : Versions → List Reference
    gone n = filter (λ q. is_bare (Some (left_after h (versions_of n q)))) rs

    by_bare : (t : Bool) → length (gone (tidied h k m)) ≡ length (gone m) → length (cond t (r ∷ gone (tidied h k m)) (gone (tidied h k m))) ≡ length (cond t (r ∷ gone m) (gone m))
    by_bare true rest = omega (arith, rest)
    by_bare false rest = rest

-- a visit of the first and then of the others is a visit of all
pub row_step : (h : ℕ) (k q : Reference) (m : Versions) (rs : List Reference) → is_among rs k ≡ false → row_left h rs (tidied h k m) q ≡ row_left h (k ∷ rs) m q
row_step h k q m rs off = by_tie (eq_by_cmp ref_cmp q k) refl
  where
    by_tie : (t : Bool) → eq_by_cmp ref_cmp q k ≡ t → row_left h rs (tidied h k m) q ≡ (if t || is_among rs q then kept (left_after h (versions_of m q)) else get m q)
    by_tie true t =
        let same = same_key q k t in
        let out : is_among rs q ≡ false = ap (is_among rs) same ∙ off in
        ap (λ b. cond b (kept (left_after h (versions_of (tidied h k m) q))) (get (tidied h k m) q)) out
        ∙ ap (get (tidied h k m)) same ∙ get_visited h k m ∙ ap (λ r. kept (left_after h (versions_of m r))) (sym same)
    by_tie false t =
        ap (λ vs. cond (is_among rs q) (kept (left_after h vs)) (get (tidied h k m) q)) (rows_other h k q m t)
        ∙ ap (λ o. cond (is_among rs q) (kept (left_after h (versions_of m q))) o) (get_tidied h k q m t)

-- one key is counted more
keys_first : (h : ℕ) (k : Reference) (m : Versions) (rs : List Reference) → keys_gone h m (k ∷ rs) ≡ cond (is_bare (Some (left_after h (versions_of m k)))) 1 0 + keys_gone h m rs
keys_first h k m rs = by_bare (is_bare (Some (left_after h (versions_of m k))))
  where
    gone : List Reference
    gone = filter (λ q. is_bare (Some (left_after h (versions_of m q)))) rs

    by_bare : (t : Bool) → length (cond t (k ∷ gone) gone) ≡ cond t 1 0 + length gone
    by_bare true = omega arith
    by_bare false = omega arith

-- ---- where a turn over keys stands: these are left to visit, so many versions have gone and so many keys
pub record Stands (h : ℕ) (all : List Reference) (start m : Versions) (left : List Reference) (d n : ℕ) : Type 0 where
  pub placed : AreAllPlaced m left
  pub distinct : AreDistinct left
  pub rows : (r : Reference) → row_left h left m r ≡ row_left h all start r
  pub dropped : min 18446744073709551615 (d + versions_gone h m left) ≡ min 18446744073709551615 (versions_gone h start all)
  pub removed : n + keys_gone h m left ≡ keys_gone h start all
  pub few : n + length left ≤ length all
  pub count : finmap.len m + n ≡ finmap.len start
  pub small : d ≤ 18446744073709551615

pub stands_first : (h : ℕ) (all : List Reference) (m : Versions) → AreAllPlaced m all → AreDistinct all → Stands h all m m all 0 0
stands_first h all m placed distinct = record { placed = placed; distinct = distinct; rows = λ r. refl; dropped = ap (min 18446744073709551615) (omega arith); removed = omega arith; few = omega arith; count = omega arith; small = omega arith }

pub stands_more : (h : ℕ) (all : List Reference) (start m new : Versions) (k : Reference) (left steps : List Reference) (count d e n j : ℕ) (b : Bool) → Stands h all start m steps d n → steps ≡ k ∷ left
    → new ≡ tidied h k m → count + length (left_after h (versions_of m k)) ≡ length (versions_of m k) → b ≡ is_bare (Some (left_after h (versions_of m k)))
    → e ≡ min 18446744073709551615 (d + count) → j ≡ n + cond b 1 0 → Stands h all start new left e j
stands_more h all start m new k left steps count d e n j b stands are visited counted bare sum one =
    let stands = subst (λ l. Stands h all start m l d n) are stands in
    let off = stands.distinct.0 in
    let more = keys_first h k m left in
    let same : ◌≡◌ {A = ℕ} (cond b 1 0) (cond (is_bare (Some (left_after h (versions_of m k)))) 1 0) = ap {B = ℕ} (λ t. cond t 1 0) bare in
    let versions = gone_step h k m left off in
    let keys = keys_step h k m left off in
    let dropped = stands.dropped in
    let removed = stands.removed in
    let few = stands.few in
    let count = stands.count in
    let fewer = len_visited h k m stands.placed.0 in
    let next : Stands h all start (tidied h k m) left e j = record {
      placed = placed_step h k m left off stands.placed.1;
      distinct = stands.distinct.1;
      rows = λ r. row_step h k r m left off ∙ stands.rows r;
      dropped = omega (arith, dropped, counted, versions, sum);
      removed = omega (arith, removed, more, same, keys, one);
      few = by_bare b one few;
      count = omega (arith, count, fewer, same, one);
      small = omega (arith, sum);
    } in
    subst (λ v. Stands h all start v left e j) (sym visited) next
  where
    by_bare : (t : Bool) → j ≡ n + cond t 1 0 → n + length (k ∷ left) ≤ length all → j + length left ≤ length all
    by_bare true one few = omega (arith, one, few)
    by_bare false one few = omega (arith, one, few)

pub stands_last : (h : ℕ) (all left : List Reference) (start m : Versions) (v d n : ℕ) → Stands h all start m left d n → length left ≡ 0 → v ≡ length all → IsProgress h all start (record { visited = v; dropped = d; removed = n; left = 0 })
stands_last h all [] start m v d n stands none visited =
    let dropped = stands.dropped in
    let removed = stands.removed in
    let small = stands.small in
    record { visited = visited; dropped = omega (arith, dropped, small); removed = omega (arith, removed); left = refl }
stands_last h all (r ∷ rs) start m v d n stands none visited = absurd (omega (arith, none))
