-- What is noted of writes stays true of the versions.
use Rattle.std.proofs.Common.{◌≡◌, ℕ, suc, ◌≤◌, List, [], ◌∷◌, refl, sym, ap, ◌∙◌, subst, arith}
use Rattle.std.specs.Prelude.{Bool, true, false, not, cond, max, Option, Some, None}
use Rattle.std.specs.Ordering.{eq_by_cmp}
use Rattle.std.specs.FinMap as finmap
use Rattle.std.specs.FinMap.{get, get-insert, get-remove}
use Rattle.collation.specs.Reference.{Reference}
use Rattle.collation.specs.Order.{ref_cmp}
use Rattle.collation.specs.Database.{is_under}
use Rattle.collation.specs.laws.Order.{ref_cmp_total, ref_cmp-IsAntisymmetric, is_equal}
use Rattle.version_chain.specs.Versions.{IsAbove}
use Rattle.version_chain.specs.Cut.{left_after}
use Rattle.version_chain.specs.laws.Cut.{IsAbove-left_after}
use Rattle.version_chain.specs.Chains.{listed}
use Rattle.version_store.specs.Versions.{Row, Versions, versions_of, with_version, is_bare, tidied}
use Rattle.version_store.specs.Noted.{noted_at, AreNoted}
use Rattle.version_store.proofs.KillLemmas.{rows_stay}

-- what is above one stamp is above a later one
pub above_more : (a b : ℕ) (vs : Row) → a ≤ b → IsAbove (suc a) vs → IsAbove (suc b) vs
above_more a b [] le h = tt
above_more a b (v ∷ vs) le h = omega (arith, le, h)

max_more : (a b x y : ℕ) → a ≤ b → x ≤ y → max a x ≤ max b y
max_more a b x y low le = omega (arith, low, le)

listed_cond : (t : Bool) (vs : Row) (o : Option Row) → listed (cond t (Some vs) o) ≡ cond t vs (listed o)
listed_cond true vs o = refl
listed_cond false vs o = refl

listed_none : (t : Bool) (o : Option Row) → listed (cond t None o) ≡ cond {A = Row} t [] (listed o)
listed_none true o = refl
listed_none false o = refl

-- the cut and what is noted only grow
pub noted_grown : (cut later : ℕ) (old new : List ℕ) (m : Versions) → AreNoted cut old m → cut ≤ later → ((r : Reference) → noted_at old r ≤ noted_at new r) → AreNoted later new m
noted_grown cut later old new m are low grows = record { noted = λ r. above_more (max cut (noted_at old r)) (max later (noted_at new r)) (versions_of m r) (max_more cut later (noted_at old r) (noted_at new r) low (grows r)) (are.noted r) }

pub noted_same : (cut : ℕ) (stamps : List ℕ) (m n : Versions) → AreNoted cut stamps m → n ≡ m → AreNoted cut stamps n
noted_same cut stamps m n are is = subst (AreNoted cut stamps) (sym is) are

-- one row is another
noted_row : (cut : ℕ) (stamps : List ℕ) (m n : Versions) (k : Reference) (vs : Row) → AreNoted cut stamps m → IsAbove (suc (max cut (noted_at stamps k))) vs → ((q : Reference) → versions_of n q ≡ cond (eq_by_cmp ref_cmp q k) vs (versions_of m q)) → AreNoted cut stamps n
noted_row cut stamps m n k vs are above rows = record { noted = λ q. subst (IsAbove (suc (max cut (noted_at stamps q)))) (sym (rows q)) (by_tie q (eq_by_cmp ref_cmp q k) refl) }
  where
    by_tie : (q : Reference) (t : Bool) → eq_by_cmp ref_cmp q k ≡ t → IsAbove (suc (max cut (noted_at stamps q))) (cond t vs (versions_of m q))
    by_tie q true t = subst (λ (r : Reference). IsAbove (suc (max cut (noted_at stamps r))) vs) (sym (ref_cmp-IsAntisymmetric q k (is_equal _ t))) above
    by_tie q false t = are.noted q

pub noted_put : (cut : ℕ) (stamps : List ℕ) (m n : Versions) (k : Reference) (vs : Row) → AreNoted cut stamps m → IsAbove (suc (max cut (noted_at stamps k))) vs → n ≡ finmap.insert m k vs → AreNoted cut stamps n
noted_put cut stamps m n k vs are above is = noted_row cut stamps m n k vs are above (λ q.
    ap (λ x. versions_of x q) is ∙ ap listed (get-insert ref_cmp_total m k vs q) ∙ listed_cond (eq_by_cmp ref_cmp q k) vs (get m q))

pub noted_out : (cut : ℕ) (stamps : List ℕ) (m n : Versions) (k : Reference) → AreNoted cut stamps m → n ≡ finmap.remove m k → AreNoted cut stamps n
noted_out cut stamps m n k are is = noted_row cut stamps m n k [] are tt (λ q.
    ap (λ x. versions_of x q) is ∙ ap listed (get-remove ref_cmp_total m k q) ∙ listed_none (eq_by_cmp ref_cmp q k) (get m q))

-- a row is cut
pub noted_cut : (cut : ℕ) (stamps : List ℕ) (m n : Versions) (k : Reference) (horizon : ℕ) → AreNoted cut stamps m → n ≡ finmap.insert m k (left_after horizon (versions_of m k)) → AreNoted cut stamps n
noted_cut cut stamps m n k horizon are is = noted_put cut stamps m n k (left_after horizon (versions_of m k)) are (IsAbove-left_after horizon (suc (max cut (noted_at stamps k))) (versions_of m k) (are.noted k)) is

-- a version is added whose stamp is noted
pub noted_pushed : (cut : ℕ) (stamps : List ℕ) (m n : Versions) (stamp : ℕ) (k : Reference) (x : Option (List ℕ)) → AreNoted cut stamps m → stamp ≤ max cut (noted_at stamps k) → n ≡ with_version stamp (k, x) m → AreNoted cut stamps n
noted_pushed cut stamps m n stamp k x are low is = noted_put cut stamps m n k ((stamp, x) ∷ versions_of m k) are (omega (arith, low)) is

-- and its row is cut
pub noted_pushed_and_cut : (cut : ℕ) (stamps : List ℕ) (m n : Versions) (stamp horizon : ℕ) (k : Reference) (x : Option (List ℕ)) → AreNoted cut stamps m → stamp ≤ max cut (noted_at stamps k)
    → n ≡ finmap.insert (with_version stamp (k, x) m) k (left_after horizon (versions_of (with_version stamp (k, x) m) k)) → AreNoted cut stamps n
noted_pushed_and_cut cut stamps m n stamp horizon k x are low is = noted_cut cut stamps (with_version stamp (k, x) m) n k horizon (noted_pushed cut stamps m (with_version stamp (k, x) m) stamp k x are low refl) is

pub noted_tidied : (cut : ℕ) (stamps : List ℕ) (m n : Versions) (k : Reference) (horizon : ℕ) → AreNoted cut stamps m → n ≡ tidied horizon k m → AreNoted cut stamps n
noted_tidied cut stamps m n k horizon are is =
    let there = finmap.insert m k (left_after horizon (versions_of m k)) in
    subst (AreNoted cut stamps) (sym is) (by_bare there (is_bare (get there k)) (noted_cut cut stamps m there k horizon are refl))
  where
    by_bare : (there : Versions) (t : Bool) → AreNoted cut stamps there → AreNoted cut stamps (cond t (finmap.remove there k) there)
    by_bare there true noted = noted_out cut stamps there (finmap.remove there k) k noted refl
    by_bare there false noted = noted

pub noted_set : (cut : ℕ) (stamps : List ℕ) (m n : Versions) (stamp horizon : ℕ) (k : Reference) (x : Option (List ℕ)) → AreNoted cut stamps m → stamp ≤ max cut (noted_at stamps k) → n ≡ tidied horizon k (with_version stamp (k, x) m) → AreNoted cut stamps n
noted_set cut stamps m n stamp horizon k x are low is = noted_tidied cut stamps (with_version stamp (k, x) m) n k horizon (noted_pushed cut stamps m (with_version stamp (k, x) m) stamp k x are low refl) is

-- what is under a reference is taken out
pub noted_killed : (cut : ℕ) (stamps : List ℕ) (m n : Versions) (r : Reference) → AreNoted cut stamps m → n ≡ finmap.retain_keys m (λ x. not (is_under r x)) → AreNoted cut stamps n
noted_killed cut stamps m n r are is = record { noted = λ q. subst (IsAbove (suc (max cut (noted_at stamps q)))) (sym (ap (λ x. versions_of x q) is ∙ rows_stay r m q)) (by_tie q (is_under r q)) }
  where
    by_tie : (q : Reference) (t : Bool) → IsAbove (suc (max cut (noted_at stamps q))) (cond {A = Row} t [] (versions_of m q))
    by_tie q true = tt
    by_tie q false = are.noted q

-- all that is there isn't after now, which is noted for all
pub noted_all : (cut : ℕ) (stamps : List ℕ) (m : Versions) (now : ℕ) → ((r : Reference) → noted_at stamps r ≡ now) → ((q : Reference) → IsAbove (suc now) (versions_of m q)) → AreNoted cut stamps m
noted_all cut stamps m now all low = record { noted = λ q. above_more now (max cut (noted_at stamps q)) (versions_of m q) (let is = all q in omega (arith, is)) (low q) }
