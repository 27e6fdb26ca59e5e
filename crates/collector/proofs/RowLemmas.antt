-- What the rows after a turn show: the content from the cut on, and the versions after the horizon.
use Rattle.std.proofs.Common.{◌≡◌, ℕ, zero, suc, ◌+◌, ◌<◌, ◌≤◌, List, [], ◌∷◌, refl, sym, ap, ◌∙◌, subst, arith, Contains}
use Rattle.std.specs.Prelude.{Bool, true, false, not, leb, cond, Option, Some, None, filter, is_some}
use Rattle.std.specs.FinMap as finmap
use Rattle.collation.specs.Reference.{Reference}
use Rattle.version_chain.specs.Versions.{Entry, at_of, IsAbove, IsFalling}
use Rattle.version_chain.specs.Chains.{listed}
use Rattle.version_chain.specs.Cut.{left_after, cut_of, if_value, newest_value}
use Rattle.version_chain.specs.laws.Versions.{leb_yes, leb_no, below_of}
use Rattle.version_chain.specs.laws.Cut.{left_after-cut_of, at_of-left_after, left_after-settled}
use Rattle.version_store.specs.Versions.{Row, Versions, content_at, versions_of}
use Rattle.version_store.specs.laws.Content.{content_alike}
use Rattle.collector.specs.Turn.{kept, is_among, row_left, after_horizon, is_one_value}

listed_kept : (vs : Row) → listed (kept vs) ≡ vs
listed_kept [] = refl
listed_kept (v ∷ vs) = refl

-- the versions of a reference once these are visited
rows_are : (h : ℕ) (visits : List Reference) (m n : Versions) (r : Reference) → finmap.get n r ≡ row_left h visits m r → versions_of n r ≡ cond (is_among visits r) (left_after h (versions_of m r)) (versions_of m r)
rows_are h visits m n r is = ap listed is ∙ by_case (is_among visits r)
  where
    by_case : (b : Bool) → listed (cond b (kept (left_after h (versions_of m r))) (finmap.get m r)) ≡ cond b (left_after h (versions_of m r)) (versions_of m r)
    by_case true = listed_kept (left_after h (versions_of m r))
    by_case false = refl

-- ---- content

pub content_turned : (h : ℕ) (visits : List Reference) (m n : Versions) (s : ℕ) → ((r : Reference) → finmap.get n r ≡ row_left h visits m r) → h ≤ s → content_at n s ≡ content_at m s
content_turned h visits m n s is le = content_alike n m s (λ r. ap (at_of s) (rows_are h visits m n r (is r)) ∙ by_case r (is_among visits r))
  where
    by_case : (r : Reference) (b : Bool) → at_of s (cond b (left_after h (versions_of m r)) (versions_of m r)) ≡ at_of s (versions_of m r)
    by_case r true = at_of-left_after h s (versions_of m r) le
    by_case r false = refl

-- ---- versions after the horizon

-- below an early version all are early
none_late : (h s : ℕ) (vs : Row) → s ≤ h → IsAbove s vs → IsFalling vs → after_horizon h vs ≡ []
none_late h s [] le above falls = refl
none_late h s (v ∷ vs) le above falls =
    ap (λ b. cond (not b) (v ∷ after_horizon h vs) (after_horizon h vs)) (leb_yes v.0 h (omega (arith, above, le)))
    ∙ none_late h v.0 vs (omega (arith, above, le)) falls.0 falls.1

late_alone : (h : ℕ) (v : Entry (List ℕ)) (x : Option (List ℕ)) → leb v.0 h ≡ true → after_horizon h (if_value v x) ≡ []
late_alone h v None early = refl
late_alone h v (Some x) early = ap (λ b. cond (not b) (v ∷ []) []) early

cut_early : (h : ℕ) (v : Entry (List ℕ)) (vs : Row) → leb v.0 h ≡ true → cut_of h (v ∷ vs) ≡ if_value v v.1
cut_early h v vs e = ap (λ b. cond b (if_value v v.1) (v ∷ cut_of h vs)) e

cut_late : (h : ℕ) (v : Entry (List ℕ)) (vs : Row) → leb v.0 h ≡ false → cut_of h (v ∷ vs) ≡ v ∷ cut_of h vs
cut_late h v vs e = ap (λ b. cond b (if_value v v.1) (v ∷ cut_of h vs)) e

late_cut : (h : ℕ) (vs : Row) → IsFalling vs → after_horizon h (cut_of h vs) ≡ after_horizon h vs
late_cut h [] falls = refl
late_cut h (v ∷ vs) falls = by_stamp (leb v.0 h) refl (late_cut h vs falls.1)
  where
    by_stamp : (b : Bool) → leb v.0 h ≡ b → after_horizon h (cut_of h vs) ≡ after_horizon h vs → after_horizon h (cut_of h (v ∷ vs)) ≡ after_horizon h (v ∷ vs)
    by_stamp true at rest =
        ap (after_horizon h) (cut_early h v vs at) ∙ late_alone h v v.1 at
        ∙ sym (ap (λ b. cond (not b) (v ∷ after_horizon h vs) (after_horizon h vs)) at ∙ none_late h v.0 vs (below_of v.0 h at) falls.0 falls.1)
    by_stamp false at rest =
        ap (after_horizon h) (cut_late h v vs at)
        ∙ ap (λ l. cond (not (leb v.0 h)) (v ∷ l) l) rest

pub late_turned : (h : ℕ) (visits : List Reference) (m n : Versions) (r : Reference) → finmap.get n r ≡ row_left h visits m r → IsFalling (versions_of m r) → after_horizon h (versions_of n r) ≡ after_horizon h (versions_of m r)
late_turned h visits m n r is falls = ap (after_horizon h) (rows_are h visits m n r is) ∙ by_case (is_among visits r)
  where
    by_case : (b : Bool) → after_horizon h (cond b (left_after h (versions_of m r)) (versions_of m r)) ≡ after_horizon h (versions_of m r)
    by_case true = ap (after_horizon h) (left_after-cut_of h (versions_of m r)) ∙ late_cut h (versions_of m r) falls
    by_case false = refl

-- ---- a turn over all

-- where all that are placed are visited
pub row_all : (h : ℕ) (visits : List Reference) (m n : Versions) (r : Reference) → finmap.get n r ≡ row_left h visits m r → is_among visits r ≡ finmap.contains_key m r → finmap.get n r ≡ kept (left_after h (versions_of m r))
row_all h visits m n r is all = is ∙ ap (λ b. cond b (kept (left_after h (versions_of m r))) (finmap.get m r)) all ∙ by_row (finmap.get m r)
  where
    by_row : (o : Option Row) → cond (is_some o) (kept (left_after h (listed o))) o ≡ kept (left_after h (listed o))
    by_row None = refl
    by_row (Some vs) = refl

one_alone : (v : Entry (List ℕ)) (x : Option (List ℕ)) (us : Row) → v.1 ≡ x → kept (if_value v x) ≡ Some us → is_one_value us ≡ true
one_alone v None us at is = absurd (cc)
one_alone (s, y) (Some x) us at is = ap is_one_value (sym (same_row ((s, y) ∷ []) us is)) ∙ ap (λ z. is_one_value ((s, z) ∷ [])) at
  where
    same_row : (xs ys : Row) → Some xs ≡ Some ys → xs ≡ ys
    same_row xs ys e = cc

one_value : (vs us : Row) → kept (newest_value vs) ≡ Some us → is_one_value us ≡ true
one_value [] us is = absurd (cc)
one_value (v ∷ vs) us is = one_alone v v.1 us refl is

-- at now each row that is left is one value
pub row_settled : (now : ℕ) (vs us : Row) (o : Option Row) → IsAbove (suc now) vs → o ≡ kept (left_after now vs) → o ≡ Some us → is_one_value us ≡ true
row_settled now vs us o low is there = one_value vs us (sym (is ∙ ap kept (left_after-settled now vs (above_more now vs low))) ∙ there)
  where
    above_more : (now : ℕ) (xs : Row) → IsAbove (suc now) xs → IsAbove (now + 1) xs
    above_more now [] above = tt
    above_more now (x ∷ xs) above = omega (arith, above)

-- ---- the same versions after the horizon

behind : {X : Type 0} (y x : X) (xs : List X) → Contains xs x → Contains (y ∷ xs) x
behind y x xs at = (suc at.0, omega (arith, at.1), at.2)

stays : {X : Type 0} (P : X → Bool) (xs : List X) (x : X) → P x ≡ true → Contains xs x → Contains (filter P xs) x
stays P [] x p at = absurd (omega (arith, at.1))
stays P (y ∷ ys) x p (zero, less, e) = subst (λ b. Contains (cond b (y ∷ filter P ys) (filter P ys)) x) (sym (ap P e ∙ p)) (0, omega arith, e)
stays P (y ∷ ys) x p (suc k, less, e) = by_test (P y) (stays P ys x p (k, omega (arith, less), e))
  where
    by_test : (b : Bool) → Contains (filter P ys) x → Contains (cond b (y ∷ filter P ys) (filter P ys)) x
    by_test true at = behind y x (filter P ys) at
    by_test false at = at

was : {X : Type 0} (P : X → Bool) (xs : List X) (x : X) → Contains (filter P xs) x → Contains xs x
was P [] x at = at
was P (y ∷ ys) x at = by_test (P y) (λ there. was P ys x there) at
  where
    by_test : (b : Bool) → (Contains (filter P ys) x → Contains ys x) → Contains (cond b (y ∷ filter P ys) (filter P ys)) x → Contains (y ∷ ys) x
    by_test true rest (zero, less, e) = (0, omega arith, e)
    by_test true rest (suc k, less, e) = behind y x ys (rest (k, omega (arith, less), e))
    by_test false rest at = behind y x ys (rest at)

pub late_stands : (h : ℕ) (us vs : Row) (v : Entry (List ℕ)) → after_horizon h us ≡ after_horizon h vs → h < v.0 → Contains us v → Contains vs v
late_stands h us vs v same late at =
    was (λ w. not (leb w.0 h)) vs v (subst (λ l. Contains l v) same (stays (λ w. not (leb w.0 h)) us v (ap not (leb_no v.0 h (leb v.0 h) refl late)) at))
