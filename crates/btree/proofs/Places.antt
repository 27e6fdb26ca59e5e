-- What stands before, in and after a kid, and what is found there.
use Rattle.std.proofs.Common.{◌≡◌, ℕ, suc, ◌<◌, ◌≤◌, List, ◌++◌, length, take, drop, get_or, ap, subst, ◌∙◌}
use Rattle.std.specs.Cmp.{IsTotalOrder}
use Rattle.std.specs.declared.cmp.Ordering.{Ordering}
use Rattle.std.specs.declared.cmp.Ordering.TheVariants.{Less}
use Rattle.std.specs.FinMap.Entries.{find, put}
use Rattle.btree.specs.Order.{Each, Ascends, IsBefore, IsAfter, without}
use Rattle.btree.specs.Branch.{Branch}
use Rattle.btree.specs.Parts.{IsFrom, flat}
use Rattle.btree.specs.Rows.{IsInner}
use Rattle.btree.proofs.Order.{ascends_front, ascends_back, find_between, put_between, without_between}
use Rattle.btree.proofs.Parting.{flat_cut, lower_each, upper_each, before_sep, after_sep}

module _ {K V : Type 0} (R : K → K → Ordering) (o : IsTotalOrder R) (ss : List K) (ks : List (Branch K V)) (inner : IsInner R ss ks) where
  pub kid_sorted : (i : ℕ) (d : Branch K V) → i < length ks → Ascends R (flat ks) → Ascends R (get_or ks i d).pairs
  kid_sorted i d p s =
      ascends_front R (get_or ks i d).pairs (flat (drop (suc i) ks)) (ascends_back R (flat (take i ks)) ((get_or ks i d).pairs ++ flat (drop (suc i) ks)) (subst (Ascends R) (flat_cut i ks d p) s))

  -- a key's place among the separators
  module _ (key : K) (i : ℕ) (d : Branch K V) (p : i ≤ length ss) (q : i < length ks) (lo : Each (λ s. IsFrom R s key) (take i ss)) (hi : Each (λ s. R key s ≡ Less) (drop i ss)) where
    pub all_before : Each (IsBefore R key) (flat (take i ks))
    all_before = lower_each R (IsBefore R key) (λ s. IsFrom R s key) (λ s e f h. before_sep R o key s e.0 f h) i ss ks p inner.parted lo

    pub all_after : Each (IsAfter R key) (flat (drop (suc i) ks))
    all_after = upper_each R (IsAfter R key) (λ s. R key s ≡ Less) (λ s e h f. after_sep R o key s e.0 h f) i ss ks inner.fits p inner.parted hi

    pub found_below : find R key (flat ks) ≡ find R key (get_or ks i d).pairs
    found_below = ap (find R key) (flat_cut i ks d q) ∙ find_between R o key (flat (take i ks)) (get_or ks i d).pairs (flat (drop (suc i) ks)) all_before all_after

    pub put_below : (v : V) → put R key v (flat ks) ≡ flat (take i ks) ++ (put R key v (get_or ks i d).pairs ++ flat (drop (suc i) ks))
    put_below v = ap (put R key v) (flat_cut i ks d q) ∙ put_between R o key v (flat (take i ks)) (get_or ks i d).pairs (flat (drop (suc i) ks)) all_before all_after

    pub without_below : without R key (flat ks) ≡ flat (take i ks) ++ (without R key (get_or ks i d).pairs ++ flat (drop (suc i) ks))
    without_below = ap (without R key) (flat_cut i ks d q) ∙ without_between R o key (flat (take i ks)) (get_or ks i d).pairs (flat (drop (suc i) ks)) all_before all_after
