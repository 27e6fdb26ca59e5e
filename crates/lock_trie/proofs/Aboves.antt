-- The name before another has the same beginnings in a map.
use Rattle.std.proofs.Common.{◌≡◌, ◌<◌, List, true, false, length, refl, sym, ap, subst, ◌∙◌, arith}
use Rattle.std.specs.Prelude.{Some, None, IsSome}
use Rattle.std.specs.declared.cmp.Ordering.{Ordering}
use Rattle.std.specs.declared.cmp.Ordering.TheVariants.{Less, Equal, Greater}
use Rattle.std.specs.Ordering.{is_lt, is_gt}
use Rattle.std.specs.Cmp.{first_so, second_so}
use Rattle.std.proofs.lemmas.Bool.{ltb-true}
use Rattle.std.specs.FinMap as finmap
use Rattle.std.specs.FinMap.{FinMap, is_sorted, find, from_sorted}
use Rattle.collation.specs.Reference.{Resource}
use Rattle.lock_name.specs.Locks.{resource_cmp}
use Rattle.collation.specs.laws.Order.{is_less}
use Rattle.lock_name.specs.laws.Counting.{resource_cmp_total, resource_cmp-IsAntisymmetric}
use Rattle.btree.specs.Order.{find_last}
use Rattle.lock_trie.specs.Names.{is_at_or_under, is_above, HasNoneAbove, HaveSameAbove}
use Rattle.lock_trie.proofs.Pairs.{map_get}
use Rattle.lock_trie.specs.laws.Unders.{under_not_before, under_between, before_turned}
use Rattle.lock_trie.proofs.Nearest.{last_is, none_passes}

-- a shorter beginning stands before its name
pub above_before : (x n : Resource) → is_at_or_under x n ≡ true → length x.reference.subscripts < length n.reference.subscripts → is_lt (resource_cmp x n) ≡ true
above_before x n b short = by_order (resource_cmp x n) refl
  where
    by_order : (r : Ordering) → resource_cmp x n ≡ r → is_lt (resource_cmp x n) ≡ true
    by_order Less e = ap is_lt e
    by_order Equal e =
        let s : length x.reference.subscripts ≡ length n.reference.subscripts = ap (λ (z : Resource). length z.reference.subscripts) (resource_cmp-IsAntisymmetric x n e) in
        absurd (omega arith)
    by_order Greater e = let t : true ≡ false = sym (ap is_gt e) ∙ sym (before_turned n x) ∙ under_not_before x n b in absurd (cc)

module _ {X : Type 0} (es : List (Resource × X)) (m : FinMap resource_cmp X) (n : Resource) (h : is_sorted resource_cmp es ≡ true) (view : from_sorted es ≡ m) where
  there : (x : Resource) → IsSome (finmap.get m x) → IsSome (find resource_cmp x es)
  there x s = subst IsSome (ap (λ k. finmap.get k x) (sym view) ∙ map_get es x h) s

  before : (x : Resource) → is_above n x ≡ true → is_lt (resource_cmp x n) ≡ true
  before x above = above_before x n (first_so (is_at_or_under x n) _ above) (ltb-true _ _ (second_so (is_at_or_under x n) _ above))

  pub none_before : None ≡ find_last (λ e. is_lt (resource_cmp e.0 n)) es → HasNoneAbove m n
  none_before is x s above = none_passes resource_cmp resource_cmp_total resource_cmp-IsAntisymmetric (λ k. is_lt (resource_cmp k n)) es (sym is) x (there x s) (before x above)

  pub same_above : (p : Resource × X) → Some p ≡ find_last (λ e. is_lt (resource_cmp e.0 n)) es → HaveSameAbove m n p.0
  same_above p is x s above =
      let last = last_is resource_cmp resource_cmp_total resource_cmp-IsAntisymmetric (λ k. is_lt (resource_cmp k n)) es p h (sym is) in
      under_between x p.0 n (last.latest x (there x s) (before x above)) (is_less _ last.passes) (first_so (is_at_or_under x n) _ above)
