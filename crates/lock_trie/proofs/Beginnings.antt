-- What a map has at a point, told by the first pair from there on.
use Rattle.std.proofs.Common.{◌≡◌, Bool, true, false, List, sym, ap, ◌∙◌}
use Rattle.std.specs.Prelude.{cond, not, Option, Some, None}
use Rattle.std.specs.List.{find as first_of}
use Rattle.std.specs.Ordering.{is_lt, is_eq}
use Rattle.std.specs.FinMap as finmap
use Rattle.std.specs.FinMap.{FinMap, is_sorted, from_sorted}
use Rattle.collation.specs.Reference.{Resource}
use Rattle.lock_name.specs.Locks.{resource_cmp}
use Rattle.lock_name.specs.laws.Counting.{resource_cmp_total, resource_cmp-IsAntisymmetric}
use Rattle.lock_trie.proofs.Pairs.{map_get}
use Rattle.lock_trie.proofs.Nearest.{at_key, found_first}

module _ {X : Type 0} (es : List (Resource × X)) (m : FinMap resource_cmp X) (h : is_sorted resource_cmp es ≡ true) (view : from_sorted es ≡ m) (q : Resource) where
  found_at : (o : Option (Resource × X)) → o ≡ first_of (λ e. not (is_lt (resource_cmp e.0 q))) es → finmap.get m q ≡ at_key resource_cmp resource_cmp_total resource_cmp-IsAntisymmetric q o
  found_at o first =
      ap (λ n. finmap.get n q) (sym view) ∙ map_get es q h ∙ found_first resource_cmp resource_cmp_total resource_cmp-IsAntisymmetric q es h
      ∙ ap (at_key resource_cmp resource_cmp_total resource_cmp-IsAntisymmetric q) (sym first)

  pub at_found : (k : Resource) (v : X) (t : Bool) → Some (k, v) ≡ first_of (λ e. not (is_lt (resource_cmp e.0 q))) es → t ≡ is_eq (resource_cmp k q) → t ≡ true → Some v ≡ finmap.get m q
  at_found k v t first tested yes_ = sym (found_at (Some (k, v)) first ∙ ap (λ c. cond c (Some v) None) (sym tested ∙ yes_))

  pub at_other : (k : Resource) (v : X) (t : Bool) → Some (k, v) ≡ first_of (λ e. not (is_lt (resource_cmp e.0 q))) es → t ≡ is_eq (resource_cmp k q) → t ≡ false → None ≡ finmap.get m q
  at_other k v t first tested no_ = sym (found_at (Some (k, v)) first ∙ ap (λ c. cond c (Some v) None) (sym tested ∙ no_))

  pub at_end : None ≡ first_of (λ e. not (is_lt (resource_cmp e.0 q))) es → None ≡ finmap.get m q
  at_end first = sym (found_at None first)
