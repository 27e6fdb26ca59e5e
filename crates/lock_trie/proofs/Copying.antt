-- A map of another's entries.
use Rattle.std.proofs.Common.{◌≡◌, List, [], ◌∷◌, Bool, true, false, refl, sym, ap, ◌∙◌}
use Rattle.std.specs.Prelude.{cond, Option, Some, None}
use Rattle.std.specs.Option.{option_or}
use Rattle.std.specs.Ordering.{eq_by_cmp}
use Rattle.std.specs.Cmp.{first_so, second_so}
use Rattle.std.specs.FinMap as finmap
use Rattle.std.specs.FinMap.{FinMap, is_sorted, find, same_map, get-insert, get-empty, get-entries}
use Rattle.std.specs.FinMap.Entries.{below_all}
use Rattle.collation.specs.Reference.{Resource}
use Rattle.lock_name.specs.Locks.{resource_cmp}
use Rattle.lock_name.specs.laws.Counting.{resource_cmp_total, resource_cmp-IsAntisymmetric, same_resource}
use Rattle.collation.specs.laws.Entries.{true_of, not_found_itself}

module _ {X : Type 0} where
  -- the map with these entries, which are put in in turn
  abbrev pub with_all : List (Resource × X) → FinMap resource_cmp X → FinMap resource_cmp X
  with_all [] m = m
  with_all (e ∷ es) m = with_all es (finmap.insert m e.0 e.1)

  found_in : (es : List (Resource × X)) (m : FinMap resource_cmp X) (q : Resource) → is_sorted resource_cmp es ≡ true → finmap.get (with_all es m) q ≡ option_or (find resource_cmp q es) (finmap.get m q)
  found_in [] m q h = refl
  found_in (e ∷ es) m q h =
      found_in es (finmap.insert m e.0 e.1) q (second_so (below_all resource_cmp e.0 es) _ h) ∙ ap (option_or (find resource_cmp q es)) (get-insert resource_cmp_total m e.0 e.1 q) ∙ by_test (eq_by_cmp resource_cmp q e.0) refl
    where
      by_test : (b : Bool) → eq_by_cmp resource_cmp q e.0 ≡ b → option_or (find resource_cmp q es) (cond b (Some e.1) (finmap.get m q)) ≡ option_or (cond b (Some e.1) (find resource_cmp q es)) (finmap.get m q)
      by_test true t = ap (λ o. option_or o (Some e.1)) (ap (λ z. find resource_cmp z es) (same_resource q e.0 t) ∙ not_found_itself resource_cmp resource_cmp_total resource_cmp-IsAntisymmetric e.0 es (first_so _ _ h))
      by_test false t = refl

  pub all_copied : (m : FinMap resource_cmp X) → with_all (finmap.entries m) finmap.empty ≡ m
  all_copied m = same_map resource_cmp_total resource_cmp-IsAntisymmetric _ m (λ q.
      found_in (finmap.entries m) finmap.empty q (true_of _ (finmap.entries_sorted m)) ∙ ap (option_or (find resource_cmp q (finmap.entries m))) (get-empty resource_cmp q) ∙ or_none (find resource_cmp q (finmap.entries m)) ∙ sym (get-entries m q))
    where
      or_none : (o : Option X) → option_or o None ≡ o
      or_none None = refl
      or_none (Some x) = refl
