-- Pairs of lock names and values in order as a finite map.
use Rattle.std.proofs.Common.{◌≡◌, Bool, true, false, List, [], length, refl, sym, ap, ◌∙◌, Ok, Err, IfOk, OnErr}
use Rattle.std.specs.Prelude.{not, cond, Result, None}
use Rattle.std.specs.Bool.{passes}
use Rattle.std.specs.Ordering.{eq_by_cmp}
use Rattle.std.specs.Cmp.{eq_by_cmp_equiv}
use Rattle.std.specs.FinMap.{is_sorted, find, get, insert, remove, empty, entries, from_sorted, same_map, same_entries_map, entries-from_sorted, entries-insert, get-from_sorted, get-remove, empty_of_len, len-entries}
use Rattle.std.specs.FinMap.Entries.{put, is_sorted-put, find-where_key, is_sorted-where_key}
use Rattle.collation.specs.Reference.{Resource}
use Rattle.lock_name.specs.Locks.{resource_cmp}
use Rattle.lock_name.specs.laws.Counting.{resource_cmp_total, resource_cmp-IsAntisymmetric}
use Rattle.collation.specs.laws.Entries.{true_of}
use Rattle.btree.specs.Order.{without}
use Rattle.steady_map.specs.Shown.{Seen}

module _ {X : Type 0} where
  pub map_none : from_sorted {X = X} {R = resource_cmp} [] ≡ empty
  map_none = empty_of_len _ (len-entries _ ∙ ap length (entries-from_sorted resource_cmp [] tt))

  pub map_get : (es : List (Resource × X)) (q : Resource) → is_sorted resource_cmp es ≡ true → get (from_sorted {R = resource_cmp} es) q ≡ find resource_cmp q es
  map_get es q h = get-from_sorted resource_cmp es q (passes _ h)

  pub map_entries : (es : List (Resource × X)) → is_sorted resource_cmp es ≡ true → entries (from_sorted {R = resource_cmp} es) ≡ es
  map_entries es h = entries-from_sorted resource_cmp es (passes _ h)

  -- one pair more

  pub sorted_put : (es : List (Resource × X)) (k : Resource) (v : X) → is_sorted resource_cmp es ≡ true → is_sorted resource_cmp (put resource_cmp k v es) ≡ true
  sorted_put es k v h = true_of _ (is_sorted-put resource_cmp resource_cmp_total k v es (passes _ h))

  pub map_put : (es : List (Resource × X)) (k : Resource) (v : X) → is_sorted resource_cmp es ≡ true → from_sorted {R = resource_cmp} (put resource_cmp k v es) ≡ insert (from_sorted es) k v
  map_put es k v h = same_entries_map _ _ (map_entries (put resource_cmp k v es) (sorted_put es k v h)
      ∙ ap (put resource_cmp k v) (sym (map_entries es h)) ∙ sym (entries-insert resource_cmp_total (from_sorted es) k v))

  -- one pair less

  pub sorted_without : (es : List (Resource × X)) (k : Resource) → is_sorted resource_cmp es ≡ true → is_sorted resource_cmp (without resource_cmp k es) ≡ true
  sorted_without es k h = true_of _ (is_sorted-where_key resource_cmp (λ x. not (eq_by_cmp resource_cmp k x)) es (passes _ h))

  find_without : (es : List (Resource × X)) (k q : Resource) → find resource_cmp q (without resource_cmp k es) ≡ cond (eq_by_cmp resource_cmp q k) None (find resource_cmp q es)
  find_without es k q =
      find-where_key resource_cmp (λ x. not (eq_by_cmp resource_cmp k x)) q (λ x e. ap (λ y. not (eq_by_cmp resource_cmp k y)) (sym (resource_cmp-IsAntisymmetric q x e))) es
      ∙ by_tie (eq_by_cmp resource_cmp k q) ∙ ap (λ b. cond b None (find resource_cmp q es)) (let laws = eq_by_cmp_equiv resource_cmp_total in laws.symm k q)
    where
      by_tie : (t : Bool) → cond (not t) (find resource_cmp q es) None ≡ cond t None (find resource_cmp q es)
      by_tie true = refl
      by_tie false = refl

  pub map_without : (es : List (Resource × X)) (k : Resource) → is_sorted resource_cmp es ≡ true → from_sorted {R = resource_cmp} (without resource_cmp k es) ≡ remove (from_sorted es) k
  map_without es k h = same_map resource_cmp_total resource_cmp-IsAntisymmetric _ _ (λ q.
      map_get (without resource_cmp k es) q (sorted_without es k h) ∙ find_without es k q
      ∙ ap (cond (eq_by_cmp resource_cmp q k) None) (sym (map_get es q h)) ∙ sym (get-remove resource_cmp_total (from_sorted es) k q))

  -- a value in place of another, or no change

  pub sorted_replaced : {E : Type 0} (r : Result X E) (was now : Seen Resource X) (k : Resource) (v : X) → is_sorted resource_cmp was.pairs ≡ true → IfOk r (λ _. now.pairs ≡ put resource_cmp k v was.pairs) → OnErr r (now ≡ was) → is_sorted resource_cmp now.pairs ≡ true
  sorted_replaced (Ok x) was now k v h put same = ap (is_sorted resource_cmp) put ∙ sorted_put was.pairs k v h
  sorted_replaced (Err x) was now k v h put same = ap (λ c. is_sorted resource_cmp c.pairs) same ∙ h

  pub map_replaced : {E : Type 0} (r : Result X E) (es fs : List (Resource × X)) (k : Resource) (v : X) → is_sorted resource_cmp es ≡ true → IfOk r (λ _. fs ≡ put resource_cmp k v es) → IfOk r (λ _. from_sorted {R = resource_cmp} fs ≡ insert (from_sorted es) k v)
  map_replaced (Ok x) es fs k v h put = ap from_sorted put ∙ map_put es k v h
  map_replaced (Err x) es fs k v h put = put
