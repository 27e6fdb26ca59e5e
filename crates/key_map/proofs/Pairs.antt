-- Pairs in order as a finite map.
use Rattle.std.proofs.Common.{◌≡◌, Bool, true, false, List, [], ◌∷◌, length, refl, sym, ap, ◌∙◌, Ok, Err, IfOk, OnErr}
use Rattle.std.specs.Prelude.{not, cond, Result, Some, None}
use Rattle.std.specs.Bool.{passes}
use Rattle.std.specs.Option.{option_or}
use Rattle.std.specs.Ordering.{eq_by_cmp}
use Rattle.std.specs.declared.cmp.Ordering.TheVariants.{Equal}
use Rattle.std.specs.Cmp.{eq_by_cmp_equiv}
use Rattle.std.specs.FinMap.{is_sorted, find, get, insert, remove, empty, entries, from_sorted, same_map, same_entries_map, entries-from_sorted, entries-insert, get-from_sorted, get-remove, retain_keys, get-retain_keys, empty_of_len, len-entries}
use Rattle.std.specs.FinMap.Entries.{put, where_key, is_sorted-put, find-where_key, is_sorted-where_key}
use Rattle.collation.specs.Reference.{Reference}
use Rattle.collation.specs.Order.{ref_cmp}
use Rattle.collation.specs.laws.Order.{ref_cmp_total, ref_cmp-IsAntisymmetric}
use Rattle.globals.specs.laws.Nearest.{true_of}
use Rattle.btree.specs.Order.{without, find_last as last_pair}
use Rattle.steady_map.specs.Shown.{Seen}
use Rattle.globals.specs.Entries.{nearest_entry, find_last}

module _ {X : Type 0} where
  pub map_none : from_sorted {X = X} {R = ref_cmp} [] ≡ empty
  map_none = empty_of_len _ (len-entries _ ∙ ap length (entries-from_sorted ref_cmp [] tt))

  pub map_get : (es : List (Reference × X)) (q : Reference) → is_sorted ref_cmp es ≡ true → get (from_sorted {R = ref_cmp} es) q ≡ find ref_cmp q es
  map_get es q h = get-from_sorted ref_cmp es q (passes _ h)

  pub map_entries : (es : List (Reference × X)) → is_sorted ref_cmp es ≡ true → entries (from_sorted {R = ref_cmp} es) ≡ es
  map_entries es h = entries-from_sorted ref_cmp es (passes _ h)

  -- one pair more

  pub sorted_put : (es : List (Reference × X)) (k : Reference) (v : X) → is_sorted ref_cmp es ≡ true → is_sorted ref_cmp (put ref_cmp k v es) ≡ true
  sorted_put es k v h = true_of _ (is_sorted-put ref_cmp ref_cmp_total k v es (passes _ h))

  pub map_put : (es : List (Reference × X)) (k : Reference) (v : X) → is_sorted ref_cmp es ≡ true → from_sorted {R = ref_cmp} (put ref_cmp k v es) ≡ insert (from_sorted es) k v
  map_put es k v h = same_entries_map _ _ (map_entries (put ref_cmp k v es) (sorted_put es k v h)
      ∙ ap (put ref_cmp k v) (sym (map_entries es h)) ∙ sym (entries-insert ref_cmp_total (from_sorted es) k v))

  -- one pair less

  pub sorted_without : (es : List (Reference × X)) (k : Reference) → is_sorted ref_cmp es ≡ true → is_sorted ref_cmp (without ref_cmp k es) ≡ true
  sorted_without es k h = true_of _ (is_sorted-where_key ref_cmp (λ x. not (eq_by_cmp ref_cmp k x)) es (passes _ h))

  find_without : (es : List (Reference × X)) (k q : Reference) → find ref_cmp q (without ref_cmp k es) ≡ cond (eq_by_cmp ref_cmp q k) None (find ref_cmp q es)
  find_without es k q =
      find-where_key ref_cmp (λ x. not (eq_by_cmp ref_cmp k x)) q (λ x e. ap (λ y. not (eq_by_cmp ref_cmp k y)) (sym (ref_cmp-IsAntisymmetric q x e))) es
      ∙ by_tie (eq_by_cmp ref_cmp k q) ∙ ap (λ b. cond b None (find ref_cmp q es)) (let laws = eq_by_cmp_equiv ref_cmp_total in laws.symm k q)
    where
      by_tie : (t : Bool) → cond (not t) (find ref_cmp q es) None ≡ cond t None (find ref_cmp q es)
      by_tie true = refl
      by_tie false = refl

  pub map_without : (es : List (Reference × X)) (k : Reference) → is_sorted ref_cmp es ≡ true → from_sorted {R = ref_cmp} (without ref_cmp k es) ≡ remove (from_sorted es) k
  map_without es k h = same_map ref_cmp_total ref_cmp-IsAntisymmetric _ _ (λ q.
      map_get (without ref_cmp k es) q (sorted_without es k h) ∙ find_without es k q
      ∙ ap (cond (eq_by_cmp ref_cmp q k) None) (sym (map_get es q h)) ∙ sym (get-remove ref_cmp_total (from_sorted es) k q))

  -- the keys that pass a test

  pub sorted_where : (p : Reference → Bool) (es : List (Reference × X)) → is_sorted ref_cmp es ≡ true → is_sorted ref_cmp (where_key ref_cmp p es) ≡ true
  sorted_where p es h = true_of _ (is_sorted-where_key ref_cmp p es (passes _ h))

  pub map_where : (p : Reference → Bool) (es : List (Reference × X)) → is_sorted ref_cmp es ≡ true → from_sorted {R = ref_cmp} (where_key ref_cmp p es) ≡ retain_keys (from_sorted es) p
  map_where p es h =
      let alike : (q x : Reference) → ref_cmp q x ≡ Equal → p x ≡ p q = λ q x e. ap p (sym (ref_cmp-IsAntisymmetric q x e)) in
      same_map ref_cmp_total ref_cmp-IsAntisymmetric _ _ (λ q.
      map_get (where_key ref_cmp p es) q (sorted_where p es h) ∙ find-where_key ref_cmp p q (alike q) es ∙ ap (λ o. cond (p q) o None) (sym (map_get es q h)) ∙ sym (get-retain_keys (from_sorted es) p q (alike q)))

  -- a value in place of another, or no change

  pub sorted_replaced : {E : Type 0} (r : Result X E) (was now : Seen Reference X) (k : Reference) (v : X) → is_sorted ref_cmp was.pairs ≡ true → IfOk r (λ _. now.pairs ≡ put ref_cmp k v was.pairs) → OnErr r (now ≡ was) → is_sorted ref_cmp now.pairs ≡ true
  sorted_replaced (Ok x) was now k v h put same = ap (is_sorted ref_cmp) put ∙ sorted_put was.pairs k v h
  sorted_replaced (Err x) was now k v h put same = ap (λ c. is_sorted ref_cmp c.pairs) same ∙ h

  pub map_replaced : {E : Type 0} (r : Result X E) (es fs : List (Reference × X)) (k : Reference) (v : X) → is_sorted ref_cmp es ≡ true → IfOk r (λ _. fs ≡ put ref_cmp k v es) → IfOk r (λ _. from_sorted {R = ref_cmp} fs ≡ insert (from_sorted es) k v)
  map_replaced (Ok x) es fs k v h put = ap from_sorted put ∙ map_put es k v h
  map_replaced (Err x) es fs k v h put = put

  -- the last that passes a test, as the tree says it
  same_last : (P : Reference → Bool) (es : List (Reference × X)) → last_pair (λ e. P e.0) es ≡ find_last (λ e. P e.0) es
  same_last P [] = refl
  same_last P (e ∷ es) = ap (λ o. option_or o (cond (P e.0) (Some e) None)) (same_last P es)

  pub last_in : (P : Reference → Bool) (es : List (Reference × X)) → is_sorted ref_cmp es ≡ true → last_pair (λ e. P e.0) es ≡ nearest_entry false P (from_sorted {R = ref_cmp} es)
  last_in P es h = same_last P es ∙ ap (find_last (λ e. P e.0)) (sym (map_entries es h))
