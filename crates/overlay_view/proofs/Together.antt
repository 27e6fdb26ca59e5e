-- The nodes of writes laid over a database, from a cut on, are two lists as one.
use Rattle.std.proofs.Common.{◌≡◌, ℕ, Bool, true, false, List, [], ◌∷◌, refl, sym, ap, subst, ◌∙◌}
use Rattle.std.specs.Prelude.{cond, not, Option, Some, None}
use Rattle.std.proofs.lemmas.Bool.{and_from}
use Rattle.std.specs.Bool.{passes}
use Rattle.std.specs.Option.{option_or}
use Rattle.std.specs.declared.cmp.Ordering.{Ordering}
use Rattle.std.specs.declared.cmp.Ordering.TheVariants.{Less, Equal, Greater}
use Rattle.std.specs.Ordering.{is_lt, eq_by_cmp}
use Rattle.std.specs.Cmp.{first_so, second_so}
use Rattle.std.specs.FinMap as finmap
use Rattle.std.specs.FinMap.{find, is_sorted}
use Rattle.std.specs.FinMap.Entries.{by_order, below_all, find-where_key, is_sorted-where_key, same_entries}
use Rattle.collation.specs.Reference.{Reference}
use Rattle.collation.specs.Order.{ref_cmp}
use Rattle.collation.specs.laws.Order.{ref_cmp_total, ref_cmp-IsAntisymmetric, is_less, is_equal, turned}
use Rattle.collation.specs.Database.{Database}
use Rattle.globals.specs.declared.cut.Cut.{Cut}
use Rattle.globals.specs.Cuts.{stands_before, entries_from}
use Rattle.globals.specs.laws.Nearest.{true_of, not_found_itself}
use Rattle.workspace.specs.Layers.{Layer, is_killed, laid_over}
use Rattle.workspace.specs.laws.Layering.{get_over}
use Rattle.overlay_view.specs.Merging.{without_killed, joined}
use Rattle.overlay_view.proofs.Nearness.{Node}

-- ---- the order of two lists as one

below_more : (x y : Reference) (es : List Node) → ref_cmp x y ≡ Less → below_all ref_cmp y es ≡ true → below_all ref_cmp x es ≡ true
below_more x y [] l h = refl
below_more x y (e ∷ es) l h =
    and_from _ _ (ap is_lt (ref_cmp_total.trans x y e.0 l (is_less _ (first_so _ _ h)))) (below_more x y es l (second_so (is_lt (ref_cmp y e.0)) _ h))

below_joined : (x : Reference) (xs ys : List Node) → below_all ref_cmp x xs ≡ true → below_all ref_cmp x ys ≡ true → below_all ref_cmp x (joined xs ys) ≡ true
below_joined x [] ys h k = k
below_joined x (a ∷ xs) [] h k = h
below_joined x (a ∷ xs) (b ∷ ys) h k =
    by_test (ref_cmp a.0 b.0) (below_joined x xs (b ∷ ys) (second_so (is_lt (ref_cmp x a.0)) _ h) k) (below_joined x xs ys (second_so (is_lt (ref_cmp x a.0)) _ h) (second_so (is_lt (ref_cmp x b.0)) _ k))
    (below_joined x (a ∷ xs) ys h (second_so (is_lt (ref_cmp x b.0)) _ k))
  where
    by_test : (o : Ordering) → below_all ref_cmp x (joined xs (b ∷ ys)) ≡ true → below_all ref_cmp x (joined xs ys) ≡ true → below_all ref_cmp x (joined (a ∷ xs) ys) ≡ true
        → below_all ref_cmp x (by_order o (a ∷ joined xs (b ∷ ys)) (a ∷ joined xs ys) (b ∷ joined (a ∷ xs) ys)) ≡ true
    by_test Less own both below = and_from _ _ (first_so _ _ h) own
    by_test Equal own both below = and_from _ _ (first_so _ _ h) both
    by_test Greater own both below = and_from _ _ (first_so _ _ k) below

sorted_joined : (xs ys : List Node) → is_sorted ref_cmp xs ≡ true → is_sorted ref_cmp ys ≡ true → is_sorted ref_cmp (joined xs ys) ≡ true
sorted_joined [] ys h k = k
sorted_joined (a ∷ xs) [] h k = h
sorted_joined (a ∷ xs) (b ∷ ys) h k =
    by_test (ref_cmp a.0 b.0) refl (sorted_joined xs (b ∷ ys) (second_so (below_all ref_cmp a.0 xs) _ h) k)
    (sorted_joined xs ys (second_so (below_all ref_cmp a.0 xs) _ h) (second_so (below_all ref_cmp b.0 ys) _ k)) (sorted_joined (a ∷ xs) ys h (second_so (below_all ref_cmp b.0 ys) _ k))
  where
    above_a : below_all ref_cmp a.0 xs ≡ true
    above_a = first_so _ _ h

    above_b : below_all ref_cmp b.0 ys ≡ true
    above_b = first_so _ _ k

    by_test : (o : Ordering) → ref_cmp a.0 b.0 ≡ o → is_sorted ref_cmp (joined xs (b ∷ ys)) ≡ true → is_sorted ref_cmp (joined xs ys) ≡ true → is_sorted ref_cmp (joined (a ∷ xs) ys) ≡ true
        → is_sorted ref_cmp (by_order o (a ∷ joined xs (b ∷ ys)) (a ∷ joined xs ys) (b ∷ joined (a ∷ xs) ys)) ≡ true
    by_test Less o own both below = and_from _ _ (below_joined a.0 xs (b ∷ ys) above_a (and_from _ _ (ap is_lt o) (below_more a.0 b.0 ys o above_b))) own
    by_test Equal o own both below =
        and_from _ _ (below_joined a.0 xs ys above_a (subst (λ z. below_all ref_cmp z ys ≡ true) (sym (ref_cmp-IsAntisymmetric a.0 b.0 o)) above_b)) both
    by_test Greater o own both below =
        let less = turned ref_cmp_total a.0 b.0 Greater o in
        and_from _ _ (below_joined b.0 (a ∷ xs) ys (and_from _ _ (ap is_lt less) (below_more b.0 a.0 xs less above_a)) above_b) below

-- ---- what they have at one reference

or_none : {A : Type 0} (o : Option A) → option_or o None ≡ o
or_none None = refl
or_none (Some x) = refl

find_joined : (q : Reference) (xs ys : List Node) → is_sorted ref_cmp xs ≡ true → find ref_cmp q (joined xs ys) ≡ option_or (find ref_cmp q xs) (find ref_cmp q ys)
find_joined q [] ys h = refl
find_joined q (a ∷ xs) [] h = sym (or_none _)
find_joined q (a ∷ xs) (b ∷ ys) h =
    by_test (ref_cmp a.0 b.0) refl (find_joined q xs (b ∷ ys) (second_so (below_all ref_cmp a.0 xs) _ h)) (find_joined q xs ys (second_so (below_all ref_cmp a.0 xs) _ h)) (find_joined q (a ∷ xs) ys h)
  where
    chosen : (t : Bool) (o : Option (List ℕ)) → cond t (Some a.1) (option_or (find ref_cmp q xs) o) ≡ option_or (cond t (Some a.1) (find ref_cmp q xs)) o
    chosen true o = refl
    chosen false o = refl

    same_tie : (t : Bool)
        → cond t (Some a.1) (option_or (find ref_cmp q xs) (find ref_cmp q ys)) ≡ option_or (cond t (Some a.1) (find ref_cmp q xs)) (cond t (Some b.1) (find ref_cmp q ys))
    same_tie true = refl
    same_tie false = refl

    -- b stands before all of the first list
    behind_none : ref_cmp b.0 a.0 ≡ Less → (t : Bool) → eq_by_cmp ref_cmp q b.0 ≡ t → find ref_cmp q (joined (a ∷ xs) ys) ≡ option_or (find ref_cmp q (a ∷ xs)) (find ref_cmp q ys)
        → cond t (Some b.1) (find ref_cmp q (joined (a ∷ xs) ys)) ≡ option_or (find ref_cmp q (a ∷ xs)) (cond t (Some b.1) (find ref_cmp q ys))
    behind_none less true t is =
        let same : q ≡ b.0 = ref_cmp-IsAntisymmetric q b.0 (is_equal (ref_cmp q b.0) t) in
        let none : find ref_cmp b.0 (a ∷ xs) ≡ None = not_found_itself ref_cmp ref_cmp_total ref_cmp-IsAntisymmetric b.0 (a ∷ xs) (and_from _ _ (ap is_lt less) (below_more b.0 a.0 xs less (first_so _ _ h))) in
        sym (ap (λ o. option_or o (Some b.1)) (ap (λ z. find ref_cmp z (a ∷ xs)) same ∙ none))
    behind_none less false t is = is

    by_test : (o : Ordering) → ref_cmp a.0 b.0 ≡ o → find ref_cmp q (joined xs (b ∷ ys)) ≡ option_or (find ref_cmp q xs) (find ref_cmp q (b ∷ ys))
        → find ref_cmp q (joined xs ys) ≡ option_or (find ref_cmp q xs) (find ref_cmp q ys)
        → find ref_cmp q (joined (a ∷ xs) ys) ≡ option_or (find ref_cmp q (a ∷ xs)) (find ref_cmp q ys)
        → find ref_cmp q (by_order o (a ∷ joined xs (b ∷ ys)) (a ∷ joined xs ys) (b ∷ joined (a ∷ xs) ys)) ≡ option_or (find ref_cmp q (a ∷ xs)) (find ref_cmp q (b ∷ ys))
    by_test Less o own both below = ap (cond (eq_by_cmp ref_cmp q a.0) (Some a.1)) own ∙ chosen (eq_by_cmp ref_cmp q a.0) (find ref_cmp q (b ∷ ys))
    by_test Equal o own both below =
        let tie : eq_by_cmp ref_cmp q b.0 ≡ eq_by_cmp ref_cmp q a.0 = ap (eq_by_cmp ref_cmp q) (sym (ref_cmp-IsAntisymmetric a.0 b.0 o)) in
        ap (cond (eq_by_cmp ref_cmp q a.0) (Some a.1)) both ∙ same_tie (eq_by_cmp ref_cmp q a.0)
        ∙ ap (λ t. option_or (find ref_cmp q (a ∷ xs)) (cond t (Some b.1) (find ref_cmp q ys))) (sym tie)
    by_test Greater o own both below = behind_none (turned ref_cmp_total a.0 b.0 Greater o) (eq_by_cmp ref_cmp q b.0) refl below

-- ---- the nodes from a cut on

alike : (P : Reference → Bool) (q x : Reference) → ref_cmp q x ≡ Equal → P x ≡ P q
alike P q x e = ap P (sym (ref_cmp-IsAntisymmetric q x e))

module _ (w : Layer) (m : Database) (cut : Cut) where
  abbrev P : Reference → Bool
  P x = not (stands_before cut x)

  sorted_from : (n : Database) → is_sorted ref_cmp (entries_from cut n) ≡ true
  sorted_from n = true_of _ (is_sorted-where_key ref_cmp P (finmap.entries n) (finmap.entries_sorted n))

  find_from : (n : Database) (q : Reference) → find ref_cmp q (entries_from cut n) ≡ cond (P q) (finmap.get n q) None
  find_from n q = find-where_key ref_cmp P q (alike P q) (finmap.entries n) ∙ ap (λ o. cond (P q) o None) (sym (finmap.get-entries n q))

  abbrev left : List Node
  left = without_killed w.killed (entries_from cut m)

  find_left : (q : Reference) → find ref_cmp q left ≡ cond (not (is_killed w.killed q)) (cond (P q) (finmap.get m q) None) None
  find_left q = find-where_key ref_cmp (λ x. not (is_killed w.killed x)) q (alike (λ x. not (is_killed w.killed x)) q) (entries_from cut m) ∙ ap (λ o. cond (not (is_killed w.killed q)) o None) (find_from m q)

  by_tests : (p k : Bool) (own below : Option (List ℕ)) → option_or (cond p own None) (cond (not k) (cond p below None) None) ≡ cond p (option_or own (cond k None below)) None
  by_tests true true own below = refl
  by_tests true false own below = refl
  by_tests false true own below = refl
  by_tests false false own below = refl

  pub nodes_over : joined (entries_from cut w.written) left ≡ entries_from cut (laid_over w m)
  nodes_over = same_entries ref_cmp ref_cmp_total ref_cmp-IsAntisymmetric _ _
      (passes _ (sorted_joined (entries_from cut w.written) left (sorted_from w.written)
      (true_of _ (is_sorted-where_key ref_cmp (λ x. not (is_killed w.killed x)) (entries_from cut m) (passes _ (sorted_from m))))))
      (passes _ (sorted_from (laid_over w m))) (λ q.
      find_joined q (entries_from cut w.written) left (sorted_from w.written)
      ∙ (λ i. option_or (find_from w.written q i) (find_left q i))
      ∙ by_tests (P q) (is_killed w.killed q) (finmap.get w.written q) (finmap.get m q)
      ∙ ap (λ o. cond (P q) o None) (sym (get_over w m q)) ∙ sym (find_from (laid_over w m) q))
