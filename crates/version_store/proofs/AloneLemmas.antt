-- One reference taken out alone, since nothing placed is under it.
use Rattle.std.proofs.Common.{◌≡◌, ℕ, ◌+◌, ◌≤◌, List, [], ◌∷◌, ◌++◌, refl, sym, ap, ◌∙◌, subst}
use Rattle.std.specs.Prelude.{Bool, true, false, not, cond, ◌&&◌, Some, None}
use Rattle.std.specs.List.{filter}
use Rattle.std.specs.Ordering.{is_eq, is_lt, eq_by_cmp, ordering_reverse}
use Rattle.std.specs.declared.cmp.Ordering.{Ordering}
use Rattle.std.specs.declared.cmp.Ordering.TheVariants.{Less, Equal, Greater}
use Rattle.std.specs.Cmp.{first_so, second_so, eq_by_cmp_equiv}
use Rattle.std.specs.FinMap.{find, is_sorted, retain_keys}
use Rattle.std.specs.FinMap.Entries.{below_all, find-where_key}
use Rattle.collation.specs.Reference.{Reference}
use Rattle.collation.specs.Order.{ref_cmp}
use Rattle.collation.specs.Levels.{is_before}
use Rattle.collation.specs.laws.Order.{ref_cmp_total, ref_cmp-IsAntisymmetric, ref_ties, is_less, is_equal}
use Rattle.globals.specs.laws.Cuts.{under_between}
use Rattle.globals.specs.laws.Under.{under_itself}
use Rattle.btree.specs.Order.{Each, without}
use Rattle.version_chain.specs.Chains.{cells_at, IsOpen, Updates}
use Rattle.version_store.specs.declared.kill.Placed.TheVariants.{Nothing, Itself}
use Rattle.version_store.specs.Versions.{cells_in}
use Rattle.version_store.specs.Tied.{versions_in, rows, IsTied}
use Rattle.version_store.proofs.TiedLemmas.{State, Pairs}
use Rattle.version_store.proofs.KillLemmas.{IsClosing, stays, closing_begun, closing_on, closed_tied, closed_versions, closed_told, closed_cells}

each_map : {A : Type 0} (P Q : A → Type 0) → ((x : A) → P x → Q x) → (xs : List A) → Each P xs → Each Q xs
each_map P Q f [] a = tt
each_map P Q f (x ∷ xs) a = (f x a.0, each_map P Q f xs a.1)

each_both : {A : Type 0} (P Q : A → Type 0) (xs : List A) → Each P xs → Each Q xs → Each (λ x. P x × Q x) xs
each_both P Q [] a b = tt
each_both P Q (x ∷ xs) a b = ((a.0, b.0), each_both P Q xs a.1 b.1)

each_back : {A : Type 0} (P : A → Type 0) (xs ys : List A) → Each P (xs ++ ys) → Each P ys
each_back P [] ys a = a
each_back P (x ∷ xs) ys a = each_back P xs ys a.1

sorted_back : (fs es : Pairs) → is_sorted ref_cmp (fs ++ es) ≡ true → is_sorted ref_cmp es ≡ true
sorted_back [] es h = h
sorted_back (f ∷ fs) es h = sorted_back fs es (second_so (below_all ref_cmp f.0 (fs ++ es)) (is_sorted ref_cmp (fs ++ es)) h)

all_below : (x : Reference) (es : Pairs) → below_all ref_cmp x es ≡ true → Each (λ (e : Reference × ℕ). ref_cmp x e.0 ≡ Less) es
all_below x [] h = tt
all_below x (e ∷ es) h = (is_less _ (first_so (is_lt (ref_cmp x e.0)) (below_all ref_cmp x es) h), all_below x es (second_so (is_lt (ref_cmp x e.0)) (below_all ref_cmp x es) h))

itself : (r : Reference) → eq_by_cmp ref_cmp r r ≡ true
itself r = let laws = eq_by_cmp_equiv ref_cmp_total in laws.refl r

equal_itself : (r : Reference) → ref_cmp r r ≡ Equal
equal_itself r = is_equal (ref_cmp r r) (itself r)

module _ (r : Reference) (id : ℕ) where
  find_none : (es : Pairs) → Each (λ (e : Reference × ℕ). ref_cmp r e.0 ≡ Less) es → find ref_cmp r es ≡ None
  find_none [] a = refl
  find_none (e ∷ es) a = ap (λ o. cond (is_eq o) (Some e.1) (find ref_cmp r es)) a.0 ∙ find_none es a.1

  -- what is found there, and isn't before the reference, is the first
  first_found : (es : Pairs) → is_sorted ref_cmp es ≡ true → Each (λ (e : Reference × ℕ). is_lt (ref_cmp e.0 r) ≡ false) es → find ref_cmp r es ≡ Some id → (more : Pairs) × (es ≡ (r, id) ∷ more)
  first_found [] h low f = absurd (cc)
  first_found (e ∷ es) h low f = by_order (ref_cmp r e.0) refl f
    where
      later : ref_cmp r e.0 ≡ Less → Each (λ (x : Reference × ℕ). ref_cmp r x.0 ≡ Less) es
      later l = each_map (λ (x : Reference × ℕ). ref_cmp e.0 x.0 ≡ Less) (λ (x : Reference × ℕ). ref_cmp r x.0 ≡ Less) (λ x m. ref_cmp_total.trans r e.0 x.0 l m) es (all_below e.0 es (first_so (below_all ref_cmp e.0 es) (is_sorted ref_cmp es) h))

      by_order : (o : Ordering) → ref_cmp r e.0 ≡ o → cond (is_eq o) (Some e.1) (find ref_cmp r es) ≡ Some id → (more : Pairs) × (e ∷ es ≡ (r, id) ∷ more)
      by_order Less l g = let none = find_none es (later l) in absurd (cc)
      by_order Equal l g =
          let same : e.0 ≡ r = sym (ref_cmp-IsAntisymmetric r e.0 l) in
          let value : e.1 ≡ id = cc in
          (es, ap (λ k. (k, e.1) ∷ es) same ∙ ap (λ n. (r, n) ∷ es) value)
      by_order Greater l g =
          let less : is_lt (ref_cmp e.0 r) ≡ true = ap is_lt (ref_cmp_total.antisymm e.0 r ∙ ap ordering_reverse l) in
          let not_less = low.0 in absurd (cc)

  module _ (all : Pairs) (c d : State) (now : ℕ) (tied : IsTied all c now) (found : find ref_cmp r all ≡ Some id) where
    pub open_alone : IsOpen c id
    open_alone = tied.opened r id found

    abbrev rest : Pairs
    rest = filter (λ e. not (is_lt (ref_cmp e.0 r))) all

    begun : IsClosing r all c rest c Nothing
    begun = closing_begun r all c now tied

    whole : begun.front ++ rest ≡ all
    whole = begun.told

    found_there : find ref_cmp r rest ≡ Some id
    found_there =
        find-where_key ref_cmp (λ x. not (is_lt (ref_cmp x r))) r (λ x e. ap (λ y. not (is_lt (ref_cmp y r))) (sym (ref_cmp-IsAntisymmetric r x e))) all
        ∙ ap (λ o. cond (not (is_lt o)) (find ref_cmp r all) None) (equal_itself r) ∙ found

    first : (more : Pairs) × (rest ≡ (r, id) ∷ more)
    first = first_found rest (sorted_back begun.front rest (subst (λ es. is_sorted ref_cmp es ≡ true) (sym whole) tied.sorted)) begun.behind found_there

    module _ (alone : Each (λ (e : Reference × ℕ). ref_cmp r e.0 ≡ Less → is_before true r e.0 ≡ false) all) (gone : Updates c d id None) (given : d.spare ≡ c.spare + cells_at c id) where
      closing : IsClosing r all c first.0 d Itself
      closing = closing_on r all c now tied rest first.0 r id c d Nothing true first.1 (under_itself r) (sym (ref_ties r r ∙ itself r)) begun gone given

      none : Each (λ (e : Reference × ℕ). stays r e.0 ≡ true) first.0
      none =
          let sorted = sorted_back begun.front ((r, id) ∷ first.0) (subst (λ es. is_sorted ref_cmp (begun.front ++ es) ≡ true) first.1 (subst (λ es. is_sorted ref_cmp es ≡ true) (sym whole) tied.sorted)) in
          let behind = all_below r first.0 (first_so (below_all ref_cmp r first.0) (is_sorted ref_cmp first.0) sorted) in
          let tests = each_back (λ (e : Reference × ℕ). ref_cmp r e.0 ≡ Less → is_before true r e.0 ≡ false) begun.front rest (subst (Each (λ (e : Reference × ℕ). ref_cmp r e.0 ≡ Less → is_before true r e.0 ≡ false)) (sym whole) alone) in
          let past = (subst (Each (λ (e : Reference × ℕ). ref_cmp r e.0 ≡ Less → is_before true r e.0 ≡ false)) first.1 tests).1 in
          each_map (λ (e : Reference × ℕ). (ref_cmp r e.0 ≡ Less) × (ref_cmp r e.0 ≡ Less → is_before true r e.0 ≡ false)) (λ (e : Reference × ℕ). stays r e.0 ≡ true) (λ e h. outside e.0 (h.1 h.0)) first.0
          (each_both (λ (e : Reference × ℕ). ref_cmp r e.0 ≡ Less) (λ (e : Reference × ℕ). ref_cmp r e.0 ≡ Less → is_before true r e.0 ≡ false) first.0 behind past)
        where
          and_false : (b : Bool) → (b && false) ≡ false
          and_false true = refl
          and_false false = refl

          outside : (y : Reference) → is_before true r y ≡ false → stays r y ≡ true
          outside y after = ap not (under_between r y ∙ ap (λ b. not (is_lt (ref_cmp y r)) && b) after ∙ and_false (not (is_lt (ref_cmp y r))))

      pub pairs_alone : without ref_cmp r all ≡ filter (λ e. stays r e.0) all
      pairs_alone = sym (closed_told r all c now tied first.0 d Itself closing none)

      pub tied_alone : (n : ℕ) → IsTied all c n → IsTied (filter (λ e. stays r e.0) all) d n
      tied_alone n t = closed_tied r all c now tied first.0 d Itself closing none n t

      pub versions_alone : versions_in d (filter (λ e. stays r e.0) all) ≡ retain_keys (versions_in c all) (stays r)
      versions_alone = closed_versions r all c now tied first.0 d Itself closing none

      pub spare_alone : c.spare ≤ d.spare
      spare_alone = closing.spare

      pub cells_alone : d.spare + cells_in (rows d (filter (λ e. stays r e.0) all)) ≡ c.spare + cells_in (rows c all)
      cells_alone = closed_cells r all c now tied first.0 d Itself closing none
