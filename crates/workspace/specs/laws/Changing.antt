-- The listed changes are those that turn the database into the writes laid over it.
use Rattle.std.proofs.Common.{◌≡◌, ℕ, Bool, true, false, List, [], ◌∷◌, ◌++◌, ◌⊎◌, inl, inr, refl, sym, ap, subst, ◌∙◌}
use Rattle.std.specs.Prelude.{⊤, cond, not, ◌&&◌, ◌||◌, filter, is_some, unwrap_or, Option, Some, None}
use Rattle.std.proofs.lemmas.Bool.{and_from, or_left, or_right, false_from_ne_true}
use Rattle.std.specs.Option.{option_or, option_map}
use Rattle.std.specs.declared.cmp.Ordering.{Ordering}
use Rattle.std.specs.declared.cmp.Ordering.TheVariants.{Less, Equal, Greater}
use Rattle.std.specs.Ordering.{is_lt, eq_by_cmp}
use Rattle.std.specs.Cmp.{tied_itself, first_so, second_so}
use Rattle.std.specs.List.{list_any}
use Rattle.std.specs.FinMap as finmap
use Rattle.std.specs.FinMap.{FinMap}
use Rattle.std.specs.FinMap.Entries.{below_all, is_sorted, find-where_key, is_sorted-where_key}
use Rattle.collation.specs.Reference.{Reference}
use Rattle.collation.specs.Order.{ref_cmp, ref_eq}
use Rattle.collation.specs.laws.Order.{ref_cmp_total, ref_cmp-IsAntisymmetric, ref_ties, ref_eq_decides, is_equal, is_less, turned}
use Rattle.collation.specs.Database.{Database}
use Rattle.command.specs.Data.{takes}
use Rattle.command.specs.declared.access.Extent.{Extent}
use Rattle.globals.specs.Cuts.{taken_of}
use Rattle.globals.specs.laws.Nearest.{not_found_itself, none_pass, true_of}
use Rattle.globals.specs.laws.Taken.{takes_under}
use Rattle.workspace.specs.Layers.{Layer, is_killed, NoneUnderAnother}
use Rattle.globals.specs.laws.Under.{not_before}
use Rattle.workspace.specs.laws.Layering.{get_over, takes_earlier, found_first, found_behind}
use Rattle.workspace.specs.Changes.{AreChanges, set_changes, removed, removed_by}
use Rattle.collation.specs.Changes.{Change, changed, AreOnce}

abbrev Node : Type 0
Node = Reference × List ℕ

-- ---- the change of one reference

find_two : {X : Type 0} (q : Reference) (es fs : List (Reference × X)) → finmap.find ref_cmp q (es ++ fs) ≡ option_or (finmap.find ref_cmp q es) (finmap.find ref_cmp q fs)
find_two q [] fs = refl
find_two q (e ∷ es) fs =
    elim (eq_by_cmp ref_cmp q e.0) as (λ b. cond b (Some e.1) (finmap.find ref_cmp q (es ++ fs)) ≡ option_or (cond b (Some e.1) (finmap.find ref_cmp q es)) (finmap.find ref_cmp q fs)) [
      | true ↦ refl
      | false ↦ find_two q es fs
    ]

find_set : (q : Reference) (es : List Node) → finmap.find ref_cmp q (set_changes es) ≡ option_map (λ v. Some v) (finmap.find ref_cmp q es)
find_set q [] = refl
find_set q (e ∷ es) =
    elim (eq_by_cmp ref_cmp q e.0) as (λ b. cond b (Some (Some e.1)) (finmap.find ref_cmp q (set_changes es)) ≡ option_map (λ v. Some v) (cond b (Some e.1) (finmap.find ref_cmp q es))) [
      | true ↦ refl
      | false ↦ find_set q es
    ]

-- a removal
abbrev gone : Option (List ℕ) → Option (Option (List ℕ))
gone o = option_map (λ v. None) o

unwritten : (w : Bool) (o : Option (Option (List ℕ))) → o ≡ cond w None o → cond w None o ≡ o
unwritten w o e = sym e

find_removed : (written : Database) (q : Reference) (es : List Node) → finmap.find ref_cmp q (removed written es) ≡ cond (finmap.contains_key written q) None (gone (finmap.find ref_cmp q es))
find_removed written q [] = sym (by_test (finmap.contains_key written q))
  where
    by_test : (b : Bool) → cond b None (gone None) ≡ None
    by_test true = refl
    by_test false = refl
find_removed written q (e ∷ es) = by_tests (finmap.contains_key written e.0) (eq_by_cmp ref_cmp q e.0) refl refl (find_removed written q es)
  where
    by_tests : (h t : Bool) → finmap.contains_key written e.0 ≡ h → eq_by_cmp ref_cmp q e.0 ≡ t → finmap.find ref_cmp q (removed written es) ≡ cond (finmap.contains_key written q) None (gone (finmap.find ref_cmp q es))
        → finmap.find ref_cmp q (cond h (removed written es) ((e.0, None) ∷ removed written es)) ≡ cond (finmap.contains_key written q) None (gone (cond t (Some e.1) (finmap.find ref_cmp q es)))
    by_tests true true is tied rest =
        let q_is : q ≡ e.0 = ref_cmp-IsAntisymmetric q e.0 (is_equal (ref_cmp q e.0) tied) in
        let has : finmap.contains_key written q ≡ true = ap (finmap.contains_key written) q_is ∙ is in
        rest ∙ ap (λ b. cond b None (gone (finmap.find ref_cmp q es))) has ∙ sym (ap (λ b. cond b None (gone (Some e.1))) has)
    by_tests true false is tied rest = rest
    by_tests false true is tied rest =
        let q_is : q ≡ e.0 = ref_cmp-IsAntisymmetric q e.0 (is_equal (ref_cmp q e.0) tied) in
        let has : finmap.contains_key written q ≡ false = ap (finmap.contains_key written) q_is ∙ is in
        ap (λ b. cond b (Some None) (finmap.find ref_cmp q (removed written es))) tied ∙ sym (ap (λ b. cond b None (gone (Some e.1))) has)
    by_tests false false is tied rest = ap (λ b. cond b (Some None) (finmap.find ref_cmp q (removed written es))) tied ∙ rest

any_is : {X : Type 0} (q : Reference) (cs : List (Reference × X)) → list_any (λ (c : Reference × X). ref_eq q c.0) cs ≡ is_some (finmap.find ref_cmp q cs)
any_is q [] = refl
any_is q (c ∷ cs) = ap (λ b. b || list_any (λ c. ref_eq q c.0) cs) (ref_ties q c.0) ∙ by_test (eq_by_cmp ref_cmp q c.0) (any_is q cs)
  where
    by_test : (b : Bool) → list_any (λ c. ref_eq q c.0) cs ≡ is_some (finmap.find ref_cmp q cs) → (b || list_any (λ c. ref_eq q c.0) cs) ≡ is_some (cond b (Some c.1) (finmap.find ref_cmp q cs))
    by_test true rest = refl
    by_test false rest = rest

none_of : {X : Type 0} (o : Option X) → is_some o ≡ false → o ≡ None
none_of None h = refl
none_of (Some x) h = absurd (cc)

-- ---- what changes leave

get_changed : (cs : List Change) (m : Database) (q : Reference) → AreOnce cs → finmap.get (changed cs m) q ≡ unwrap_or (finmap.find ref_cmp q cs) (finmap.get m q)
get_changed [] m q once = refl
get_changed ((k, Some v) ∷ cs) m q once = get_changed cs (finmap.insert m k v) q once.1 ∙ ap (unwrap_or (finmap.find ref_cmp q cs)) (finmap.get-insert ref_cmp_total m k v q) ∙ by_test (eq_by_cmp ref_cmp q k) refl
  where
    by_test : (b : Bool) → eq_by_cmp ref_cmp q k ≡ b → unwrap_or (finmap.find ref_cmp q cs) (cond b (Some v) (finmap.get m q)) ≡ unwrap_or (cond b (Some (Some v)) (finmap.find ref_cmp q cs)) (finmap.get m q)
    by_test true tied =
        let q_is : q ≡ k = ref_cmp-IsAntisymmetric q k (is_equal (ref_cmp q k) tied) in
        let none : finmap.find ref_cmp q cs ≡ None = ap (λ z. finmap.find ref_cmp z cs) q_is ∙ once.0 in
        ap (λ o. unwrap_or o (Some v)) none
    by_test false tied = refl
get_changed ((k, None) ∷ cs) m q once = get_changed cs (finmap.remove m k) q once.1 ∙ ap (unwrap_or (finmap.find ref_cmp q cs)) (finmap.get-remove ref_cmp_total m k q) ∙ by_test (eq_by_cmp ref_cmp q k) refl
  where
    by_test : (b : Bool) → eq_by_cmp ref_cmp q k ≡ b → unwrap_or (finmap.find ref_cmp q cs) (cond b None (finmap.get m q)) ≡ unwrap_or (cond b (Some None) (finmap.find ref_cmp q cs)) (finmap.get m q)
    by_test true tied =
        let q_is : q ≡ k = ref_cmp-IsAntisymmetric q k (is_equal (ref_cmp q k) tied) in
        let none : finmap.find ref_cmp q cs ≡ None = ap (λ z. finmap.find ref_cmp z cs) q_is ∙ once.0 in
        ap (λ o. unwrap_or o None) none
    by_test false tied = refl

-- ---- each once

once_set : (es : List Node) → is_sorted ref_cmp es ≡ true → AreOnce (set_changes es)
once_set [] h = tt
once_set (e ∷ es) h =
    (find_set e.0 es ∙ ap (option_map (λ v. Some v)) (not_found_itself ref_cmp ref_cmp_total ref_cmp-IsAntisymmetric e.0 es (first_so _ _ h)), once_set es (second_so (below_all ref_cmp e.0 es) _ h))

once_removed : (written : Database) (es : List Node) → is_sorted ref_cmp es ≡ true → AreOnce (removed written es)
once_removed written [] h = tt
once_removed written (e ∷ es) h = by_test (finmap.contains_key written e.0) refl (once_removed written es (second_so (below_all ref_cmp e.0 es) _ h))
  where
    by_test : (b : Bool) → finmap.contains_key written e.0 ≡ b → AreOnce (removed written es) → AreOnce (cond b (removed written es) ((e.0, None) ∷ removed written es))
    by_test true is rest = rest
    by_test false is rest =
        (find_removed written e.0 es ∙ (λ i. cond (is i) None (gone (not_found_itself ref_cmp ref_cmp_total ref_cmp-IsAntisymmetric e.0 es (first_so _ _ h) i))), rest)

once_both : (cs ds : List Change) → AreOnce cs → AreOnce ds → ((q : Reference) → is_some (finmap.find ref_cmp q cs) ≡ true → finmap.find ref_cmp q ds ≡ None) → AreOnce (cs ++ ds)
once_both [] ds a b apart = b
once_both (c ∷ cs) ds a b apart = (
  find_two c.0 cs ds ∙ (λ i. option_or (a.0 i) (apart c.0 (ap is_some here) i)),
  once_both cs ds a.1 b (λ q h. apart q (later q (eq_by_cmp ref_cmp q c.0) h)),
)
  where
    here : finmap.find ref_cmp c.0 (c ∷ cs) ≡ Some c.1
    here = ap (λ b. cond b (Some c.1) (finmap.find ref_cmp c.0 cs)) (sym (ref_ties c.0 c.0) ∙ (ref_eq_decides c.0 c.0).1 refl)

    later : (q : Reference) (b : Bool) → is_some (finmap.find ref_cmp q cs) ≡ true → is_some (cond b (Some c.1) (finmap.find ref_cmp q cs)) ≡ true
    later q true h = refl
    later q false h = h

-- ---- the changes of a workspace

abbrev pub killed_entries : Layer → Database → List (Reference × List ℕ)
killed_entries w m = filter (λ e. is_killed w.killed e.0) (finmap.entries m)

abbrev pub changes_of : Layer → Database → List Change
changes_of w m = set_changes (finmap.entries w.written) ++ removed w.written (killed_entries w m)

find_change : (w : Layer) (m : Database) (q : Reference) → finmap.find ref_cmp q (changes_of w m) ≡ option_or (option_map (λ v. Some v) (finmap.get w.written q)) (cond (finmap.contains_key w.written q) None (gone (cond (is_killed w.killed q) (finmap.get m q) None)))
find_change w m q =
    let killed_at : finmap.find ref_cmp q (killed_entries w m) ≡ cond (is_killed w.killed q) (finmap.get m q) None =
    find-where_key ref_cmp (is_killed w.killed) q (λ x e. ap (is_killed w.killed) (sym (ref_cmp-IsAntisymmetric q x e))) (finmap.entries m) ∙ ap (λ o. cond (is_killed w.killed q) o None) (sym (finmap.get-entries m q)) in
    find_two q (set_changes (finmap.entries w.written)) (removed w.written (killed_entries w m))
    ∙ (λ i. option_or ((find_set q (finmap.entries w.written) ∙ ap (option_map (λ v. Some v)) (sym (finmap.get-entries w.written q))) i)
    ((find_removed w.written q (killed_entries w m) ∙ ap (λ o. cond (finmap.contains_key w.written q) None (gone o)) killed_at) i))

once_changes : (w : Layer) (m : Database) → AreOnce (changes_of w m)
once_changes w m =
    once_both (set_changes (finmap.entries w.written)) (removed w.written (killed_entries w m)) (once_set (finmap.entries w.written) (true_of _ (finmap.entries_sorted w.written)))
    (once_removed w.written (killed_entries w m) (true_of _ (is_sorted-where_key ref_cmp (is_killed w.killed) (finmap.entries m) (finmap.entries_sorted m)))) (λ q h.
    let has : finmap.contains_key w.written q ≡ true = is_mapped (finmap.get w.written q) (sym (ap is_some (find_set q (finmap.entries w.written) ∙ ap (option_map (λ v. Some v)) (sym (finmap.get-entries w.written q)))) ∙ h) in
    find_removed w.written q (killed_entries w m) ∙ ap (λ b. cond b None (gone (finmap.find ref_cmp q (killed_entries w m)))) has)
  where
    is_mapped : (o : Option (List ℕ)) → is_some (option_map (λ v. Some v) o) ≡ true → is_some o ≡ true
    is_mapped None h = h
    is_mapped (Some v) h = refl

same_value : (o g : Option (List ℕ)) (k : Bool) → unwrap_or (option_or (option_map (λ v. Some v) o) (cond (is_some o) None (gone (cond k g None)))) g ≡ option_or o (cond k None g)
same_value (Some v) g k = refl
same_value None None true = refl
same_value None (Some x) true = refl
same_value None g false = refl

same_touch : (o g : Option (List ℕ)) (k : Bool) → is_some (option_or (option_map (λ v. Some v) o) (cond (is_some o) None (gone (cond k g None)))) ≡ (is_some o || (is_some g && not (is_some (option_or o (cond k None g)))))
same_touch (Some v) g k = refl
same_touch None None true = refl
same_touch None (Some x) true = refl
same_touch None None false = refl
same_touch None (Some x) false = refl

pub are_changes : (w : Layer) (m : Database) → AreChanges w m (changes_of w m)
are_changes w m = record {
  leave = finmap.same_map ref_cmp_total ref_cmp-IsAntisymmetric _ _ (λ q.
      get_changed (changes_of w m) m q (once_changes w m) ∙ ap (λ o. unwrap_or o (finmap.get m q)) (find_change w m q)
      ∙ same_value (finmap.get w.written q) (finmap.get m q) (is_killed w.killed q) ∙ sym (get_over w m q));
  touched = λ x.
      any_is x (changes_of w m) ∙ ap is_some (find_change w m x) ∙ same_touch (finmap.get w.written x) (finmap.get m x) (is_killed w.killed x)
      ∙ ap (λ o. finmap.contains_key w.written x || (finmap.contains_key m x && not (is_some o))) (sym (get_over w m x));
  once = once_changes w m;
}

-- ---- what is killed, root by root

removed-append : (written : Database) (es fs : List Node) → removed written (es ++ fs) ≡ removed written es ++ removed written fs
removed-append written [] fs = refl
removed-append written (e ∷ es) fs =
    elim (finmap.contains_key written e.0) as (λ b. cond b (removed written (es ++ fs)) ((e.0, None) ∷ removed written (es ++ fs)) ≡ cond b (removed written es) ((e.0, None) ∷ removed written es) ++ removed written fs) [
      | true ↦ removed-append written es fs
      | false ↦ ap (λ l. (e.0, None) ∷ l) (removed-append written es fs)
    ]

-- two blocks of a list in order, the first before the second
two_blocks : (P Q : Reference → Bool) → ((x y : Reference) → Q x ≡ true → ref_cmp x y ≡ Less → P y ≡ true → ⊥) → ((x : Reference) → P x ≡ true → Q x ≡ true → ⊥) → (es : List Node) → is_sorted ref_cmp es ≡ true
    → filter (λ e. P e.0) es ++ filter (λ e. Q e.0) es ≡ filter (λ e. P e.0 || Q e.0) es
two_blocks P Q before apart [] h = refl
two_blocks P Q before apart (e ∷ es) h = by_tests (P e.0) (Q e.0) refl refl (two_blocks P Q before apart es (second_so (below_all ref_cmp e.0 es) _ h))
  where
    by_tests : (p q : Bool) → P e.0 ≡ p → Q e.0 ≡ q → filter (λ e. P e.0) es ++ filter (λ e. Q e.0) es ≡ filter (λ e. P e.0 || Q e.0) es
        → cond p (e ∷ filter (λ e. P e.0) es) (filter (λ e. P e.0) es) ++ cond q (e ∷ filter (λ e. Q e.0) es) (filter (λ e. Q e.0) es) ≡ cond (p || q) (e ∷ filter (λ e. P e.0 || Q e.0) es) (filter (λ e. P e.0 || Q e.0) es)
    by_tests true true a b rest = absurd (apart e.0 a b)
    by_tests true false a b rest = ap (λ l. e ∷ l) rest
    by_tests false false a b rest = rest
    by_tests false true a b rest =
        let none : filter (λ f. P f.0) es ≡ [] = none_pass ref_cmp P e.0 es (λ y l. false_from_ne_true _ (λ p. before e.0 y b l p)) (first_so _ _ h) in
        ap (λ l. l ++ e ∷ filter (λ f. Q f.0) es) none ∙ ap (λ l. e ∷ l) (ap (λ l. l ++ filter (λ f. Q f.0) es) (sym none) ∙ rest)

abbrev Kill : Type 0
Kill = Reference × Extent

-- the reference of k stands before each of these, and none of them is taken by its kill
abbrev IsFirst : Kill → List Kill → Type 0
IsFirst k [] = ⊤
IsFirst k (f ∷ fs) = (ref_cmp k.0 f.0 ≡ Less) × (takes k.1 k.0 f.0 ≡ false) × IsFirst k fs

-- kills in order, of which none takes the reference of another
abbrev pub AreRoots : List Kill → Type 0
AreRoots [] = ⊤
AreRoots (k ∷ ks) = IsFirst k ks × AreRoots ks

-- what a later kill takes stands after all that an earlier one takes
beyond_root : (k f : Kill) (x y : Reference) → ref_cmp k.0 f.0 ≡ Less → takes k.1 k.0 f.0 ≡ false → takes f.1 f.0 x ≡ true → (ref_cmp x y ≡ Less) ⊎ (x ≡ y) → takes k.1 k.0 y ≡ true → ⊥
beyond_root k f x y l n u next t =
    let taken : takes k.1 k.0 f.0 ≡ true = takes_earlier k.1 k.0 f.0 y t l (by_order (ref_cmp f.0 x) refl next) in
    absurd (cc)
  where
    by_order : (o : Ordering) → ref_cmp f.0 x ≡ o → (ref_cmp x y ≡ Less) ⊎ (x ≡ y) → (ref_cmp f.0 y ≡ Less) ⊎ (f.0 ≡ y)
    by_order Less e (inl less) = inl (ref_cmp_total.trans f.0 x y e less)
    by_order Less e (inr same) = inl (ap (ref_cmp f.0) (sym same) ∙ e)
    by_order Equal e (inl less) = inl (ap (λ z. ref_cmp z y) (ref_cmp-IsAntisymmetric f.0 x e) ∙ less)
    by_order Equal e (inr same) = inr (ref_cmp-IsAntisymmetric f.0 x e ∙ same)
    by_order Greater e next = let no : false ≡ true = sym (ap (λ o. not (is_lt o)) (turned ref_cmp_total f.0 x Greater e)) ∙ not_before f.0 x (takes_under f.1 f.0 x u) in absurd (cc)

none_beyond : (k : Kill) (x y : Reference) (fs : List Kill) → IsFirst k fs → (ref_cmp x y ≡ Less) ⊎ (x ≡ y) → takes k.1 k.0 y ≡ true → is_killed fs x ≡ true → ⊥
none_beyond k x y [] first next t any = absurd (cc)
none_beyond k x y (f ∷ fs) first next t any =
    elim (takes f.1 f.0 x) as (λ b. takes f.1 f.0 x ≡ b → (b || is_killed fs x) ≡ true → ⊥) [
      | true ↦ λ u any. beyond_root k f x y first.0 first.1 u next t
      | false ↦ λ u any. none_beyond k x y fs first.2 next t any
    ] refl any

none_kept : (es : List Node) → filter (λ (e : Node). false) es ≡ []
none_kept [] = refl
none_kept (e ∷ es) = none_kept es

-- what the kills take, one after another, is what is killed, in order
pub removed_by_roots : (written m : Database) (ks : List Kill) → AreRoots ks → removed_by written m ks ≡ removed written (filter (λ (e : Node). is_killed ks e.0) (finmap.entries m))
removed_by_roots written m [] roots = ap (removed written) (sym (none_kept (finmap.entries m)))
removed_by_roots written m (k ∷ ks) roots =
    let later : Reference → Bool = λ x. is_killed ks x in
    ap (λ l. removed written (taken_of k.1 k.0 m) ++ l) (removed_by_roots written m ks roots.1)
    ∙ sym (removed-append written (taken_of k.1 k.0 m) (filter (λ (e : Node). later e.0) (finmap.entries m)))
    ∙ ap (removed written) (two_blocks (takes k.1 k.0) later
    (λ x y q l p. none_beyond k x y ks roots.0 (inl l) p q)
    (λ x p q. none_beyond k x x ks roots.0 (inr refl) p q) (finmap.entries m) (true_of _ (finmap.entries_sorted m)))

module _ (d : FinMap ref_cmp Extent) (was : NoneUnderAnother d) where
  AreThere : List Kill → Type 0
  AreThere fs = (r : Reference) (e : Extent) → finmap.find ref_cmp r fs ≡ Some e → finmap.get d r ≡ Some e

  first_of : (k : Kill) → finmap.get d k.0 ≡ Some k.1 → (fs : List Kill) → is_sorted ref_cmp fs ≡ true → below_all ref_cmp k.0 fs ≡ true → AreThere fs → IsFirst k fs
  unfolding AreThere
  first_of k here [] sorted h there = tt
  first_of k here (f ∷ fs) sorted h there =
      let less = is_less (ref_cmp k.0 f.0) (first_so _ _ h) in (
        less,
        false_from_ne_true _ (λ u.
            let same : k.0 ≡ f.0 = was.apart k.0 f.0 k.1 here (ap is_some (there f.0 f.1 (found_first f fs))) u in
            let tie : ref_cmp k.0 k.0 ≡ Less = subst (λ z. ref_cmp k.0 z ≡ Less) (sym same) less in
            let no : Equal ≡ Less = sym (tied_itself ref_cmp_total k.0) ∙ tie in
            absurd (cc)),
        first_of k here fs (second_so (below_all ref_cmp f.0 fs) _ sorted) (second_so (is_lt (ref_cmp k.0 f.0)) _ h) (λ r e t. there r e (found_behind f fs (first_so _ _ sorted) r e t)),
      )

  roots_in : (es : List Kill) → is_sorted ref_cmp es ≡ true → AreThere es → AreRoots es
  unfolding AreThere
  roots_in [] h there = tt
  roots_in (e ∷ es) h there =
      let behind : (r : Reference) (f : Extent) → finmap.find ref_cmp r es ≡ Some f → finmap.get d r ≡ Some f = λ r f t. there r f (found_behind e es (first_so _ _ h) r f t) in
      let rest : is_sorted ref_cmp es ≡ true = second_so (below_all ref_cmp e.0 es) _ h in
      (first_of e (there e.0 e.1 (found_first e es)) es rest (first_so _ _ h) behind, roots_in es rest behind)

  pub are_roots : AreRoots (finmap.entries d)
  unfolding AreThere
  are_roots = roots_in (finmap.entries d) (true_of _ (finmap.entries_sorted d)) (λ r e t. finmap.get-entries d r ∙ t)

-- the changes as they are listed
pub listed : (w : Layer) (m written : Database) (d : FinMap ref_cmp Extent) (cs : List Change) → record { written = written; killed = finmap.entries d } ≡ w → NoneUnderAnother d → cs ≡ set_changes (finmap.entries written) ++ removed_by written m (finmap.entries d) → AreChanges w m cs
listed w m written d cs is was e =
    let v : Layer = record { written = written; killed = finmap.entries d } in
    subst (λ z. AreChanges z m cs) is (subst (AreChanges v m) (sym (e ∙ ap (λ l. set_changes (finmap.entries written) ++ l) (removed_by_roots written m (finmap.entries d) (are_roots d was)))) (are_changes v m))
