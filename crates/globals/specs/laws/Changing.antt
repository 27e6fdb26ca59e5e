-- What SET, the kills, MERGE and $INCREMENT leave, reference by reference.
use Rattle.std.proofs.Common.{◌≡◌, ℕ, Bool, true, false, List, [], ◌∷◌, ◌++◌, length, drop, refl, sym, ap, subst, ◌∙◌}
use Rattle.std.specs.Prelude.{cond, not, ◌&&◌, ◌||◌, map, filter, is_some, Option, Some, None}
use Rattle.std.specs.Option.{option_or}
use Rattle.std.specs.Ordering.{eq_by_cmp}
use Rattle.std.proofs.Math.Seq.{drop-append_seam}
use Rattle.std.proofs.lemmas.Bool.{and_from}
use Rattle.std.specs.Cmp.{both_ways, first_so, second_so}
use Rattle.std.specs.Cmp.Lexicographic.{bytes_decides}
use Rattle.std.specs.FinMap as finmap
use Rattle.std.specs.FinMap.Entries.{is_sorted, below_all}
use Rattle.collation.specs.Reference.{Reference}
use Rattle.collation.specs.Order.{ref_cmp, ref_eq}
use Rattle.collation.specs.laws.Order.{ref_cmp_total, ref_cmp-IsAntisymmetric, ref_ties, ref_eq_decides}
use Rattle.collation.specs.Database.{Database, is_under, begins_with}
use Rattle.collation.specs.Answers.{merged, moved, set_all}
use Rattle.globals.specs.laws.Nearest.{not_found_itself, true_of}
use Rattle.globals.specs.ChangeStatements.{SetSetsOne, KillTakesItsExtent, IncrementSetsTheSum, MergeCopiesSubtree}
use Rattle.command.specs.Data.{sum_at, takes}
use Rattle.globals.specs.Copies.{copied, all_copies}

-- ---- SET and KILL

pub get_set : (m : Database) (r : Reference) (v : List ℕ) (q : Reference) → finmap.get (finmap.insert m r v) q ≡ cond (ref_eq q r) (Some v) (finmap.get m q)
get_set m r v q = finmap.get-insert ref_cmp_total m r v q ∙ ap (λ b. cond b (Some v) (finmap.get m q)) (sym (ref_ties q r))

pub set_one : SetSetsOne
set_one m r v q = get_set m r v q

turned : {A : Type 0} (b : Bool) (x y : A) → cond (not b) x y ≡ cond b y x
turned true x y = refl
turned false x y = refl

pub kill_taken : KillTakesItsExtent
kill_taken m r extent q =
    finmap.get-retain_keys m (λ x. not (takes extent r x)) q (λ x e. ap (λ z. not (takes extent r z)) (sym (ref_cmp-IsAntisymmetric q x e)))
    ∙ turned (takes extent r q) (finmap.get m q) None

pub increment_one : IncrementSetsTheSum
increment_one m r n q = get_set m r (sum_at r n m) q

-- ---- what is moved

begins_append : (ys zs : List (List ℕ)) → begins_with (ys ++ zs) ys ≡ true
begins_append [] zs = refl
begins_append (y ∷ ys) zs = and_from _ _ ((bytes_decides y y).1 refl) (begins_append ys zs)

pub begins_back : (xs ys : List (List ℕ)) → begins_with xs ys ≡ true → ys ++ drop (length ys) xs ≡ xs
begins_back xs [] h = refl
begins_back [] (y ∷ ys) h = absurd (cc)
begins_back (x ∷ xs) (y ∷ ys) h =
    let same : x ≡ y = (bytes_decides x y).0 (first_so _ _ h) in
    λ i. sym same i ∷ begins_back xs ys (second_so _ _ h) i

pub under_moved : (a b e : Reference) → is_under a (moved a b e) ≡ true
under_moved a b e = and_from _ _ ((bytes_decides a.name a.name).1 refl) (begins_append a.subscripts (drop (length b.subscripts) e.subscripts))

-- moved there and back
pub back_moved : (a b e : Reference) → is_under b e ≡ true → moved b a (moved a b e) ≡ e
back_moved a b e h =
    let name : b.name ≡ e.name = (bytes_decides b.name e.name).0 (first_so _ _ h) in
    let rest : b.subscripts ++ drop (length a.subscripts) (a.subscripts ++ drop (length b.subscripts) e.subscripts) ≡ e.subscripts =
    ap (λ l. b.subscripts ++ l) (drop-append_seam a.subscripts (drop (length b.subscripts) e.subscripts)) ∙ begins_back e.subscripts b.subscripts (second_so _ _ h) in
    λ i. record { name = name i; subscripts = rest i }

-- q is the copy of e where e is what q would be a copy of
pub same_copy : (a b q e : Reference) → is_under b e ≡ true → ref_eq q (moved a b e) ≡ (is_under a q && ref_eq (moved b a q) e)
same_copy a b q e h = both_ways _ _ onward back
  where
    onward : ref_eq q (moved a b e) ≡ true → (is_under a q && ref_eq (moved b a q) e) ≡ true
    onward s =
        let q_is : q ≡ moved a b e = (ref_eq_decides q (moved a b e)).0 s in
        subst (λ z. (is_under a z && ref_eq (moved b a z) e) ≡ true) (sym q_is) (and_from _ _ (under_moved a b e) ((ref_eq_decides (moved b a (moved a b e)) e).1 (back_moved a b e h)))

    back : (is_under a q && ref_eq (moved b a q) e) ≡ true → ref_eq q (moved a b e) ≡ true
    back s =
        let e_is : moved b a q ≡ e = (ref_eq_decides (moved b a q) e).0 (second_so (is_under a q) (ref_eq (moved b a q) e) s) in
        (ref_eq_decides q (moved a b e)).1 (sym (ap (moved a b) (sym e_is) ∙ back_moved b a q (first_so (is_under a q) (ref_eq (moved b a q) e) s)))

-- ---- MERGE

-- the value that the list gives last to q
last_of : Reference → List (Reference × List ℕ) → Option (List ℕ)
last_of q [] = None
last_of q (e ∷ es) = option_or (last_of q es) (cond (ref_eq q e.0) (Some e.1) None)

shuffled : {A : Type 0} (o : Option A) (b : Bool) (v : A) (g : Option A) → option_or o (cond b (Some v) g) ≡ option_or (option_or o (cond b (Some v) None)) g
shuffled (Some x) b v g = refl
shuffled None true v g = refl
shuffled None false v g = refl

get_set_all : (es : List (Reference × List ℕ)) (m : Database) (q : Reference) → finmap.get (set_all es m) q ≡ option_or (last_of q es) (finmap.get m q)
unfolding last_of
get_set_all [] m q = refl
get_set_all (e ∷ es) m q = get_set_all es (finmap.insert m e.0 e.1) q ∙ ap (option_or (last_of q es)) (get_set m e.0 e.1 q) ∙ shuffled (last_of q es) (ref_eq q e.0) e.1 (finmap.get m q)

or_none : {A : Type 0} (o : Option A) → option_or o None ≡ o
or_none None = refl
or_none (Some x) = refl

-- a value found last, in a list that has it once
found_once : {A : Type 0} (u w : Bool) (o : Option A) (v : A) → (w ≡ true → o ≡ None) → option_or (cond u o None) (cond (u && w) (Some v) None) ≡ cond u (cond w (Some v) o) None
found_once false w o v once = refl
found_once true true o v once = rw (once refl) refl
found_once true false o v once = or_none o

not_found : {A : Type 0} (u w : Bool) (o : Option A) (v : A) → ¬ (w ≡ true) → cond u o None ≡ cond u (cond w (Some v) o) None
not_found false w o v never = refl
not_found true true o v never = absurd (never refl)
not_found true false o v never = refl

empty : (A : Type 0) (u : Bool) → cond {A = Option A} u None None ≡ None
empty A true = refl
empty A false = refl

last_copied : (a b q : Reference) (es : List (Reference × List ℕ)) → is_sorted ref_cmp es ≡ true → last_of q (map (copied a b) (filter (λ e. is_under b e.0) es)) ≡ cond (is_under a q) (finmap.find ref_cmp (moved b a q) es) None
unfolding last_of
last_copied a b q [] h = sym (empty (List ℕ) (is_under a q))
last_copied a b q (e ∷ es) h =
    let rest = last_copied a b q es (second_so (below_all ref_cmp e.0 es) _ h) in
    let tied : eq_by_cmp ref_cmp (moved b a q) e.0 ≡ ref_eq (moved b a q) e.0 = sym (ref_ties (moved b a q) e.0) in
    let once : ref_eq (moved b a q) e.0 ≡ true → finmap.find ref_cmp (moved b a q) es ≡ None =
    λ s. ap (λ z. finmap.find ref_cmp z es) ((ref_eq_decides (moved b a q) e.0).0 s) ∙ not_found_itself ref_cmp ref_cmp_total ref_cmp-IsAntisymmetric e.0 es (first_so _ _ h) in
    elim (is_under b e.0) as (λ u. is_under b e.0 ≡ u → last_of q (map (copied a b) (cond u (e ∷ filter (λ e. is_under b e.0) es) (filter (λ e. is_under b e.0) es))) ≡ cond (is_under a q) (cond (eq_by_cmp ref_cmp (moved b a q) e.0) (Some e.1) (finmap.find ref_cmp (moved b a q) es)) None) [
      | true ↦ λ u. rw (tied, rest, same_copy a b q e.0 u) (found_once (is_under a q) (ref_eq (moved b a q) e.0) _ e.1 once)
      | false ↦ λ u. rw tied (rest ∙ not_found (is_under a q) (ref_eq (moved b a q) e.0) _ e.1 (λ s.
          let e_is : moved b a q ≡ e.0 = (ref_eq_decides (moved b a q) e.0).0 s in
          let t : is_under b e.0 ≡ true = subst (λ z. is_under b z ≡ true) e_is (under_moved b a q) in
          absurd (cc)))
    ] refl

chosen : {A : Type 0} (u : Bool) (o g : Option A) → option_or (cond u o None) g ≡ cond u (option_or o g) g
chosen true o g = refl
chosen false o g = refl

or_itself : {A : Type 0} (o : Option A) → option_or o o ≡ o
or_itself None = refl
or_itself (Some x) = refl

-- what is under a reference is its own copy where that is merged into itself
pub moved_itself : (a e : Reference) → is_under a e ≡ true → moved a a e ≡ e
moved_itself a e h =
    let name : a.name ≡ e.name = (bytes_decides a.name e.name).0 (first_so _ _ h) in
    let rest : a.subscripts ++ drop (length a.subscripts) e.subscripts ≡ e.subscripts = begins_back e.subscripts a.subscripts (second_so _ _ h) in
    λ i. record { name = name i; subscripts = rest i }

pub merge_subtree : MergeCopiesSubtree
merge_subtree m a b q = by_same (ref_eq a b) refl
  where
    kept : (u : Bool) (o g : Option (List ℕ)) → (u ≡ true → o ≡ g) → g ≡ cond u (option_or o g) g
    kept true o g same = sym (ap (λ o. option_or o g) (same refl) ∙ or_itself g)
    kept false o g same = refl

    by_same : (t : Bool) → ref_eq a b ≡ t → finmap.get (set_all (cond t [] (all_copies a b m)) m) q ≡ cond (is_under a q) (option_or (finmap.get m (moved b a q)) (finmap.get m q)) (finmap.get m q)
    by_same true e =
        let one : b ≡ a = sym ((ref_eq_decides a b).0 e) in
        kept (is_under a q) (finmap.get m (moved b a q)) (finmap.get m q) (λ u. ap (finmap.get m) (ap (λ z. moved z a q) one ∙ moved_itself a q u))
    by_same false e =
        get_set_all (all_copies a b m) m q
        ∙ ap (λ o. option_or o (finmap.get m q)) (last_copied a b q (finmap.entries m) (true_of _ (finmap.entries_sorted m)) ∙ ap (λ o. cond (is_under a q) o None) (sym (finmap.get-entries m (moved b a q))))
        ∙ chosen (is_under a q) (finmap.get m (moved b a q)) (finmap.get m q)

-- copies that are set in any database w: a reference has a value where it is a copy, or had one in w
some_or : {A : Type 0} (u : Bool) (o g : Option A) → is_some (option_or (cond u o None) g) ≡ ((u && is_some o) || is_some g)
some_or true (Some x) g = refl
some_or true None g = refl
some_or false o g = refl

pub contains_merged : (a b x : Reference) (m w : Database) →
    finmap.contains_key (set_all (merged a b m) w) x ≡ ((not (ref_eq a b) && (is_under a x && finmap.contains_key m (moved b a x))) || finmap.contains_key w x)
contains_merged a b x m w = by_same (ref_eq a b)
  where
    by_same : (t : Bool) → finmap.contains_key (set_all (cond t [] (all_copies a b m)) w) x ≡ ((not t && (is_under a x && finmap.contains_key m (moved b a x))) || finmap.contains_key w x)
    by_same true = refl
    by_same false =
        ap is_some (get_set_all (all_copies a b m) w x ∙ ap (λ o. option_or o (finmap.get w x)) (last_copied a b x (finmap.entries m) (true_of _ (finmap.entries_sorted m)) ∙ ap (λ o. cond (is_under a x) o None) (sym (finmap.get-entries m (moved b a x)))))
        ∙ some_or (is_under a x) (finmap.get m (moved b a x)) (finmap.get w x)
