-- A database's nodes make it again, and settings that are nodes make one of nodes.
use Rattle.std.proofs.Common.{◌≡◌, ℕ, Bool, true, false, cond, List, [], ◌∷◌, Option, Some, None, refl, sym, ap, ◌∙◌}
use Rattle.std.proofs.lemmas.Bool.{and_parts, and_from}
use Rattle.std.proofs.lemmas.List.{nil_from_length}
use Rattle.std.specs.List.{list_all}
use Rattle.std.specs.Option.{option_or}
use Rattle.std.specs.declared.cmp.Ordering.{Ordering}
use Rattle.std.specs.declared.cmp.Ordering.TheVariants.{Less, Equal, Greater}
use Rattle.std.specs.Ordering.{eq_by_cmp}
use Rattle.std.specs.Cmp.{first_so, second_so}
use Rattle.std.specs.FinMap as finmap
use Rattle.std.specs.FinMap.Entries.{below_all, is_sorted, put, by_order}
use Rattle.collation.specs.Reference.{Reference}
use Rattle.collation.specs.Order.{ref_cmp}
use Rattle.collation.specs.Database.{Database}
use Rattle.collation.specs.Answers.{set_all}
use Rattle.collation.specs.laws.Order.{ref_cmp_total, ref_cmp-IsAntisymmetric, is_equal}
use Rattle.collation.specs.laws.Entries.{not_found_itself, true_of}
use Rattle.loading.specs.Settings.{Setting, database_of}
use Rattle.loading.specs.Statements.{is_reference, is_node, holds_nodes, NodesMakeTheDatabase}

or_none : {A : Type 0} (o : Option A) → option_or o None ≡ o
or_none None = refl
or_none (Some x) = refl

get_set : (es : List Setting) (m : Database) (q : Reference) → is_sorted ref_cmp es ≡ true → finmap.get (set_all es m) q ≡ option_or (finmap.find ref_cmp q es) (finmap.get m q)
get_set [] m q h = refl
get_set (e ∷ es) m q h =
    get_set es (finmap.insert m e.0 e.1) q (second_so (below_all ref_cmp e.0 es) _ h)
    ∙ ap (option_or (finmap.find ref_cmp q es)) (finmap.get-insert ref_cmp_total m e.0 e.1 q)
    ∙ at (eq_by_cmp ref_cmp q e.0) refl
  where
    at : (t : Bool) → eq_by_cmp ref_cmp q e.0 ≡ t → option_or (finmap.find ref_cmp q es) (cond t (Some e.1) (finmap.get m q)) ≡ option_or (cond t (Some e.1) (finmap.find ref_cmp q es)) (finmap.get m q)
    at true f =
        let q_is : q ≡ e.0 = ref_cmp-IsAntisymmetric q e.0 (is_equal (ref_cmp q e.0) f) in
        let none : finmap.find ref_cmp q es ≡ None = ap (λ (z : Reference). finmap.find ref_cmp z es) q_is ∙ not_found_itself ref_cmp ref_cmp_total ref_cmp-IsAntisymmetric e.0 es (first_so _ _ h) in
        rw none refl
    at false f = refl

pub nodes_make : NodesMakeTheDatabase
nodes_make m = finmap.same_map ref_cmp_total ref_cmp-IsAntisymmetric _ _ (λ q.
    get_set (finmap.entries m) finmap.empty q (true_of _ (finmap.entries_sorted m))
    ∙ ap (option_or (finmap.find ref_cmp q (finmap.entries m))) (finmap.get-empty ref_cmp q)
    ∙ or_none (finmap.find ref_cmp q (finmap.entries m))
    ∙ sym (finmap.get-entries m q))

put_nodes : (k : Reference) (v : List ℕ) (es : List Setting) → is_node (k, v) ≡ true → list_all is_node es ≡ true → list_all is_node (put ref_cmp k v es) ≡ true
put_nodes k v [] is all = and_from _ _ is refl
put_nodes k v (e ∷ es) is all = at (ref_cmp k e.0) (put_nodes k v es is (and_parts (is_node e) _ all).1)
  where
    at : (o : Ordering) → list_all is_node (put ref_cmp k v es) ≡ true → list_all is_node (by_order o ((k, v) ∷ e ∷ es) ((e.0, v) ∷ es) (e ∷ put ref_cmp k v es)) ≡ true
    at Less rest = and_from _ _ is all
    at Equal rest =
        let p = and_parts (is_node e) _ all in
        let reference = (and_parts (is_reference e.0) _ p.0).0 in
        let value = (and_parts (is_reference k) _ is).1 in
        and_from _ _ (and_from _ _ reference value) p.1
    at Greater rest = and_from _ _ (and_parts (is_node e) _ all).0 rest

set_nodes : (es : List Setting) (m : Database) → list_all is_node es ≡ true → holds_nodes m ≡ true → holds_nodes (set_all es m) ≡ true
set_nodes [] m all holds = holds
set_nodes (e ∷ es) m all holds =
    let p = and_parts (is_node e) _ all in
    set_nodes es (finmap.insert m e.0 e.1) p.1 (ap (list_all is_node) (finmap.entries-insert ref_cmp_total m e.0 e.1) ∙ put_nodes e.0 e.1 (finmap.entries m) p.0 holds)

empty_nodes : holds_nodes finmap.empty ≡ true
empty_nodes = ap (list_all is_node) (nil_from_length (finmap.entries finmap.empty) (sym (finmap.len-entries finmap.empty) ∙ finmap.len-empty ref_cmp (List ℕ)))

pub database_nodes : (settings : List Setting) → list_all is_node settings ≡ true → holds_nodes (database_of settings) ≡ true
database_nodes settings all = set_nodes settings finmap.empty all empty_nodes
