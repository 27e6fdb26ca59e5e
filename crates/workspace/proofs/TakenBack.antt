-- What was set is taken back.
use Rattle.std.proofs.Common.{◌≡◌, ℕ, Bool, true, false, List, [], ◌∷◌, ◌++◌, refl, sym, ap, ◌∙◌, Ok, Err, IfOk, OnErr}
use Rattle.std.specs.Prelude.{cond, is_some, Result, Option, Some, None}
use Rattle.std.specs.FinMap as finmap
use Rattle.collation.specs.Reference.{Reference}
use Rattle.collation.specs.Order.{ref_eq}
use Rattle.collation.specs.laws.Order.{ref_cmp_total, ref_cmp-IsAntisymmetric, ref_ties, ref_eq_decides}
use Rattle.collation.specs.Database.{Database}
use Rattle.globals.specs.laws.Changing.{get_set}
use Rattle.workspace.specs.Copies.{taken_back, all_taken_back}

abbrev pub Note : Type 0
Note = Reference × Option (List ℕ)

-- the last one first
pub back_pushed : (cs : List Note) (c : Note) (m : Database) → all_taken_back (cs ++ c ∷ []) m ≡ all_taken_back cs (taken_back c m)
back_pushed [] c m = refl
back_pushed (d ∷ cs) c m = ap (taken_back d) (back_pushed cs c m)

same : (m n : Database) → ((q : Reference) → finmap.get m q ≡ finmap.get n q) → m ≡ n
same = finmap.same_map ref_cmp_total ref_cmp-IsAntisymmetric

back_none : (k : Reference) (v : List ℕ) (m : Database) → finmap.get m k ≡ None → finmap.remove (finmap.insert m k v) k ≡ m
back_none k v m none = same _ _ (λ q. finmap.get-remove ref_cmp_total (finmap.insert m k v) k q ∙ ap (λ b. cond b None (finmap.get (finmap.insert m k v) q)) (sym (ref_ties q k)) ∙ ap (cond (ref_eq q k) None) (get_set m k v q) ∙ by_test q (ref_eq q k) refl)
  where
    by_test : (q : Reference) (b : Bool) → ref_eq q k ≡ b → cond b None (cond b (Some v) (finmap.get m q)) ≡ finmap.get m q
    by_test q true e = sym (ap (finmap.get m) ((ref_eq_decides q k).0 e) ∙ none)
    by_test q false e = refl

back_some : (k : Reference) (v w : List ℕ) (m : Database) → finmap.get m k ≡ Some w → finmap.insert (finmap.insert m k v) k w ≡ m
back_some k v w m some = same _ _ (λ q. get_set (finmap.insert m k v) k w q ∙ ap (cond (ref_eq q k) (Some w)) (get_set m k v q) ∙ by_test q (ref_eq q k) refl)
  where
    by_test : (q : Reference) (b : Bool) → ref_eq q k ≡ b → cond b (Some w) (cond b (Some v) (finmap.get m q)) ≡ finmap.get m q
    by_test q true e = sym (ap (finmap.get m) ((ref_eq_decides q k).0 e) ∙ some)
    by_test q false e = refl

there : (k : Reference) (v : List ℕ) (m : Database) → finmap.contains_key (finmap.insert m k v) k ≡ true
there k v m = ap is_some (get_set m k v k ∙ ap (λ b. cond b (Some v) (finmap.get m k)) ((ref_eq_decides k k).1 refl))

-- what was there before is there again
back_one : (k : Reference) (v : List ℕ) (m : Database) (before : Option (List ℕ)) → finmap.get m k ≡ before → taken_back (k, before) (finmap.insert m k v) ≡ m
back_one k v m None is = back_none k v m is
back_one k v m (Some w) is = ap (λ b. cond b (finmap.insert (finmap.insert m k v) k w) (finmap.insert m k v)) (there k v m) ∙ back_some k v w m is

pub back_set : (cs ds : List Note) (k : Reference) (v : List ℕ) (m n : Database) (before : Option (List ℕ)) → ds ≡ cs ++ (k, before) ∷ [] → n ≡ finmap.insert m k v → before ≡ finmap.get m k → all_taken_back ds n ≡ all_taken_back cs m
back_set cs ds k v m n before d e is =
    (λ i. all_taken_back (d i) (e i)) ∙ back_pushed cs (k, before) (finmap.insert m k v) ∙ ap (all_taken_back cs) (back_one k v m before (sym is))

-- a value is given back to a key that is there
pub given_back : {E : Type 0} (r : Result (List ℕ) E) (k : Reference) (v : List ℕ) (m n : Database) → IfOk r (λ before. finmap.get m k ≡ Some before) → IfOk r (λ _. n ≡ finmap.insert m k v) → OnErr r (finmap.get m k ≡ None) → OnErr r (n ≡ m) → n ≡ taken_back (k, Some v) m
given_back (Ok x) k v m n found put missed kept = put ∙ ap (λ o. cond (is_some o) (finmap.insert m k v) m) (sym found)
given_back (Err x) k v m n found put missed kept = kept ∙ ap (λ o. cond (is_some o) (finmap.insert m k v) m) (sym missed)
