-- What the answers say of a database.
use Rattle.std.proofs.Common.{◌≡◌, ℕ, Bool, true, false, List, [], ◌∷◌, ◌++◌, refl, sym, ap, subst, ◌∙◌, inl, inr}
use Rattle.std.specs.Prelude.{◌&&◌, ◌||◌, not, cond, nat_eq, Option, Some, None, is_some, unwrap_or, MatchOption}
use Rattle.std.specs.Option.{option_map, option_and_then}
use Rattle.std.specs.List.{list_any}
use Rattle.std.specs.declared.cmp.Ordering.TheVariants.{Less}
use Rattle.std.specs.Ordering.{is_lt}
use Rattle.std.proofs.lemmas.Bool.{false_from_ne_true, and_from, or_left, or_right, or_from}
use Rattle.std.proofs.lemmas.Cmp.{nat_list_eq_equiv}
use Rattle.std.specs.Cmp.{first_so, second_so}
use Rattle.std.specs.Cmp.Lexicographic.{pointwise, bytes_decides}
use Rattle.std.specs.FinMap as finmap
use Rattle.collation.specs.Reference.{Reference, Spot}
use Rattle.collation.specs.Order.{subscript_cmp, ref_cmp, ref_eq}
use Rattle.collation.specs.laws.Order.{subscript_cmp_total, ref_cmp_total, ref_cmp-IsAntisymmetric, ref_eq_decides, is_less}
use Rattle.collation.specs.Database.{Database, is_under, begins_with}
use Rattle.globals.specs.Entries.{nearest_entry, any_of, is_candidate}
use Rattle.collation.specs.Levels.{child, child_of, is_below, has_name, is_before, parent_of, last, below, overlap}
use Rattle.collation.specs.Answers.{is_beyond, order_of, follows}
use Rattle.globals.specs.laws.Nearest.{IsNearest, any_nearest, nearest_is, nearest_none}
use Rattle.globals.specs.laws.Sequences.{next_less}
use Rattle.globals.specs.laws.Paths.{path, cmp_path, child_path}
use Rattle.globals.specs.AnswerStatements.{HasValue, HasDescendant, DescendantsAreUnder, DataTells, ComesAfter, IsBeyond, IsNearestSibling, HasNoSibling, OrderTells, StandsBeyond, IsFollowing, IsNearestNode, QueryTells}
use Rattle.globals.specs.laws.Nearness.{order_is, query_is}

-- what the map has nothing at has no value
pub no_value : (m : Database) (x : Reference) → finmap.get m x ≡ None → HasValue m x → ⊥
no_value m x none v = let e : false ≡ true = sym (ap is_some none) ∙ v in absurd (cc)

-- ---- $DATA

any_true : (m : Database) (r : Reference) → HasDescendant m r → list_any (is_below r) (finmap.keys m) ≡ true
any_true m r d = any_nearest (is_below r) m ∙ by_found (nearest_entry true (is_below r) m) refl
  where
    by_found : (o : Option (Reference × List ℕ)) → nearest_entry true (is_below r) m ≡ o → is_some o ≡ true
    by_found None is = absurd (no_value m d.0 (nearest_none ref_cmp ref_cmp_total ref_cmp-IsAntisymmetric true (is_below r) m is d.0 d.1) d.2)
    by_found (Some e) is = refl

any_false : (m : Database) (r : Reference) → ¬ (HasDescendant m r) → list_any (is_below r) (finmap.keys m) ≡ false
any_false m r d = any_nearest (is_below r) m ∙ by_found (nearest_entry true (is_below r) m) refl
  where
    by_found : (o : Option (Reference × List ℕ)) → nearest_entry true (is_below r) m ≡ o → is_some o ≡ false
    by_found None is = refl
    by_found (Some e) is = let found = nearest_is ref_cmp ref_cmp_total ref_cmp-IsAntisymmetric true (is_below r) m e is in absurd (d (e.0, found.passes, ap is_some found.there))

pub data_tells : (m : Database) (r : Reference) → DataTells m r
data_tells m r = record {
  neither = λ v d. rw (false_from_ne_true _ v, any_false m r d) refl;
  value = λ v d. rw (v, any_false m r d) refl;
  descendants = λ v d. rw (false_from_ne_true _ v, any_true m r d) refl;
  both = λ v d. rw (v, any_true m r d) refl;
}

-- ---- $ORDER

chosen : (b : Bool) (o : Option (List ℕ)) (s : List ℕ) → cond b o None ≡ Some s → (b ≡ true) × (o ≡ Some s)
chosen true o s h = (refl, h)
chosen false o s h = absurd (cc)

same_text : (x y : List ℕ) → x ≡ y → pointwise nat_eq x y ≡ true
same_text x y e = (bytes_decides x y).1 e

child_begins : (ps xs : List (List ℕ)) (s : List ℕ) → child ps xs ≡ Some s → begins_with xs (ps ++ s ∷ []) ≡ true
child_begins [] [] s h = absurd (cc)
child_begins [] (x ∷ xs) s h = let x_is : x ≡ s = cc in and_from _ _ (same_text x s x_is) refl
child_begins (p ∷ ps) [] s h = absurd (cc)
child_begins (p ∷ ps) (x ∷ xs) s h =
    let parts = chosen (pointwise nat_eq p x) (child ps xs) s h in
    and_from _ _ (same_text x p (sym ((bytes_decides p x).0 parts.0))) (child_begins ps xs s parts.1)

begins_child : (ps xs : List (List ℕ)) (s : List ℕ) → begins_with xs (ps ++ s ∷ []) ≡ true → child ps xs ≡ Some s
begins_child [] [] s h = absurd (cc)
begins_child [] (x ∷ xs) s h = let x_is : x ≡ s = (bytes_decides x s).0 (first_so _ _ h) in ap Some x_is
begins_child (p ∷ ps) [] s h = absurd (cc)
begins_child (p ∷ ps) (x ∷ xs) s h =
    let x_is : x ≡ p = (bytes_decides x p).0 (first_so _ _ h) in
    rw (same_text p x (sym x_is)) (begins_child ps xs s (second_so _ _ h))

-- the subscript on the way to x is s where x stands at or under s, one level below r
pub child_under : (r x : Reference) (s : List ℕ) → child_of r x ≡ Some s → is_under (below r s) x ≡ true
child_under r x s h = let parts = chosen (pointwise nat_eq r.name x.name) (child r.subscripts x.subscripts) s h in and_from _ _ parts.0 (child_begins r.subscripts x.subscripts s parts.1)

pub under_child : (r x : Reference) (s : List ℕ) → is_under (below r s) x ≡ true → child_of r x ≡ Some s
under_child r x s h = rw (first_so (pointwise nat_eq r.name x.name) _ h) (begins_child r.subscripts x.subscripts s (second_so (pointwise nat_eq r.name x.name) _ h))

pub siblings_less : (r x y : Reference) (s t : List ℕ) → child_of r x ≡ Some s → child_of r y ≡ Some t → subscript_cmp s t ≡ Less → ref_cmp x y ≡ Less
siblings_less r x y s t a b l = cmp_path x y ∙ next_less subscript_cmp subscript_cmp_total (path r) (path x) (path y) s t (sym (child_path r x) ∙ a) (sym (child_path r y) ∙ b) l

-- the siblings' order, where their members' is known
comes_nearer : (forward : Bool) (r x y : Reference) (s t : List ℕ) → child_of r x ≡ Some s → child_of r y ≡ Some t → ComesAfter forward s t → cond forward (ref_cmp x y) (ref_cmp y x) ≡ Less
comes_nearer true r x y s t a b l = siblings_less r x y s t a b l
comes_nearer false r x y s t a b l = siblings_less r y x t s b a l

pub beyond_is : (forward : Bool) (p : Spot) (t : List ℕ) → is_beyond forward p t ≡ true → IsBeyond forward p t
beyond_is true p t h closed = is_less _ (sym (ap (λ b. cond b true (is_lt (subscript_cmp (last p.reference.subscripts) t))) closed) ∙ h)
beyond_is false p t h closed = is_less _ (sym (ap (λ b. cond b true (is_lt (subscript_cmp t (last p.reference.subscripts)))) closed) ∙ h)

is_beyond_so : (forward : Bool) (p : Spot) (t : List ℕ) → IsBeyond forward p t → is_beyond forward p t ≡ true
is_beyond_so forward p t h = by_open p.is_open refl
  where
    lt : (f : Bool) → ComesAfter f (last p.reference.subscripts) t → cond f (is_lt (subscript_cmp (last p.reference.subscripts) t)) (is_lt (subscript_cmp t (last p.reference.subscripts))) ≡ true
    lt true l = ap is_lt l
    lt false l = ap is_lt l

    by_open : (b : Bool) → p.is_open ≡ b → cond b true (cond forward (is_lt (subscript_cmp (last p.reference.subscripts) t)) (is_lt (subscript_cmp t (last p.reference.subscripts)))) ≡ true
    by_open true is = refl
    by_open false is = lt forward (h is)

no_sibling : (forward : Bool) (p : Spot) (m : Database) → nearest_entry forward (is_candidate forward p) m ≡ None → HasNoSibling forward p m
no_sibling forward p m is s sibling beyond =
    let on_way = ap (any_of (is_beyond forward p)) (under_child (parent_of p) sibling.0 s sibling.1) in
    no_value m sibling.0 (nearest_none ref_cmp ref_cmp_total ref_cmp-IsAntisymmetric forward (is_candidate forward p) m is sibling.0 (on_way ∙ is_beyond_so forward p s beyond)) sibling.2

nearest_sibling : (forward : Bool) (p : Spot) (m : Database) (e : Reference × List ℕ) (t : List ℕ) → IsNearest forward (is_candidate forward p) m e → child_of (parent_of p) e.0 ≡ Some t → IsNearestSibling forward p m t
nearest_sibling forward p m e t found way = record {
  there = (e.0, child_under (parent_of p) e.0 t way, ap is_some found.there);
  beyond = beyond_is forward p t (sym (ap (any_of (is_beyond forward p)) way) ∙ found.passes);
  none_between = λ s sibling b between.
      let on_way = under_child (parent_of p) sibling.0 s sibling.1 in
      found.none_nearer sibling.0 (ap (any_of (is_beyond forward p)) on_way ∙ is_beyond_so forward p s b) sibling.2 (comes_nearer forward (parent_of p) sibling.0 e.0 s t on_way way between);
}

pub order_tells : (forward : Bool) (p : Spot) (m : Database) → OrderTells forward p m
order_tells forward p m = by_found (nearest_entry forward (is_candidate forward p) m) refl
  where
    told : (o : Option (Reference × List ℕ)) → nearest_entry forward (is_candidate forward p) m ≡ o → order_of forward p m ≡ unwrap_or (option_and_then (λ (e : Reference × List ℕ). child_of (parent_of p) e.0) o) []
    told o is = order_is forward p m ∙ ap (λ (o : Option (Reference × List ℕ)). unwrap_or (option_and_then (λ (e : Reference × List ℕ). child_of (parent_of p) e.0) o) []) is

    by_child : (e : Reference × List ℕ) (c : Option (List ℕ)) → nearest_entry forward (is_candidate forward p) m ≡ Some e → child_of (parent_of p) e.0 ≡ c → order_of forward p m ≡ unwrap_or c [] → OrderTells forward p m
    by_child e None is way answered =
        let found = nearest_is ref_cmp ref_cmp_total ref_cmp-IsAntisymmetric forward (is_candidate forward p) m e is in
        let none : false ≡ true = sym (ap (any_of (is_beyond forward p)) way) ∙ found.passes in
        absurd (cc)
    by_child e (Some t) is way answered =
        let found = nearest_is ref_cmp ref_cmp_total ref_cmp-IsAntisymmetric forward (is_candidate forward p) m e is in
        inl (subst (IsNearestSibling forward p m) (sym answered) (nearest_sibling forward p m e t found way))

    by_found : (o : Option (Reference × List ℕ)) → nearest_entry forward (is_candidate forward p) m ≡ o → OrderTells forward p m
    by_found None is = inr (told None is, no_sibling forward p m is)
    by_found (Some e) is = by_child e (child_of (parent_of p) e.0) is refl (told (Some e) is)

-- ---- $QUERY

follows_before : (p : Spot) (x : Reference) → is_before p.is_open p.reference x ≡ true → StandsBeyond false p x
follows_before p x h = by_open p.is_open refl h
  where
    by_under : (u : Bool) → is_under p.reference x ≡ u → p.is_open ≡ true → (u || is_lt (ref_cmp x p.reference)) ≡ true → StandsBeyond false p x
    by_under true under is h = inr (is, under)
    by_under false under is h = inl (is_less _ h)

    by_open : (b : Bool) → p.is_open ≡ b → is_before b p.reference x ≡ true → StandsBeyond false p x
    by_open true is h = by_under (is_under p.reference x) refl is h
    by_open false is h = inl (is_less _ h)

before_follows : (p : Spot) (x : Reference) → StandsBeyond false p x → is_before p.is_open p.reference x ≡ true
before_follows p x (inl l) = by_open p.is_open
  where
    by_open : (b : Bool) → is_before b p.reference x ≡ true
    by_open true = or_right (is_under p.reference x) _ (ap is_lt l)
    by_open false = ap is_lt l
before_follows p x (inr h) = ap (λ b. is_before b p.reference x) h.0 ∙ or_left (is_under p.reference x) _ h.1

follows_is : (forward : Bool) (p : Spot) (m : Database) (x : Reference) → HasValue m x → follows forward p x ≡ true → IsFollowing forward p m x
follows_is true p m x v h = record {
  there = v;
  named = sym ((bytes_decides p.reference.name x.name).0 (first_so (has_name p.reference x) _ h));
  beyond = is_less _ (second_so (has_name p.reference x) _ h);
}
follows_is false p m x v h = record {
  there = v;
  named = sym ((bytes_decides p.reference.name x.name).0 (first_so (has_name p.reference x) _ h));
  beyond = follows_before p x (second_so (has_name p.reference x) _ h);
}

follows_so : (forward : Bool) (p : Spot) (m : Database) (x : Reference) → IsFollowing forward p m x → follows forward p x ≡ true
follows_so true p m x f = and_from _ _ ((bytes_decides p.reference.name x.name).1 (sym f.named)) (ap is_lt f.beyond)
follows_so false p m x f = and_from _ _ ((bytes_decides p.reference.name x.name).1 (sym f.named)) (before_follows p x f.beyond)

pub query_tells : (forward : Bool) (p : Spot) (m : Database) → QueryTells forward p m
query_tells forward p m =
    subst (λ (o : Option Reference). MatchOption o ((x : Reference) → IsFollowing forward p m x → ⊥) (IsNearestNode forward p m)) (sym (query_is forward p m)) (
    elim (nearest_entry forward (follows forward p) m) as (λ o. nearest_entry forward (follows forward p) m ≡ o → MatchOption (option_map (λ (e : Reference × List ℕ). e.0) o) ((x : Reference) → IsFollowing forward p m x → ⊥) (IsNearestNode forward p m)) [
      | None ↦ λ is x f. no_value m x (nearest_none ref_cmp ref_cmp_total ref_cmp-IsAntisymmetric forward (follows forward p) m is x (follows_so forward p m x f)) f.there
      | Some e ↦ λ is.
          let found = nearest_is ref_cmp ref_cmp_total ref_cmp-IsAntisymmetric forward (follows forward p) m e is in
          record {
            found = follows_is forward p m e.0 (ap is_some found.there) found.passes;
            none_between = λ x f between. found.none_nearer x (follows_so forward p m x f) f.there between;
          }
    ] refl)

-- ---- descendants

child_so : (ps xs : List (List ℕ)) → is_some (child ps xs) ≡ (begins_with xs ps && not (pointwise (pointwise nat_eq) ps xs))
child_so [] [] = refl
child_so [] (x ∷ xs) = refl
child_so (p ∷ ps) [] = refl
child_so (p ∷ ps) (x ∷ xs) = rw (nat_list_eq_equiv.symm x p) (by_head (pointwise nat_eq p x) (child_so ps xs))
  where
    by_head : (w : Bool) → is_some (child ps xs) ≡ (begins_with xs ps && not (pointwise (pointwise nat_eq) ps xs)) → is_some (cond w (child ps xs) None) ≡ ((w && begins_with xs ps) && not (w && pointwise (pointwise nat_eq) ps xs))
    by_head true rest = rest
    by_head false rest = refl

pub below_so : DescendantsAreUnder
below_so r x = by_name (pointwise nat_eq r.name x.name)
  where
    by_name : (w : Bool) → is_some (cond w (child r.subscripts x.subscripts) None) ≡ ((w && begins_with x.subscripts r.subscripts) && not (w && pointwise (pointwise nat_eq) r.subscripts x.subscripts))
    by_name true = child_so r.subscripts x.subscripts
    by_name false = refl

-- a reference isn't its own descendant
pub apart_from_itself : (a b : Reference) → ref_eq a b ≡ true → overlap a b ≡ true → ⊥
apart_from_itself a b same h =
    let back : ref_eq b a ≡ true = (ref_eq_decides b a).1 (sym ((ref_eq_decides a b).0 same)) in
    let none : overlap a b ≡ false = or_from (is_below a b) _ (below_so a b ∙ not_both (is_under a b) (ref_eq a b) same) (below_so b a ∙ not_both (is_under b a) (ref_eq b a) back) in
    let e : true ≡ false = sym h ∙ none in
    absurd (cc)
  where
    not_both : (u s : Bool) → s ≡ true → (u && not s) ≡ false
    not_both true true is = refl
    not_both false true is = refl
    not_both u false is = absurd (cc)
