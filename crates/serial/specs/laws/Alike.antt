-- Two databases that agree on what a command reads answer it alike.
use Rattle.std.proofs.Common.{◌≡◌, ℕ, ◌+◌, Bool, true, false, List, [], ◌∷◌, length, refl, sym, ap, subst, ◌∙◌}
use Rattle.std.specs.Prelude.{◌&&◌, ◌||◌, not, cond, nat_lt, map, filter, Option, Some, None, is_some, unwrap_or}
use Rattle.std.specs.Option.{option_map, option_and_then}
use Rattle.std.specs.List.{list_any}
use Rattle.std.specs.declared.cmp.Ordering.{Ordering}
use Rattle.std.specs.declared.cmp.Ordering.TheVariants.{Less, Equal, Greater}
use Rattle.std.specs.Ordering.{is_lt}
use Rattle.std.specs.Cmp.{first_so}
use Rattle.std.specs.Cmp.Lexicographic.{bytes_decides}
use Rattle.std.proofs.lemmas.Bool.{and_from}
use Rattle.std.specs.FinMap as finmap
use Rattle.collation.specs.Limits.{most_subscripts}
use Rattle.collation.specs.Reference.{Reference, Spot}
use Rattle.collation.specs.Order.{subscript_cmp, ref_cmp, ref_eq}
use Rattle.collation.specs.laws.Order.{ref_cmp_total, ref_cmp-IsAntisymmetric, is_less, turned}
use Rattle.collation.specs.Database.{Database, is_under, begins_with}
use Rattle.globals.specs.Entries.{nearest_entry, any_of, is_candidate}
use Rattle.collation.specs.Levels.{child_of, is_below, parent_of}
use Rattle.collation.specs.Answers.{data_of, is_beyond, order_of, follows, query_of, moved, is_too_deep}
use Rattle.globals.specs.laws.Nearest.{nearest_is, nearest_none, any_nearest}
use Rattle.globals.specs.Copies.{all_copies}
use Rattle.globals.specs.laws.Nearness.{order_is, query_is}
use Rattle.globals.specs.laws.Telling.{siblings_less, below_so}
use Rattle.collation.specs.Names.{is_name_beyond, name_next}
use Rattle.globals.specs.laws.Names.{name_is, names_less}
use Rattle.journal.specs.Touching.{is_beyond_answer}
use Rattle.serial.specs.Agreeing.{Agree}

-- ---- the nearest

apart : (x y : Reference) → (ref_cmp x y ≡ Less → ⊥) → (ref_cmp y x ≡ Less → ⊥) → x ≡ y
apart x y a b = by_order (ref_cmp x y) refl
  where
    by_order : (r : Ordering) → ref_cmp x y ≡ r → x ≡ y
    by_order Less e = absurd (a e)
    by_order Equal e = ref_cmp-IsAntisymmetric x y e
    by_order Greater e = absurd (b (turned ref_cmp_total x y Greater e))

-- two, neither of which is nearer, are one
neither_nearer : (forward : Bool) (x y : Reference) → (cond forward (ref_cmp x y) (ref_cmp y x) ≡ Less → ⊥) → (cond forward (ref_cmp y x) (ref_cmp x y) ≡ Less → ⊥) → x ≡ y
neither_nearer true x y a b = apart x y a b
neither_nearer false x y a b = apart x y b a

not_less : (r : Ordering) → (r ≡ Less → ⊥) → not (is_lt r) ≡ true
not_less Less f = absurd (f refl)
not_less Equal f = refl
not_less Greater f = refl

less_not : (r : Ordering) → not (is_lt r) ≡ true → r ≡ Less → ⊥
less_not Less h e = absurd (cc)
less_not Equal h e = absurd (cc)
less_not Greater h e = absurd (cc)

-- x isn't farther than what was found; where nothing was, nothing is farther
abbrev pub not_farther : Bool → Option (Reference × List ℕ) → Reference → Bool
not_farther forward None x = true
not_farther forward (Some e) x = not (is_lt (cond forward (ref_cmp e.0 x) (ref_cmp x e.0)))

-- the nearest is the same in a database that agrees up to it
pub same_nearest : (forward : Bool) (P : Reference → Bool) (m n : Database) (o : Option (Reference × List ℕ)) → nearest_entry forward P m ≡ o → ((x : Reference) → P x ≡ true → not_farther forward o x ≡ true → Agree m n x) → nearest_entry forward P n ≡ o
same_nearest forward P m n None is agree = by_found (nearest_entry forward P n) refl
  where
    by_found : (o : Option (Reference × List ℕ)) → nearest_entry forward P n ≡ o → nearest_entry forward P n ≡ None
    by_found None was = was
    by_found (Some f) was =
        let found = nearest_is ref_cmp ref_cmp_total ref_cmp-IsAntisymmetric forward P n f was in
        let none = nearest_none ref_cmp ref_cmp_total ref_cmp-IsAntisymmetric forward P m is f.0 found.passes in
        let e : None ≡ Some f.1 = sym none ∙ agree f.0 found.passes refl ∙ found.there in
        absurd (cc)
same_nearest forward P m n (Some e) is agree = by_found (nearest_entry forward P n) refl
  where
    by_found : (o : Option (Reference × List ℕ)) → nearest_entry forward P n ≡ o → nearest_entry forward P n ≡ Some e
    by_found None was =
        let found = nearest_is ref_cmp ref_cmp_total ref_cmp-IsAntisymmetric forward P m e is in
        let none = nearest_none ref_cmp ref_cmp_total ref_cmp-IsAntisymmetric forward P n was e.0 found.passes in
        let itself = not_less (cond forward (ref_cmp e.0 e.0) (ref_cmp e.0 e.0)) (found.none_nearer e.0 found.passes (ap is_some found.there)) in
        let absent : None ≡ Some e.1 = sym none ∙ sym (agree e.0 found.passes itself) ∙ found.there in
        absurd (cc)
    by_found (Some f) was =
        let found = nearest_is ref_cmp ref_cmp_total ref_cmp-IsAntisymmetric forward P m e is in
        let again = nearest_is ref_cmp ref_cmp_total ref_cmp-IsAntisymmetric forward P n f was in
        let itself = not_less (cond forward (ref_cmp e.0 e.0) (ref_cmp e.0 e.0)) (found.none_nearer e.0 found.passes (ap is_some found.there)) in
        let e_there : finmap.get n e.0 ≡ Some e.1 = sym (agree e.0 found.passes itself) ∙ found.there in
        let e_not_nearer = again.none_nearer e.0 found.passes (ap is_some e_there) in
        let f_there : finmap.get m f.0 ≡ Some f.1 = agree f.0 again.passes (not_less (cond forward (ref_cmp e.0 f.0) (ref_cmp f.0 e.0)) e_not_nearer) ∙ again.there in
        let f_not_nearer = found.none_nearer f.0 again.passes (ap is_some f_there) in
        let keys : f.0 ≡ e.0 = neither_nearer forward f.0 e.0 f_not_nearer e_not_nearer in
        let values : Some f.1 ≡ Some e.1 = sym again.there ∙ ap (finmap.get n) keys ∙ e_there in
        let value : f.1 ≡ e.1 = cc in
        was ∙ (λ i. Some (keys i, value i))

-- whether some key passes
pub same_any : (P : Reference → Bool) (m n : Database) → ((x : Reference) → P x ≡ true → Agree m n x) → list_any P (finmap.keys m) ≡ list_any P (finmap.keys n)
same_any P m n agree = any_nearest P m ∙ ap is_some (sym (same_nearest true P m n (nearest_entry true P m) refl (λ x p _. agree x p))) ∙ sym (any_nearest P n)

-- ---- $DATA

begins_itself : (xs : List (List ℕ)) → begins_with xs xs ≡ true
begins_itself [] = refl
begins_itself (x ∷ xs) = and_from _ _ ((bytes_decides x x).1 refl) (begins_itself xs)

pub under_itself : (r : Reference) → is_under r r ≡ true
under_itself r = and_from _ _ ((bytes_decides r.name r.name).1 refl) (begins_itself r.subscripts)

pub below_under : (r x : Reference) → is_below r x ≡ true → is_under r x ≡ true
below_under r x h = first_so (is_under r x) _ (sym (below_so r x) ∙ h)

pub same_data : (r : Reference) (m n : Database) → ((x : Reference) → is_under r x ≡ true → Agree m n x) → data_of r m ≡ data_of r n
same_data r m n agree =
    let value = agree r (under_itself r) in
    let descendants = same_any (is_below r) m n (λ x b. agree x (below_under r x b)) in
    λ i. cond (is_some (value i)) 1 0 + cond (descendants i) 10 0

-- ---- MERGE

deep_keys : (a b : Reference) (es : List (Reference × List ℕ)) →
    list_any (λ (e : Reference × List ℕ). nat_lt most_subscripts (length e.0.subscripts)) (map (λ (e : Reference × List ℕ). (moved a b e.0, e.1)) (filter (λ (e : Reference × List ℕ). is_under b e.0) es))
    ≡ list_any (λ x. is_under b x && nat_lt most_subscripts (length (moved a b x).subscripts)) (map (λ (e : Reference × List ℕ). e.0) es)
deep_keys a b [] = refl
deep_keys a b (e ∷ es) = elim (is_under b e.0) as (λ u.
    list_any (λ (e : Reference × List ℕ). nat_lt most_subscripts (length e.0.subscripts)) (map (λ (e : Reference × List ℕ). (moved a b e.0, e.1)) (cond u (e ∷ filter (λ (e : Reference × List ℕ). is_under b e.0) es) (filter (λ (e : Reference × List ℕ). is_under b e.0) es)))
    ≡ ((u && nat_lt most_subscripts (length (moved a b e.0).subscripts)) || list_any (λ x. is_under b x && nat_lt most_subscripts (length (moved a b x).subscripts)) (map (λ (e : Reference × List ℕ). e.0) es))) [
      | true ↦ ap (λ d. nat_lt most_subscripts (length (moved a b e.0).subscripts) || d) (deep_keys a b es)
      | false ↦ deep_keys a b es
    ]

pub same_depth : (a b : Reference) (m n : Database) → ((x : Reference) → is_under b x ≡ true → Agree m n x) → is_too_deep a b m ≡ is_too_deep a b n
same_depth a b m n agree = by_same (ref_eq a b)
  where
    by_same : (t : Bool) → list_any (λ (e : Reference × List ℕ). nat_lt most_subscripts (length e.0.subscripts)) (cond t [] (all_copies a b m)) ≡ list_any (λ (e : Reference × List ℕ). nat_lt most_subscripts (length e.0.subscripts)) (cond t [] (all_copies a b n))
    by_same true = refl
    by_same false =
        deep_keys a b (finmap.entries m)
        ∙ same_any (λ x. is_under b x && nat_lt most_subscripts (length (moved a b x).subscripts)) m n (λ x p. agree x (first_so (is_under b x) _ p))
        ∙ sym (deep_keys a b (finmap.entries n))

-- ---- $ORDER

farther_less : (forward : Bool) (t s : List ℕ) → is_beyond_answer forward t s ≡ true → cond forward (subscript_cmp t s) (subscript_cmp s t) ≡ Less
farther_less forward [] s h = absurd (cc)
farther_less forward (b ∷ bs) s h = is_less _ h

siblings_in : (forward : Bool) (r x y : Reference) (s t : List ℕ) → child_of r x ≡ Some s → child_of r y ≡ Some t → cond forward (subscript_cmp s t) (subscript_cmp t s) ≡ Less → cond forward (ref_cmp x y) (ref_cmp y x) ≡ Less
siblings_in true r x y s t a b l = siblings_less r x y s t a b l
siblings_in false r x y s t a b l = siblings_less r y x t s b a l

-- the answer of $ORDER, from what is found
abbrev sibling_of : Spot → Option (Reference × List ℕ) → List ℕ
sibling_of p o = unwrap_or (option_and_then (λ (e : Reference × List ℕ). child_of (parent_of p) e.0) o) []

true_or_false : (b : Bool) → (b ≡ true → ⊥) → not b ≡ true
true_or_false true f = absurd (f refl)
true_or_false false f = refl

-- a sibling of what is found, or of what is nearer, isn't beyond the answer
not_beyond_answer : (forward : Bool) (p : Spot) (o : Option (Reference × List ℕ)) (x : Reference) (s : List ℕ) → child_of (parent_of p) x ≡ Some s → not_farther forward o x ≡ true → not (is_beyond_answer forward (sibling_of p o) s) ≡ true
not_beyond_answer forward p None x s way near = refl
not_beyond_answer forward p (Some e) x s way near = by_child (child_of (parent_of p) e.0) refl
  where
    by_child : (c : Option (List ℕ)) → child_of (parent_of p) e.0 ≡ c → not (is_beyond_answer forward (unwrap_or c []) s) ≡ true
    by_child None is = refl
    by_child (Some t) is = true_or_false (is_beyond_answer forward t s) (λ b. less_not _ near (siblings_in forward (parent_of p) e.0 x t s is way (farther_less forward t s b)))

counted : (forward : Bool) (p : Spot) (o : Option (Reference × List ℕ)) (x : Reference) → is_candidate forward p x ≡ true → not_farther forward o x ≡ true →
    any_of (λ s. is_beyond forward p s && not (is_beyond_answer forward (sibling_of p o) s)) (child_of (parent_of p) x) ≡ true
counted forward p o x c near = by_child (child_of (parent_of p) x) refl c
  where
    by_child : (way : Option (List ℕ)) → child_of (parent_of p) x ≡ way → any_of (is_beyond forward p) way ≡ true → any_of (λ s. is_beyond forward p s && not (is_beyond_answer forward (sibling_of p o) s)) way ≡ true
    by_child None is b = absurd (cc)
    by_child (Some s) is b = and_from _ _ b (not_beyond_answer forward p o x s is near)

pub same_order : (forward : Bool) (p : Spot) (m n : Database) →
    ((x : Reference) → any_of (λ s. is_beyond forward p s && not (is_beyond_answer forward (order_of forward p m) s)) (child_of (parent_of p) x) ≡ true → Agree m n x) → order_of forward p m ≡ order_of forward p n
same_order forward p m n agree =
    let found = nearest_entry forward (is_candidate forward p) m in
    let within : (x : Reference) → is_candidate forward p x ≡ true → not_farther forward found x ≡ true → Agree m n x =
    λ x c near. agree x (subst (λ t. any_of (λ s. is_beyond forward p s && not (is_beyond_answer forward t s)) (child_of (parent_of p) x) ≡ true) (sym (order_is forward p m)) (counted forward p found x c near)) in
    order_is forward p m ∙ ap (sibling_of p) (sym (same_nearest forward (is_candidate forward p) m n found refl within)) ∙ sym (order_is forward p n)

-- ---- $QUERY

pub same_query : (forward : Bool) (p : Spot) (m n : Database) →
    ((x : Reference) → follows forward p x ≡ true → not_farther forward (nearest_entry forward (follows forward p) m) x ≡ true → Agree m n x) → query_of forward p m ≡ query_of forward p n
same_query forward p m n agree =
    query_is forward p m
    ∙ ap (option_map (λ (e : Reference × List ℕ). e.0)) (sym (same_nearest forward (follows forward p) m n (nearest_entry forward (follows forward p) m) refl agree))
    ∙ sym (query_is forward p n)

-- ---- $ORDER of names

-- x's name isn't beyond that of what was found; where nothing was, none is
abbrev pub not_past_name : Bool → Option (Reference × List ℕ) → Reference → Bool
not_past_name forward None x = true
not_past_name forward (Some e) x = not (is_name_beyond forward (Some e.0.name) x.name)

not_past : (forward : Bool) (o : Option (Reference × List ℕ)) (x : Reference) → not_farther forward o x ≡ true → not_past_name forward o x ≡ true
not_past forward None x near = refl
not_past forward (Some e) x near = true_or_false (is_name_beyond forward (Some e.0.name) x.name) (λ b. less_not _ near (names_less forward e.0 x (is_less _ b)))

pub same_name : (forward : Bool) (start : Option (List ℕ)) (m n : Database) →
    ((x : Reference) → is_name_beyond forward start x.name ≡ true → not_past_name forward (nearest_entry forward (λ y. is_name_beyond forward start y.name) m) x ≡ true → Agree m n x) → name_next forward start m ≡ name_next forward start n
same_name forward start m n agree =
    let found = nearest_entry forward (λ y. is_name_beyond forward start y.name) m in
    name_is forward start m
    ∙ ap (option_map (λ (e : Reference × List ℕ). e.0.name)) (sym (same_nearest forward (λ y. is_name_beyond forward start y.name) m n found refl (λ x p near. agree x p (not_past forward found x near))))
    ∙ sym (name_is forward start n)
