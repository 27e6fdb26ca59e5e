-- What $ORDER and $QUERY answer, by the nearest entry of the map.
use Rattle.std.proofs.Common.{◌≡◌, Bool, true, false, List, [], ◌∷◌, refl, sym, ap, subst, ◌∙◌}
use Rattle.std.specs.Prelude.{cond, map, filter, Option, Some, None, unwrap_or}
use Rattle.std.specs.Option.{option_or, option_map, option_and_then}
use Rattle.std.specs.List.{find, filter_map, cons_option, last_or}
use Rattle.std.specs.FinMap as finmap
use Rattle.collation.specs.Reference.{Spot}
use Rattle.collation.specs.Database.{Database}
use Rattle.collation.specs.Levels.{child_of, parent_of}
use Rattle.collation.specs.Answers.{is_beyond, order_of, follows, query_of}
use Rattle.globals.specs.Entries.{any_of, find_last, nearest_entry, is_candidate}

-- ---- the last of a list

over_some : {X : Type 0} (o d : Option X) (x : X) → option_or o (Some x) ≡ option_or (option_or o (Some x)) d
over_some None d x = refl
over_some (Some y) d x = refl

last_over : {X : Type 0} (d : Option X) (xs : List X) → last_or d xs ≡ option_or (last_or None xs) d
last_over d [] = refl
last_over d (x ∷ xs) = last_over (Some x) xs ∙ over_some (last_or None xs) d x ∙ ap (λ o. option_or o d) (sym (last_over (Some x) xs))

or_none : {X : Type 0} (o : Option X) → option_or o None ≡ o
or_none None = refl
or_none (Some x) = refl

-- ---- keys

first_key : {K X : Type 0} (P : K → Bool) (es : List (K × X)) → find (λ k. true) (filter P (map (λ (e : K × X). e.0) es)) ≡ option_map (λ e. e.0) (find (λ e. P e.0) es)
first_key P [] = refl
first_key {K} {X} P (e ∷ es) = elim (P e.0) as (λ b. find (λ k. true) (cond b (e.0 ∷ filter P (map (λ (e : K × X). e.0) es)) (filter P (map (λ (e : K × X). e.0) es))) ≡ option_map (λ e. e.0) (cond b (Some e) (find (λ e. P e.0) es))) [
  | true ↦ refl
  | false ↦ first_key P es
]

key_over : {K X : Type 0} (o : Option (K × X)) (e : K × X) → option_or (option_map (λ e. e.0) o) (Some e.0) ≡ option_map (λ e. e.0) (option_or o (Some e))
key_over None e = refl
key_over (Some f) e = refl

last_key : {K X : Type 0} (P : K → Bool) (es : List (K × X)) → last_or None (filter P (map (λ (e : K × X). e.0) es)) ≡ option_map (λ e. e.0) (find_last (λ e. P e.0) es)
last_key P [] = refl
last_key {K} {X} P (e ∷ es) = elim (P e.0) as (λ b. last_or None (cond b (e.0 ∷ filter P (map (λ (e : K × X). e.0) es)) (filter P (map (λ (e : K × X). e.0) es))) ≡ option_map (λ e. e.0) (option_or (find_last (λ e. P e.0) es) (cond b (Some e) None))) [
  | true ↦ last_over (Some e.0) (filter P (map (λ (e : K × X). e.0) es)) ∙ ap (λ o. option_or o (Some e.0)) (last_key P es) ∙ key_over (find_last (λ e. P e.0) es) e
  | false ↦ last_key P es ∙ ap (option_map (λ (e : K × X). e.0)) (sym (or_none (find_last (λ e. P e.0) es)))
]

-- the nearest node, by the nearest entry
pub query_is : (forward : Bool) (p : Spot) (m : Database) → query_of forward p m ≡ option_map (λ e. e.0) (nearest_entry forward (follows forward p) m)
query_is true p m = first_key (follows true p) (finmap.entries m)
query_is false p m = last_key (follows false p) (finmap.entries m)

-- ---- children

-- the last that is found passes
last_passes : {A : Type 0} (test : A → Bool) (xs : List A) (y : A) → find_last test xs ≡ Some y → test y ≡ true
last_passes test [] y is = absurd (cc)
last_passes test (x ∷ xs) y is =
    elim (find_last test xs) as (λ o. find_last test xs ≡ o → option_or o (cond (test x) (Some x) None) ≡ Some y → test y ≡ true) [
      | Some g ↦ λ was is. last_passes test xs y (was ∙ is)
      | None ↦ λ was is. elim (test x) as (λ b. test x ≡ b → cond b (Some x) None ≡ Some y → test y ≡ true) [
        | true ↦ λ b is. let same : x ≡ y = cc in subst (λ z. test z ≡ true) same b
        | false ↦ λ b is. absurd (cc)
      ] refl is
    ] refl is

module _ {K X Y : Type 0} (h : K → Option Y) (Q : Y → Bool) where
  -- the children that pass
  abbrev children : List (K × X) → List Y
  children es = filter Q (filter_map h (map (λ (e : K × X). e.0) es))

  abbrev has_child : K × X → Bool
  has_child e = any_of Q (h e.0)

  abbrev child_at : Option (K × X) → Option Y
  child_at o = option_and_then (λ (e : K × X). h e.0) o

  first_child : (es : List (K × X)) → find (λ s. true) (children es) ≡ child_at (find has_child es)
  first_child [] = refl
  first_child (e ∷ es) = by_child (h e.0) refl (first_child es)
    where
      by_child : (o : Option Y) → h e.0 ≡ o → find (λ s. true) (children es) ≡ child_at (find has_child es)
          → find (λ s. true) (filter Q (cons_option o (filter_map h (map (λ (e : K × X). e.0) es)))) ≡ child_at (cond (any_of Q o) (Some e) (find has_child es))
      by_child None is rest = rest
      by_child (Some y) is rest = elim (Q y) as (λ b. find (λ s. true) (cond b (y ∷ children es) (children es)) ≡ child_at (cond b (Some e) (find has_child es))) [ true ↦ sym is | false ↦ rest ]

  last_child : (es : List (K × X)) → last_or None (children es) ≡ child_at (find_last has_child es)
  last_child [] = refl
  last_child (e ∷ es) = by_child (h e.0) refl (last_child es)
    where
      by_way : (y : Y) (o : Option Y) → any_of Q o ≡ true → option_or o (Some y) ≡ o
      by_way y None p = absurd (cc)
      by_way y (Some z) p = refl

      by_found : (y : Y) → h e.0 ≡ Some y → (o : Option (K × X)) → find_last has_child es ≡ o → option_or (child_at o) (Some y) ≡ child_at (option_or o (Some e))
      by_found y is None was = sym is
      by_found y is (Some g) was = by_way y (h g.0) (last_passes has_child es g was)

      by_child : (o : Option Y) → h e.0 ≡ o → last_or None (children es) ≡ child_at (find_last has_child es)
          → last_or None (filter Q (cons_option o (filter_map h (map (λ (e : K × X). e.0) es)))) ≡ child_at (option_or (find_last has_child es) (cond (any_of Q o) (Some e) None))
      by_child None is rest = rest ∙ ap child_at (sym (or_none (find_last has_child es)))
      by_child (Some y) is rest = elim (Q y) as (λ b. last_or None (cond b (y ∷ children es) (children es)) ≡ child_at (option_or (find_last has_child es) (cond b (Some e) None))) [
        | true ↦ last_over (Some y) (children es) ∙ ap (λ o. option_or o (Some y)) rest ∙ by_found y is (find_last has_child es) refl
        | false ↦ rest ∙ ap child_at (sym (or_none (find_last has_child es)))
      ]

-- the nearest sibling, by the nearest entry at or under one
pub order_is : (forward : Bool) (p : Spot) (m : Database) → order_of forward p m ≡ unwrap_or (option_and_then (λ e. child_of (parent_of p) e.0) (nearest_entry forward (is_candidate forward p) m)) []
order_is true p m = ap (λ o. unwrap_or o []) (first_child (child_of (parent_of p)) (is_beyond true p) (finmap.entries m))
order_is false p m = ap (λ o. unwrap_or o []) (last_child (child_of (parent_of p)) (is_beyond false p) (finmap.entries m))
