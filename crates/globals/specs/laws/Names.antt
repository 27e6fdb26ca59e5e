-- The nearest name, by the nearest entry of the map, and by the member that a look-up from a cut gives.
use Rattle.std.proofs.Common.{◌≡◌, ℕ, Bool, true, false, List, [], ◌∷◌, refl, sym, ap, subst, ◌∙◌}
use Rattle.std.specs.Prelude.{not, ◌&&◌, cond, map, filter, nat_eq, is_some, Option, Some, None, MatchOption}
use Rattle.std.specs.Cmp.Lexicographic.{slice_cmp, pointwise, nat_list_cmp_total, bytes_decides}
use Rattle.std.specs.FinMap as finmap
use Rattle.std.specs.FinMap.{slice_cmp-IsAntisymmetric, nat_cmp-IsAntisymmetric}
use Rattle.std.specs.List.{find, last_or}
use Rattle.std.specs.Option.{option_or, option_map}
use Rattle.std.specs.declared.cmp.Ordering.{Ordering}
use Rattle.std.specs.declared.cmp.Ordering.TheVariants.{Less, Equal, Greater}
use Rattle.std.specs.Ordering.{nat_cmp, is_lt, is_eq, ordering_then}
use Rattle.collation.specs.Database.{Database}
use Rattle.collation.specs.Levels.{is_before}
use Rattle.collation.specs.Names.{bare, is_name_beyond, name_cmp, name_next}
use Rattle.collation.specs.Order.{ref_cmp, subscript_cmp}
use Rattle.collation.specs.Reference.{Reference}
use Rattle.collation.specs.laws.Order.{ties_of, ref_cmp_total, ref_cmp-IsAntisymmetric}
use Rattle.globals.specs.AnswerStatements.{HasNode, IsNearestName, NamesTell}
use Rattle.globals.specs.Cuts.{name_start, next_to, stands_before}
use Rattle.globals.specs.Entries.{find_last, nearest_entry}
use Rattle.globals.specs.declared.cut.Cut.{Cut}
use Rattle.globals.specs.laws.Cuts.{not_before_end}
use Rattle.globals.specs.laws.Nearest.{nearest_is, nearest_none, IsNearest}

abbrev Node : Type 0
Node = Reference × List ℕ

-- ---- the nearest name, by the nearest entry

over_some : {X : Type 0} (o d : Option X) (x : X) → option_or o (Some x) ≡ option_or (option_or o (Some x)) d
over_some None d x = refl
over_some (Some y) d x = refl

last_over : {X : Type 0} (d : Option X) (xs : List X) → last_or d xs ≡ option_or (last_or None xs) d
last_over d [] = refl
last_over d (x ∷ xs) = last_over (Some x) xs ∙ over_some (last_or None xs) d x ∙ ap (λ o. option_or o d) (sym (last_over (Some x) xs))

or_none : {X : Type 0} (o : Option X) → option_or o None ≡ o
or_none None = refl
or_none (Some x) = refl

name_over : (o : Option Node) (e : Node) → option_or (option_map (λ e. e.0.name) o) (Some e.0.name) ≡ option_map (λ e. e.0.name) (option_or o (Some e))
name_over None e = refl
name_over (Some f) e = refl

first_name : (P : List ℕ → Bool) (es : List Node) → find (λ n. true) (filter P (map (λ (r : Reference). r.name) (map (λ (e : Node). e.0) es))) ≡ option_map (λ e. e.0.name) (find (λ e. P e.0.name) es)
first_name P [] = refl
first_name P (e ∷ es) = elim (P e.0.name) as (λ b. find (λ n. true) (cond b (e.0.name ∷ filter P (map (λ (r : Reference). r.name) (map (λ (e : Node). e.0) es))) (filter P (map (λ (r : Reference). r.name) (map (λ (e : Node). e.0) es)))) ≡ option_map (λ e. e.0.name) (cond b (Some e) (find (λ e. P e.0.name) es))) [
  | true ↦ refl
  | false ↦ first_name P es
]

last_name : (P : List ℕ → Bool) (es : List Node) → last_or None (filter P (map (λ (r : Reference). r.name) (map (λ (e : Node). e.0) es))) ≡ option_map (λ e. e.0.name) (find_last (λ e. P e.0.name) es)
last_name P [] = refl
last_name P (e ∷ es) = elim (P e.0.name) as (λ b. last_or None (cond b (e.0.name ∷ filter P (map (λ (r : Reference). r.name) (map (λ (e : Node). e.0) es))) (filter P (map (λ (r : Reference). r.name) (map (λ (e : Node). e.0) es)))) ≡ option_map (λ e. e.0.name) (option_or (find_last (λ e. P e.0.name) es) (cond b (Some e) None))) [
  | true ↦ last_over (Some e.0.name) (filter P (map (λ (r : Reference). r.name) (map (λ (e : Node). e.0) es))) ∙ ap (λ o. option_or o (Some e.0.name)) (last_name P es) ∙ name_over (find_last (λ e. P e.0.name) es) e
  | false ↦ last_name P es ∙ ap (option_map (λ (e : Node). e.0.name)) (sym (or_none (find_last (λ e. P e.0.name) es)))
]

pub name_is : (forward : Bool) (start : Option (List ℕ)) (m : Database) → name_next forward start m ≡ option_map (λ e. e.0.name) (nearest_entry forward (λ x. is_name_beyond forward start x.name) m)
name_is true start m = first_name (is_name_beyond true start) (finmap.entries m)
name_is false start m = last_name (is_name_beyond false start) (finmap.entries m)

-- ---- where the cuts of a bare name stand

same_name : (a b : List ℕ) → pointwise nat_eq a b ≡ is_eq (name_cmp a b)
same_name = ties_of nat_list_cmp_total (slice_cmp-IsAntisymmetric nat_cmp-IsAntisymmetric) bytes_decides

none_less : (xs : List (List ℕ)) → is_lt (slice_cmp subscript_cmp xs []) ≡ false
none_less [] = refl
none_less (x ∷ xs) = refl

by_name : (o rest : Ordering) → (not (is_eq o && true) && is_lt (ordering_then o rest)) ≡ is_lt o
by_name Less rest = refl
by_name Equal rest = refl
by_name Greater rest = refl

by_name_back : (o rest : Ordering) → is_lt rest ≡ false → is_lt (ordering_then o rest) ≡ is_lt o
by_name_back Less rest none = refl
by_name_back Equal rest none = none
by_name_back Greater rest none = refl

-- behind all of a name stand those of the names after it
pub past_name : (n : List ℕ) (x : Reference) → not (is_before true (bare n) x) ≡ is_lt (name_cmp n x.name)
unfolding ref_cmp
past_name n x = not_before_end (bare n) x ∙ ap (λ b. not (b && true) && is_lt (ref_cmp (bare n) x)) (same_name n x.name) ∙ by_name (name_cmp n x.name) (slice_cmp subscript_cmp [] x.subscripts)

-- before the bare name stand those of the names before it
pub before_name : (n : List ℕ) (x : Reference) → is_lt (ref_cmp x (bare n)) ≡ is_lt (name_cmp x.name n)
unfolding ref_cmp
before_name n x = by_name_back (name_cmp x.name n) (slice_cmp subscript_cmp x.subscripts []) (none_less x.subscripts)

-- what stands beyond the start's cut has a name beyond the start
pub name_after : (start : Option (List ℕ)) (x : Reference) → not (name_start true start x) ≡ is_name_beyond true start x.name
name_after None x = refl
name_after (Some n) x = past_name n x

pub name_before : (start : Option (List ℕ)) (x : Reference) → name_start false start x ≡ is_name_beyond false start x.name
name_before None x = refl
name_before (Some n) x = before_name n x

-- ---- the member that a look-up from a cut gives

map_twice : (o : Option Node) → option_map (λ (r : Reference). r.name) (option_map (λ e. e.0) o) ≡ option_map (λ e. e.0.name) o
map_twice None = refl
map_twice (Some e) = refl

pub name_found : (forward : Bool) (start : Option (List ℕ)) (m : Database) (cut : Cut) (k : Option Reference) → ((x : Reference) → stands_before cut x ≡ name_start forward start x) → k ≡ option_map (λ e. e.0) (next_to forward cut m) → option_map (λ r. r.name) k ≡ name_next forward start m
name_found true start m cut k so is =
    ap (option_map (λ (r : Reference). r.name)) is ∙ map_twice (next_to true cut m)
    ∙ (λ i. option_map (λ e. e.0.name) (nearest_entry true (λ x. (ap not (so x) ∙ name_after start x) i) m)) ∙ sym (name_is true start m)
name_found false start m cut k so is =
    ap (option_map (λ (r : Reference). r.name)) is ∙ map_twice (next_to false cut m)
    ∙ (λ i. option_map (λ e. e.0.name) (nearest_entry false (λ x. (so x ∙ name_before start x) i) m)) ∙ sym (name_is false start m)

-- ---- what the nearest name says

pub names_less : (forward : Bool) (a b : Reference) → cond forward (name_cmp a.name b.name) (name_cmp b.name a.name) ≡ Less → cond forward (ref_cmp a b) (ref_cmp b a) ≡ Less
unfolding ref_cmp
names_less true a b l = ap (λ o. ordering_then o (slice_cmp subscript_cmp a.subscripts b.subscripts)) l
names_less false a b l = ap (λ o. ordering_then o (slice_cmp subscript_cmp b.subscripts a.subscripts)) l

none_is : (m : Database) (x : Reference) → finmap.get m x ≡ None → finmap.contains_key m x ≡ true → ⊥
none_is m x none there = let e : false ≡ true = sym (ap is_some none) ∙ there in absurd (cc)

pub names_tell : (forward : Bool) (start : Option (List ℕ)) (m : Database) → NamesTell forward start m
names_tell forward start m =
    subst (λ (o : Option (List ℕ)). MatchOption o ((n : List ℕ) → HasNode m n → is_name_beyond forward start n ≡ true → ⊥) (IsNearestName forward start m)) (sym (name_is forward start m))
    (by_found (nearest_entry forward (λ x. is_name_beyond forward start x.name) m) refl)
  where
    by_found : (o : Option Node) → nearest_entry forward (λ x. is_name_beyond forward start x.name) m ≡ o
        → MatchOption (option_map (λ (e : Node). e.0.name) o) ((n : List ℕ) → HasNode m n → is_name_beyond forward start n ≡ true → ⊥) (IsNearestName forward start m)
    by_found None is = λ n node beyond.
        none_is m node.0 (nearest_none ref_cmp ref_cmp_total ref_cmp-IsAntisymmetric forward (λ x. is_name_beyond forward start x.name) m is node.0 (ap (is_name_beyond forward start) node.1 ∙ beyond)) node.2
    by_found (Some e) is =
        let found = nearest_is ref_cmp ref_cmp_total ref_cmp-IsAntisymmetric forward (λ x. is_name_beyond forward start x.name) m e is in
        record {
          there = (e.0, refl, ap is_some found.there);
          beyond = found.passes;
          none_between = λ k node beyond between.
              found.none_nearer node.0 (ap (is_name_beyond forward start) node.1 ∙ beyond) node.2
              (names_less forward node.0 e.0 (ap (λ n. cond forward (name_cmp n e.0.name) (name_cmp e.0.name n)) node.1 ∙ between));
        }
