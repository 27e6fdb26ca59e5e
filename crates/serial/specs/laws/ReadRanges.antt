-- Read sets as ranges.
use Rattle.std.proofs.Common.{◌≡◌, ℕ, Bool, true, false, List, [], ◌∷◌, refl, sym, ap, subst, ◌∙◌}
use Rattle.std.specs.Prelude.{◌&&◌, ◌||◌, not, cond, nat_eq, nat_lt, length, Option, Some, None, is_some}
use Rattle.std.proofs.Math.Bool.{not-not}
use Rattle.std.proofs.lemmas.Bool.{and_from, or_left}
use Rattle.std.specs.declared.cmp.Ordering.{Ordering}
use Rattle.std.specs.declared.cmp.Ordering.TheVariants.{Less, Equal, Greater}
use Rattle.std.specs.Ordering.{is_lt, is_eq}
use Rattle.std.specs.Cmp.{tied_itself, first_so, second_so}
use Rattle.std.specs.Cmp.Lexicographic.{pointwise, bytes_decides}
use Rattle.collation.specs.Reference.{Reference, Spot}
use Rattle.collation.specs.Order.{subscript_cmp, ref_cmp, ref_eq}
use Rattle.collation.specs.laws.Order.{subscript_cmp_total, subscript_cmp-IsAntisymmetric, ref_cmp_total, ref_cmp-IsAntisymmetric, ref_eq_decides, ref_ties, is_less, turned}
use Rattle.collation.specs.Database.{is_under}
use Rattle.collation.specs.Levels.{below, child, child_of, is_below, has_name, without_last, parent_of, is_before, has_level}
use Rattle.globals.specs.Cuts.{is_past, is_after, name_start}
use Rattle.collation.specs.Names.{bare, is_name_beyond}
use Rattle.globals.specs.laws.Names.{name_after, name_before}
use Rattle.collation.specs.Answers.{is_beyond}
use Rattle.globals.specs.Entries.{any_of, is_candidate}
use Rattle.journal.specs.Touching.{is_beyond_answer}
use Rattle.globals.specs.laws.Cuts.{not_before_end, before_end-earlier, under_between}
use Rattle.globals.specs.laws.Paths.{path, cmp_path, past_path}
use Rattle.globals.specs.laws.Sequences.{sibling_after, sibling_before, sibling_known, sibling_known_back}
use Rattle.globals.specs.laws.Seeks.{seek, closed_spot, deeper, counts_opened, counts_after, counts_before, counts_some, below_is_after, below_is_before, less_path, name_closed, name_closed_back}
use Rattle.globals.specs.laws.Telling.{siblings_less, below_so, child_under, under_child}
use Rattle.serial.specs.ReadRanges.{level_end, is_from_level, root_of, ReadsRange}
use Rattle.serial.specs.laws.Alike.{under_itself}

-- ---- tests

and_second : (b : Bool) → (b && true) ≡ b
and_second true = refl
and_second false = refl

and_none : (b : Bool) → (b && false) ≡ false
and_none true = refl
and_none false = refl

-- a test that implies another, and is the third where that holds
known : (c b s : Bool) → (c ≡ true → s ≡ true) → (s ≡ true → c ≡ b) → c ≡ (b && s)
known c b true f g = g refl ∙ sym (and_second b)
known true b false f g = let e = f refl in absurd (cc)
known false b false f g = sym (and_none b)

absorbed : (a b : Bool) → (a ≡ true → b ≡ true) → a ≡ (a && b)
absorbed true b f = sym (f refl)
absorbed false b f = refl

false_unless : (b : Bool) → (b ≡ true → ⊥) → b ≡ false
false_unless true f = absurd (f refl)
false_unless false f = refl

-- ---- $ORDER's siblings

child_last : (s : List ℕ) (ss : List (List ℕ)) → is_some (child (without_last (s ∷ ss)) (s ∷ ss)) ≡ true
child_last s [] = refl
child_last s (t ∷ ts) = ap (λ b. is_some (cond b (child (without_last (t ∷ ts)) (t ∷ ts)) None)) ((bytes_decides s s).1 refl) ∙ child_last t ts

-- a closed place stands below its parent
below_parent : (n s : List ℕ) (ss : List (List ℕ)) → is_below (parent_of (closed_spot (deeper n s ss))) (deeper n s ss) ≡ true
below_parent n s ss = ap (λ b. is_some (cond b (child (without_last (s ∷ ss)) (s ∷ ss)) None)) ((bytes_decides n n).1 refl) ∙ child_last s ss

-- a sibling beyond the start is a sibling where $ORDER looks
counts_is : (forward : Bool) (p : Spot) (x : Reference) → has_level p ≡ true → is_candidate forward p x ≡ (is_below (parent_of p) x && seek forward p x)
counts_is forward p x h = by_parts forward p.reference.name p.reference.subscripts p.is_open h
  where
    by_parts : (forward : Bool) (n : List ℕ) (ss : List (List ℕ)) (b : Bool) → (b || nat_lt 0 (length ss)) ≡ true → is_candidate forward (record { reference = record { name = n; subscripts = ss }; is_open = b }) x ≡ (is_below (parent_of (record { reference = record { name = n; subscripts = ss }; is_open = b })) x && seek forward (record { reference = record { name = n; subscripts = ss }; is_open = b }) x)
    by_parts true n ss true h = let r : Reference = record { name = n; subscripts = ss } in counts_opened true r x ∙ absorbed (is_below r x) (is_after false r x) (below_is_after r x)
    by_parts false n ss true h = let r : Reference = record { name = n; subscripts = ss } in counts_opened false r x ∙ absorbed (is_below r x) (is_before true r x) (below_is_before r x)
    by_parts forward n [] false h = absurd (cc)
    by_parts true n (s ∷ ss) false h =
        let r = deeper n s ss in
        known (is_candidate true (closed_spot r) x) (is_below (parent_of (closed_spot r)) x) (is_after true r x)
        (λ c. past_path r x ∙ sibling_after subscript_cmp subscript_cmp_total (path r) (path x) (sym (counts_after n s ss x) ∙ c))
        (λ b. counts_after n s ss x ∙ sibling_known subscript_cmp subscript_cmp_total (path r) (path x) (sym (past_path r x) ∙ b) ∙ sym (counts_some n s ss x))
    by_parts false n (s ∷ ss) false h =
        let r = deeper n s ss in
        known (is_candidate false (closed_spot r) x) (is_below (parent_of (closed_spot r)) x) (is_before false r x)
        (λ c. ap is_lt (cmp_path x r ∙ sibling_before subscript_cmp subscript_cmp_total (path r) (path x) (sym (counts_before n s ss x) ∙ c)))
        (λ b. counts_before n s ss x ∙ sibling_known_back subscript_cmp subscript_cmp_total (path r) (path x) (less_path x r b) ∙ sym (counts_some n s ss x))

-- the child of r named t
child_itself : (r : Reference) (t : List ℕ) → child_of r (below r t) ≡ Some t
child_itself r t = under_child r (below r t) t (under_itself (below r t))

below_child : (r : Reference) (t : List ℕ) → is_below r (below r t) ≡ true
below_child r t = ap is_some (child_itself r t)

-- x's subscript comes after t where x stands past all under t
past_child : (r x : Reference) (t s : List ℕ) → child_of r x ≡ Some s → is_lt (subscript_cmp t s) ≡ is_past (below r t) x
past_child r x t s way = by_order (subscript_cmp t s) refl
  where
    apart : subscript_cmp t s ≡ Less → is_under (below r t) x ≡ true → ⊥
    apart l u =
        let same : Some s ≡ Some t = sym way ∙ under_child r x t u in
        let s_is : s ≡ t = cc in
        let tie : Equal ≡ Less = sym (tied_itself subscript_cmp_total t) ∙ ap (subscript_cmp t) (sym s_is) ∙ l in
        absurd (cc)

    by_order : (o : Ordering) → subscript_cmp t s ≡ o → is_lt o ≡ is_past (below r t) x
    by_order Less l = sym (and_from _ _ (ap not (false_unless (is_under (below r t) x) (apart l))) (ap is_lt (siblings_less r (below r t) x t s (child_itself r t) way l)))
    by_order Equal e =
        let t_is : t ≡ s = subscript_cmp-IsAntisymmetric t s e in
        let u : is_under (below r t) x ≡ true = child_under r x t (way ∙ ap Some (sym t_is)) in
        sym (ap (λ b. not b && is_lt (ref_cmp (below r t) x)) u)
    by_order Greater g =
        let l : ref_cmp x (below r t) ≡ Less = siblings_less r x (below r t) s t way (child_itself r t) (turned subscript_cmp_total t s Greater g) in
        sym (ap (λ o. not (is_under (below r t) x) && is_lt o) (turned ref_cmp_total x (below r t) Less l) ∙ and_none (not (is_under (below r t) x)))

-- x's subscript comes before t where x stands before t
before_child : (r x : Reference) (t s : List ℕ) → child_of r x ≡ Some s → is_lt (subscript_cmp s t) ≡ is_before false (below r t) x
before_child r x t s way = by_order (subscript_cmp s t) refl
  where
    by_order : (o : Ordering) → subscript_cmp s t ≡ o → is_lt o ≡ is_lt (ref_cmp x (below r t))
    by_order Less l = sym (ap is_lt (siblings_less r x (below r t) s t way (child_itself r t) l))
    by_order Equal e =
        let s_is : s ≡ t = subscript_cmp-IsAntisymmetric s t e in
        let u : is_under (below r t) x ≡ true = child_under r x t (way ∙ ap Some s_is) in
        let from : not (is_lt (ref_cmp x (below r t))) ≡ true = first_so (not (is_lt (ref_cmp x (below r t)))) _ (sym (under_between (below r t) x) ∙ u) in
        sym (sym (not-not (is_lt (ref_cmp x (below r t)))) ∙ ap not from)
    by_order Greater g =
        let l : ref_cmp (below r t) x ≡ Less = siblings_less r (below r t) x t s (child_itself r t) way (turned subscript_cmp_total s t Greater g) in
        sym (ap is_lt (turned ref_cmp_total (below r t) x Less l))

before_not_past : (r x : Reference) → not (is_past r x) ≡ is_before true r x
before_not_past r x = sym (ap not (not_before_end r x)) ∙ not-not (is_before true r x)

-- ---- what lies between is a sibling's

-- what stands after r, and before the end of all under r, is below r
between_below : (r x : Reference) → is_after false r x ≡ true → is_before true r x ≡ true → is_below r x ≡ true
between_below r x a b =
    let greater : is_lt (ref_cmp x r) ≡ false = ap is_lt (turned ref_cmp_total r x Less (is_less _ a)) in
    let under : is_under r x ≡ true = under_between r x ∙ and_from _ _ (ap not greater) b in
    below_so r x ∙ and_from _ _ under (ap not (false_unless (ref_eq r x) (λ e.
    let same : r ≡ x = (ref_eq_decides r x).0 e in
    let tie : Equal ≡ Less = sym (tied_itself ref_cmp_total r) ∙ ap (ref_cmp r) same ∙ is_less _ a in
    absurd (cc))))

after_parent : (p : Spot) (x : Reference) → has_level p ≡ true → seek true p x ≡ true → is_after false (parent_of p) x ≡ true
after_parent p x h a = by_parts p.reference.name p.reference.subscripts p.is_open h a
  where
    by_parts : (n : List ℕ) (ss : List (List ℕ)) (b : Bool) → (b || nat_lt 0 (length ss)) ≡ true → seek true (record { reference = record { name = n; subscripts = ss }; is_open = b }) x ≡ true → is_after false (parent_of (record { reference = record { name = n; subscripts = ss }; is_open = b })) x ≡ true
    by_parts n ss true h a = a
    by_parts n [] false h a = absurd (cc)
    by_parts n (s ∷ ss) false h a =
        let r = deeper n s ss in
        ap is_lt (ref_cmp_total.trans (parent_of (closed_spot r)) r x (is_less _ (below_is_after (parent_of (closed_spot r)) r (below_parent n s ss))) (is_less _ (second_so (not (is_under r x)) _ a)))

before_parent_end : (p : Spot) (x : Reference) → has_level p ≡ true → seek false p x ≡ true → is_before true (parent_of p) x ≡ true
before_parent_end p x h a = by_parts p.reference.name p.reference.subscripts p.is_open h a
  where
    by_parts : (n : List ℕ) (ss : List (List ℕ)) (b : Bool) → (b || nat_lt 0 (length ss)) ≡ true → seek false (record { reference = record { name = n; subscripts = ss }; is_open = b }) x ≡ true → is_before true (parent_of (record { reference = record { name = n; subscripts = ss }; is_open = b })) x ≡ true
    by_parts n ss true h a = a
    by_parts n [] false h a = absurd (cc)
    by_parts n (s ∷ ss) false h a =
        let r = deeper n s ss in
        before_end-earlier (parent_of (closed_spot r)) x r (is_less _ a) (below_is_before (parent_of (closed_spot r)) r (below_parent n s ss))

level_end_inside : (r x : Reference) (t : List ℕ) → is_before true (level_end r t) x ≡ true → is_before true r x ≡ true
level_end_inside r x [] b = b
level_end_inside r x (c ∷ cs) b = by_under (is_under (below r (c ∷ cs)) x) refl b
  where
    by_under : (u : Bool) → is_under (below r (c ∷ cs)) x ≡ u → (u || is_lt (ref_cmp x (below r (c ∷ cs)))) ≡ true → is_before true r x ≡ true
    by_under true is b = below_is_before r x (ap is_some (under_child r x (c ∷ cs) is))
    by_under false is b = before_end-earlier r x (below r (c ∷ cs)) (is_less _ b) (below_is_before r (below r (c ∷ cs)) (below_child r (c ∷ cs)))

from_level_after : (r x : Reference) (t : List ℕ) → is_from_level r t x ≡ true → is_after false r x ≡ true
from_level_after r x [] a = a
from_level_after r x (c ∷ cs) a = by_order (ref_cmp x (below r (c ∷ cs))) refl a
  where
    by_order : (o : Ordering) → ref_cmp x (below r (c ∷ cs)) ≡ o → not (is_lt o) ≡ true → is_after false r x ≡ true
    by_order Less e a = absurd (cc)
    by_order Equal e a = let x_is : x ≡ below r (c ∷ cs) = ref_cmp-IsAntisymmetric x (below r (c ∷ cs)) e in subst (λ z. is_after false r z ≡ true) (sym x_is) (below_is_after r (below r (c ∷ cs)) (below_child r (c ∷ cs)))
    by_order Greater e a = ap is_lt (ref_cmp_total.trans r (below r (c ∷ cs)) x (is_less _ (below_is_after r (below r (c ∷ cs)) (below_child r (c ∷ cs)))) (turned ref_cmp_total x (below r (c ∷ cs)) Greater e))

-- ---- $ORDER

order_forward : (p : Spot) (t : List ℕ) (x : Reference) → has_level p ≡ true →
    any_of (λ s. is_beyond true p s && not (is_beyond_answer true t s)) (child_of (parent_of p) x) ≡ (is_after (not p.is_open) p.reference x && is_before true (level_end (parent_of p) t) x)
order_forward p t x h = by_child (child_of (parent_of p) x) refl (counts_is true p x h)
  where
    up_to : (t s : List ℕ) → child_of (parent_of p) x ≡ Some s → not (is_beyond_answer true t s) ≡ is_before true (level_end (parent_of p) t) x
    up_to [] s way = sym (below_is_before (parent_of p) x (ap is_some way))
    up_to (c ∷ cs) s way = ap not (past_child (parent_of p) x (c ∷ cs) s way) ∙ before_not_past (below (parent_of p) (c ∷ cs)) x

    by_child : (way : Option (List ℕ)) → child_of (parent_of p) x ≡ way → any_of (is_beyond true p) way ≡ (is_some way && seek true p x) →
        any_of (λ s. is_beyond true p s && not (is_beyond_answer true t s)) way ≡ (seek true p x && is_before true (level_end (parent_of p) t) x)
    by_child None way is = sym (false_unless (seek true p x && is_before true (level_end (parent_of p) t) x) (λ b.
        let below : is_below (parent_of p) x ≡ true = between_below (parent_of p) x (after_parent p x h (first_so (seek true p x) _ b)) (level_end_inside (parent_of p) x t (second_so (seek true p x) _ b)) in
        let e : false ≡ true = sym (ap is_some way) ∙ below in
        absurd (cc)))
    by_child (Some s) way is = λ i. is i && up_to t s way i

turned_tests : (a b : Bool) → (a && b) ≡ (b && a)
turned_tests true true = refl
turned_tests true false = refl
turned_tests false true = refl
turned_tests false false = refl

order_backward : (p : Spot) (t : List ℕ) (x : Reference) → has_level p ≡ true →
    any_of (λ s. is_beyond false p s && not (is_beyond_answer false t s)) (child_of (parent_of p) x) ≡ (is_from_level (parent_of p) t x && is_before p.is_open p.reference x)
order_backward p t x h = by_child (child_of (parent_of p) x) refl (counts_is false p x h)
  where
    down_to : (t s : List ℕ) → child_of (parent_of p) x ≡ Some s → not (is_beyond_answer false t s) ≡ is_from_level (parent_of p) t x
    down_to [] s way = sym (below_is_after (parent_of p) x (ap is_some way))
    down_to (c ∷ cs) s way = ap not (before_child (parent_of p) x (c ∷ cs) s way)

    by_child : (way : Option (List ℕ)) → child_of (parent_of p) x ≡ way → any_of (is_beyond false p) way ≡ (is_some way && seek false p x) →
        any_of (λ s. is_beyond false p s && not (is_beyond_answer false t s)) way ≡ (is_from_level (parent_of p) t x && seek false p x)
    by_child None way is = sym (false_unless (is_from_level (parent_of p) t x && seek false p x) (λ b.
        let below : is_below (parent_of p) x ≡ true = between_below (parent_of p) x (from_level_after (parent_of p) x t (first_so (is_from_level (parent_of p) t x) _ b)) (before_parent_end p x h (second_so (is_from_level (parent_of p) t x) _ b)) in
        let e : false ≡ true = sym (ap is_some way) ∙ below in
        absurd (cc)))
    by_child (Some s) way is = (λ i. is i && down_to t s way i) ∙ turned_tests (seek false p x) (is_from_level (parent_of p) t x)

-- ---- $DATA and MERGE

under_range : (r x : Reference) → is_under r x ≡ (not (is_before false r x) && is_before true r x)
under_range r x = under_between r x

-- ---- $GET

get_range : (r x : Reference) (own : Bool) → own ≡ false → (ref_eq x r && not own) ≡ (not (is_before false r x) && not (is_after false r x))
get_range r x own is = ap (λ b. ref_eq x r && not b) is ∙ and_second (ref_eq x r) ∙ ref_ties x r ∙ by_order (ref_cmp x r) refl
  where
    by_order : (o : Ordering) → ref_cmp x r ≡ o → is_eq o ≡ (not (is_lt o) && not (is_lt (ref_cmp r x)))
    by_order Less e = refl
    by_order Equal e = sym (ap (λ q. not (is_lt q)) (turned ref_cmp_total x r Equal e))
    by_order Greater e = sym (ap (λ q. not (is_lt q)) (turned ref_cmp_total x r Greater e))

-- ---- $QUERY

query_forward : (p : Spot) (r x : Reference) → has_name p.reference r ≡ true → ((has_name p.reference x && is_after false p.reference x) && not (is_after false r x)) ≡ (is_after false p.reference x && not (is_after false r x))
query_forward p r x name = by_after (is_after false p.reference x) (is_after false r x) refl refl
  where
    named : is_after false p.reference x ≡ true → is_after false r x ≡ false → has_name p.reference x ≡ true
    named a n = by_order (ref_cmp r x) refl n
      where
        by_order : (o : Ordering) → ref_cmp r x ≡ o → is_lt o ≡ false → has_name p.reference x ≡ true
        by_order Less e n = absurd (cc)
        by_order Equal e n = let same : r ≡ x = ref_cmp-IsAntisymmetric r x e in subst (λ z. has_name p.reference z ≡ true) same name
        by_order Greater e n = name_closed p.reference x r a (turned ref_cmp_total r x Greater e) name

    by_after : (a n : Bool) → is_after false p.reference x ≡ a → is_after false r x ≡ n → ((has_name p.reference x && a) && not n) ≡ (a && not n)
    by_after true false is was = ap (λ b. (b && true) && true) (named is was)
    by_after true true is was = and_none (has_name p.reference x && true)
    by_after false n is was = ap (λ b. b && not n) (and_none (has_name p.reference x))

query_backward : (p : Spot) (r x : Reference) → has_name p.reference r ≡ true → ((has_name p.reference x && is_before p.is_open p.reference x) && not (is_before false r x)) ≡ (not (is_before false r x) && is_before p.is_open p.reference x)
query_backward p r x name = by_before (is_before p.is_open p.reference x) (is_before false r x) refl refl
  where
    named : is_before p.is_open p.reference x ≡ true → is_before false r x ≡ false → has_name p.reference x ≡ true
    named b n = by_order (ref_cmp x r) refl n
      where
        by_order : (o : Ordering) → ref_cmp x r ≡ o → is_lt o ≡ false → has_name p.reference x ≡ true
        by_order Less e n = absurd (cc)
        by_order Equal e n = let same : x ≡ r = ref_cmp-IsAntisymmetric x r e in subst (λ z. has_name p.reference z ≡ true) (sym same) name
        by_order Greater e n = name_closed_back p.is_open p.reference r x b (turned ref_cmp_total x r Greater e) name

    by_before : (b n : Bool) → is_before p.is_open p.reference x ≡ b → is_before false r x ≡ n → ((has_name p.reference x && b) && not n) ≡ (not n && b)
    by_before true false is was = ap (λ b. (b && true) && true) (named is was)
    by_before true true is was = and_none (has_name p.reference x && true)
    by_before false n is was = ap (λ b. b && not n) (and_none (has_name p.reference x)) ∙ sym (and_none (not n))

-- what has the name is under the name without subscripts
name_range : (r x : Reference) → has_name r x ≡ (not (is_before false (root_of r) x) && is_before true (root_of r) x)
name_range r x = sym (and_second (has_name r x)) ∙ under_between (root_of r) x

root_under : (r : Reference) → is_under (root_of r) r ≡ true
root_under r = and_from _ _ ((bytes_decides r.name r.name).1 refl) refl

none_forward : (p : Spot) (x : Reference) → (has_name p.reference x && is_after false p.reference x) ≡ (is_after false p.reference x && is_before true (root_of p.reference) x)
none_forward p x = ap (λ b. b && is_after false p.reference x) (name_range p.reference x) ∙ by_after (is_after false p.reference x) (is_before false (root_of p.reference) x) (is_before true (root_of p.reference) x) refl refl
  where
    -- what stands after a reference doesn't stand before its name
    not_before : is_after false p.reference x ≡ true → is_before false (root_of p.reference) x ≡ true → ⊥
    not_before a b =
        let from : not (is_lt (ref_cmp p.reference (root_of p.reference))) ≡ true = first_so (not (is_lt (ref_cmp p.reference (root_of p.reference)))) _ (sym (under_between (root_of p.reference) p.reference) ∙ root_under p.reference) in
        let less : is_lt (ref_cmp p.reference (root_of p.reference)) ≡ true = ap is_lt (ref_cmp_total.trans p.reference x (root_of p.reference) (is_less _ a) (is_less _ b)) in
        let e : true ≡ false = sym from ∙ ap not less in
        absurd (cc)

    by_after : (a b e : Bool) → is_after false p.reference x ≡ a → is_before false (root_of p.reference) x ≡ b → ((not b && e) && a) ≡ (a && e)
    by_after true true e is was = absurd (not_before is was)
    by_after true false e is was = and_second e
    by_after false b e is was = and_none (not b && e)

none_backward : (p : Spot) (x : Reference) → (has_name p.reference x && is_before p.is_open p.reference x) ≡ (not (is_before false (root_of p.reference) x) && is_before p.is_open p.reference x)
none_backward p x = ap (λ b. b && is_before p.is_open p.reference x) (name_range p.reference x) ∙ by_before (is_before p.is_open p.reference x) (is_before true (root_of p.reference) x) (not (is_before false (root_of p.reference) x)) refl refl
  where
    by_place : (b : Bool) → is_before b p.reference x ≡ true → is_before true (root_of p.reference) x ≡ true
    by_place false h = before_end-earlier (root_of p.reference) x p.reference (is_less _ h) (or_left (is_under (root_of p.reference) p.reference) _ (root_under p.reference))
    by_place true h = by_under (is_under p.reference x) refl h
      where
        by_under : (u : Bool) → is_under p.reference x ≡ u → (u || is_lt (ref_cmp x p.reference)) ≡ true → is_before true (root_of p.reference) x ≡ true
        by_under true is h = or_left (is_under (root_of p.reference) x) _ (and_from _ _ (first_so (pointwise nat_eq p.reference.name x.name) _ is) refl)
        by_under false is h = before_end-earlier (root_of p.reference) x p.reference (is_less _ h) (or_left (is_under (root_of p.reference) p.reference) _ (root_under p.reference))

    by_before : (b e f : Bool) → is_before p.is_open p.reference x ≡ b → is_before true (root_of p.reference) x ≡ e → ((f && e) && b) ≡ (f && b)
    by_before true true f is was = ap (λ c. c && true) (and_second f)
    by_before true false f is was = let t = by_place p.is_open is in absurd (cc)
    by_before false e f is was = and_none (f && e) ∙ sym (and_none f)

-- ---- $ORDER of names

names_forward : (start : Option (List ℕ)) (r x : Reference) → (is_name_beyond true start x.name && not (is_name_beyond true (Some r.name) x.name)) ≡ (not (name_start true start x) && is_before true (bare r.name) x)
names_forward start r x = λ i. sym (name_after start x) i && (ap not (sym (name_after (Some r.name) x)) ∙ not-not (is_before true (bare r.name) x)) i

names_backward : (start : Option (List ℕ)) (r x : Reference) → (is_name_beyond false start x.name && not (is_name_beyond false (Some r.name) x.name)) ≡ (not (is_before false (bare r.name) x) && name_start false start x)
names_backward start r x =
    (λ i. sym (name_before start x) i && not (sym (name_before (Some r.name) x) i)) ∙ turned_tests (name_start false start x) (not (is_before false (bare r.name) x))

pub reads_range : (own : Reference → Bool) (x : Reference) → ReadsRange own x
reads_range own x = record {
  set_of = λ r v a. refl;
  kill_of = λ r extent a. refl;
  data_of = λ r a. under_range r x;
  merge_of = λ a b answer. under_range b x;
  increment_of = λ r n a none. get_range r x (own r) none;
  increment_own = λ r n a own_is. ap (λ b. ref_eq x r && not b) own_is ∙ and_none (ref_eq x r);
  get_of = λ r default a none. get_range r x (own r) none;
  get_own = λ r default a own_is. ap (λ b. ref_eq x r && not b) own_is ∙ and_none (ref_eq x r);
  order_forward = λ p t h. order_forward p t x h;
  order_backward = λ p t h. order_backward p t x h;
  query_forward = λ p r name. query_forward p r x name;
  query_backward = λ p r name. query_backward p r x name;
  none_forward = λ p v. none_forward p x;
  none_backward = λ p v. none_backward p x;
  name_forward = λ start r. names_forward start r x;
  name_backward = λ start r. names_backward start r x;
  no_name_forward = λ start v. sym (name_after start x);
  no_name_backward = λ start v. sym (name_before start x);
}
