-- A walk goes on where it stopped: call after call copies each node once, in order.
use Rattle.std.proofs.Common.{◌≡◌, ℕ, Bool, true, false, List, [], ◌∷◌, ◌++◌, refl, sym, ap, ◌∙◌}
use Rattle.std.specs.Prelude.{not, ◌&&◌, cond, filter, Option, Some, None}
use Rattle.std.specs.declared.cmp.Ordering.{Ordering}
use Rattle.std.specs.declared.cmp.Ordering.TheVariants.{Less, Equal, Greater}
use Rattle.std.specs.Cmp.{first_so, second_so}
use Rattle.std.specs.Ordering.{is_lt, ordering_reverse}
use Rattle.std.specs.FinMap as finmap
use Rattle.std.specs.FinMap.{is_sorted}
use Rattle.std.specs.FinMap.Entries.{below_all}
use Rattle.collation.specs.Reference.{Reference}
use Rattle.collation.specs.Order.{ref_cmp}
use Rattle.collation.specs.Database.{Database}
use Rattle.collation.specs.laws.Order.{ref_cmp_total, is_less}
use Rattle.globals.specs.laws.Nearest.{true_of}
use Rattle.globals.specs.laws.Steps.{tails}
use Rattle.embedded.specs.Calls.{is_listed}
use Rattle.embedded.specs.Looks.{is_within, nodes_left}

abbrev Node : Type 0
Node = Reference × List ℕ

-- the test of what is left behind a place
abbrev left_of : (Reference → Bool) → Option Reference → Node → Bool
left_of within place e = within e.0 && not (is_listed place e.0)

not_both : (x y : Reference) → is_lt (ref_cmp x y) ≡ true → is_lt (ref_cmp y x) ≡ false
not_both x y less = ap is_lt (ref_cmp_total.antisymm y x ∙ ap ordering_reverse (is_less _ less))

not_itself : (x : Reference) → is_lt (ref_cmp x x) ≡ false
not_itself x = by_case (ref_cmp x x) (ref_cmp_total.antisymm x x)
  where
    by_case : (o : Ordering) → o ≡ ordering_reverse o → is_lt o ≡ false
    by_case Less e = absurd (cc)
    by_case Equal e = refl
    by_case Greater e = refl

no_more : (b : Bool) → (b && false) ≡ false
no_more true = refl
no_more false = refl

-- what comes before something listed is listed
listed_before : (place : Option Reference) (x y : Reference) → is_lt (ref_cmp x y) ≡ true → is_listed place x ≡ false → is_listed place y ≡ false
listed_before None x y less not_listed = refl
listed_before (Some r) x y less not_listed = by_case (is_lt (ref_cmp r x)) refl not_listed
  where
    by_case : (b : Bool) → is_lt (ref_cmp r x) ≡ b → not b ≡ false → not (is_lt (ref_cmp r y)) ≡ false
    by_case true is e = ap (λ o. not (is_lt o)) (ref_cmp_total.trans r x y (is_less _ is) (is_less _ less))
    by_case false is e = absurd (cc)

none_before : (init rest : List Node) (e : Node) → [] ≡ init ++ e ∷ rest → ⊥
none_before [] rest e is = cc
none_before (a ∷ init) rest e is = cc

-- what follows the first in a list whose first is another
first_or : (x : Reference) (y e : Node) (others init rest : List Node) → is_lt (ref_cmp x y.0) ≡ true → y ∷ others ≡ init ++ e ∷ rest → ((i : List Node) → others ≡ i ++ e ∷ rest → is_lt (ref_cmp x e.0) ≡ true) → is_lt (ref_cmp x e.0) ≡ true
first_or x y e others [] rest less is later = let same : y ≡ e = cc in ap (λ k. is_lt (ref_cmp x k.0)) (sym same) ∙ less
first_or x y e others (a ∷ init) rest less is later = later init (tails y a others (init ++ e ∷ rest) is)

-- what comes before all comes before each that is left
before_all : (test : Node → Bool) (x : Reference) (es init rest : List Node) (e : Node) → below_all ref_cmp x es ≡ true → filter test es ≡ init ++ e ∷ rest → is_lt (ref_cmp x e.0) ≡ true
before_all test x [] init rest e low is = absurd (none_before init rest e is)
before_all test x (y ∷ ys) init rest e low is =
    elim (test y) as (λ b. cond b (y ∷ filter test ys) (filter test ys) ≡ init ++ e ∷ rest → is_lt (ref_cmp x e.0) ≡ true) [
      | true ↦ λ k. first_or x y e (filter test ys) init rest (first_so _ _ low) k (λ i j. before_all test x ys i rest e (second_so (is_lt (ref_cmp x y.0)) _ low) j)
      | false ↦ λ k. before_all test x ys init rest e (second_so (is_lt (ref_cmp x y.0)) _ low) k
    ] is

-- behind one that isn't listed all are left that were
same_left : (within : Reference → Bool) (place : Option Reference) (x : Reference) (es : List Node) → below_all ref_cmp x es ≡ true → is_listed place x ≡ false → filter (left_of within place) es ≡ filter (left_of within (Some x)) es
same_left within place x [] low free = refl
same_left within place x (y ∷ ys) low free =
    let less : is_lt (ref_cmp x y.0) ≡ true = first_so _ _ low in
    let same : left_of within place y ≡ left_of within (Some x) y = ap (λ b. within y.0 && not b) (listed_before place x y.0 less free) ∙ sym (ap (λ b. within y.0 && not (not b)) less) in
    ap (λ b. cond b (y ∷ filter (left_of within place) ys) (filter (left_of within place) ys)) same
    ∙ ap (λ l. cond (left_of within (Some x) y) (y ∷ l) l) (same_left within place x ys (second_so (is_lt (ref_cmp x y.0)) _ low) free)

not_true : (b : Bool) → not b ≡ true → b ≡ false
not_true true e = absurd (cc)
not_true false e = refl

-- what comes before a node isn't left behind it
passed : (within : Reference → Bool) (x e : Node) (xs rest : List Node) → is_lt (ref_cmp e.0 x.0) ≡ false → filter (left_of within (Some e.0)) xs ≡ rest → filter (left_of within (Some e.0)) (x ∷ xs) ≡ rest
passed within x e xs rest not_after is =
    ap (λ b. cond b (x ∷ filter (left_of within (Some e.0)) xs) (filter (left_of within (Some e.0)) xs)) (ap (λ b. within x.0 && not (not b)) not_after ∙ no_more (within x.0)) ∙ is

-- the first that is left is the node, or comes before it
one_left : (within : Reference → Bool) (place : Option Reference) (x e : Node) (xs init rest : List Node) → below_all ref_cmp x.0 xs ≡ true → left_of within place x ≡ true → x ∷ filter (left_of within place) xs ≡ init ++ e ∷ rest
    → ((i : List Node) → filter (left_of within place) xs ≡ i ++ e ∷ rest → filter (left_of within (Some e.0)) xs ≡ rest) → filter (left_of within (Some e.0)) (x ∷ xs) ≡ rest
one_left within place x e xs [] rest low t k later =
    let same : x ≡ e = cc in
    let free : is_listed place x.0 ≡ false = not_true (is_listed place x.0) (second_so (within x.0) _ t) in
    ap (λ n. filter (left_of within (Some n.0)) (x ∷ xs)) (sym same)
    ∙ passed within x x xs (filter (left_of within (Some x.0)) xs) (not_itself x.0) refl ∙ sym (same_left within place x.0 xs low free) ∙ tails x e (filter (left_of within place) xs) rest k
one_left within place x e xs (a ∷ init) rest low t k later =
    let is : filter (left_of within place) xs ≡ init ++ e ∷ rest = tails x a (filter (left_of within place) xs) (init ++ e ∷ rest) k in
    passed within x e xs rest (not_both x.0 e.0 (before_all (left_of within place) x.0 xs init rest e low is)) (later init is)

left_later : (within : Reference → Bool) (place : Option Reference) (es init rest : List Node) (e : Node) → is_sorted ref_cmp es ≡ true → filter (left_of within place) es ≡ init ++ e ∷ rest → filter (left_of within (Some e.0)) es ≡ rest
left_later within place [] init rest e h is = absurd (none_before init rest e is)
left_later within place (x ∷ xs) init rest e h is =
    let low : below_all ref_cmp x.0 xs ≡ true = first_so _ _ h in
    let sorted : is_sorted ref_cmp xs ≡ true = second_so (below_all ref_cmp x.0 xs) _ h in
    elim (left_of within place x) as (λ b. left_of within place x ≡ b → cond b (x ∷ filter (left_of within place) xs) (filter (left_of within place) xs) ≡ init ++ e ∷ rest → filter (left_of within (Some e.0)) (x ∷ xs) ≡ rest) [
      | true ↦ λ t k. one_left within place x e xs init rest low t k (λ i j. left_later within place xs i rest e sorted j)
      | false ↦ λ t k. passed within x e xs rest (not_both x.0 e.0 (before_all (left_of within place) x.0 xs init rest e low k)) (left_later within place xs init rest e sorted k)
    ] refl is

-- behind a node that was left, the nodes after it are left
pub walk_goes_on : (root place : Option Reference) (m : Database) (init rest : List (Reference × List ℕ)) (e : Reference × List ℕ) → nodes_left root place m ≡ init ++ e ∷ rest → nodes_left root (Some e.0) m ≡ rest
walk_goes_on root place m init rest e is = left_later (is_within root) place (finmap.entries m) init rest e (true_of _ (finmap.entries_sorted m)) is
