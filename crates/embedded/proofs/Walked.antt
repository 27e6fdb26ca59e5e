-- A walk within a root, behind a place: where it begins, what is left to it, and what it takes.
use Rattle.std.proofs.Common.{◌≡◌, ℕ, ◌+◌, ◌-◌, ◌<◌, ◌≤◌, Bool, true, false, List, [], ◌∷◌, ◌++◌, ◌||◌, length, take, refl, sym, ap, subst, ◌∙◌, arith, append_assoc, append-nil, length-append}
use Rattle.std.proofs.lemmas.Bool.Decides.{nat_tests}
use Rattle.std.proofs.lemmas.List.{take_all, take-append-le}
use Rattle.std.specs.Prelude.{not, ◌&&◌, cond, filter, nat_le, Option, Some, None, Result, Ok, Err, OnErr}
use Rattle.std.specs.Cmp.{first_so, second_so}
use Rattle.std.specs.declared.cmp.Ordering.{Ordering}
use Rattle.std.specs.declared.cmp.Ordering.TheVariants.{Less, Equal, Greater}
use Rattle.std.specs.Ordering.{is_lt, ordering_reverse}
use Rattle.std.specs.FinMap as finmap
use Rattle.std.specs.FinMap.{is_sorted}
use Rattle.std.specs.FinMap.Entries.{below_all}
use Rattle.collation.specs.Reference.{Reference}
use Rattle.collation.specs.Order.{ref_cmp}
use Rattle.collation.specs.Database.{Database}
use Rattle.collation.specs.Levels.{is_before}
use Rattle.collation.specs.laws.Order.{ref_cmp_total, is_less}
use Rattle.globals.specs.declared.cut.Cut.{Cut}
use Rattle.globals.specs.Cuts.{stands_before, stands_within, entries_from, up_to}
use Rattle.globals.specs.laws.Cuts.{before_end-earlier, under_between}
use Rattle.globals.specs.laws.Ends.{entries_to}
use Rattle.globals.specs.laws.Under.{before_end}
use Rattle.globals.specs.laws.Nearest.{none_pass, still_fails, true_of}
use Rattle.embedded.specs.Calls.{is_listed}
use Rattle.key_codec.specs.Key.{key_of}
use Rattle.embedded.specs.Looks.{is_within, nodes_left, length_bytes, record_of, records_of, fitting, last_of}
use Rattle.embedded.specs.Gathered.{is_before_root, taken, IsTaken, IsGathered}

abbrev pub Node : Type 0
Node = Reference × List ℕ

-- ---- where a walk begins

-- what isn't behind p stands before r, where p does
at_most : (p x r : Reference) → is_lt (ref_cmp p x) ≡ false → is_lt (ref_cmp p r) ≡ true → is_lt (ref_cmp x r) ≡ true
at_most p x r low before = by_case (ref_cmp p x) refl
  where
    by_case : (o : Ordering) → ref_cmp p x ≡ o → is_lt (ref_cmp x r) ≡ true
    by_case Less is = absurd (let less : is_lt (ref_cmp p x) ≡ true = ap is_lt is in cc)
    by_case Equal is = ap is_lt (sym (ref_cmp_total.congr p x r is)) ∙ before
    by_case Greater is = ap is_lt (ref_cmp_total.trans x p r (ref_cmp_total.antisymm x p ∙ ap ordering_reverse is) (is_less _ before))

or_known : (a b : Bool) → (b ≡ false → a ≡ true) → a ≡ (a || not b)
or_known true b h = refl
or_known false true h = refl
or_known false false h = h refl

or_other : (a b : Bool) → (a ≡ true → b ≡ true → ⊥) → not b ≡ (a || not b)
or_other true true h = absurd (h refl refl)
or_other true false h = refl
or_other false b h = refl

-- where the place stands before the root, the walk begins at the root
pub from_root : (root place : Option Reference) (r p q1 q2 q x : Reference) → root ≡ Some r → place ≡ Some p → q1 ≡ r → q2 ≡ p → q ≡ r → is_lt (ref_cmp q2 q1) ≡ true → is_lt (ref_cmp x q) ≡ (is_before_root root x || is_listed place x)
from_root root place r p q1 q2 q x a b e1 e2 e before =
    rw a (rw b (rw e (or_known (is_lt (ref_cmp x r)) (is_lt (ref_cmp p x)) (λ low. at_most p x r low (ap (λ y. is_lt (ref_cmp y r)) (sym e2) ∙ ap (λ y. is_lt (ref_cmp q2 y)) (sym e1) ∙ before)))))

-- elsewhere it begins behind the place
pub from_place : (root place : Option Reference) (r p q1 q2 q x : Reference) → root ≡ Some r → place ≡ Some p → q1 ≡ r → q2 ≡ p → q ≡ p → is_lt (ref_cmp q2 q1) ≡ false → not (is_lt (ref_cmp q x)) ≡ (is_before_root root x || is_listed place x)
from_place root place r p q1 q2 q x a b e1 e2 e low =
    let after : is_lt (ref_cmp p r) ≡ false = ap (λ y. is_lt (ref_cmp y r)) (sym e2) ∙ ap (λ y. is_lt (ref_cmp q2 y)) (sym e1) ∙ low in
    rw a (rw b (rw e (or_other (is_lt (ref_cmp x r)) (is_lt (ref_cmp p x)) (λ l k. let before : is_lt (ref_cmp p r) ≡ true = ap is_lt (ref_cmp_total.trans p x r (is_less _ k) (is_less _ l)) in absurd (cc)))))

-- ---- what is left

-- of a walk's nodes those up to the first that isn't within the root
abbrev pub front : Option Reference → List Node → List Node
front root [] = []
front root (e ∷ es) = cond (is_within root e.0) (e ∷ front root es) []

module _ (root : Option Reference) (U L : Reference → Bool) (apart : (x : Reference) → L x ≡ true → U x ≡ false) (same : (x : Reference) → L x ≡ false → is_within root x ≡ U x) (later : (x y : Reference) → L x ≡ false → is_within root x ≡ false → ref_cmp x y ≡ Less → U y ≡ false) where
  block : (es : List Node) → is_sorted ref_cmp es ≡ true → front root (filter (λ e. not (L e.0)) es) ≡ filter (λ e. U e.0) es
  block [] h = refl
  block (e ∷ es) h =
      let rest = block es (second_so (below_all ref_cmp e.0 es) _ h) in
      elim (L e.0) as (λ l. L e.0 ≡ l → front root (cond (not l) (e ∷ filter (λ e. not (L e.0)) es) (filter (λ e. not (L e.0)) es)) ≡ cond (U e.0) (e ∷ filter (λ e. U e.0) es) (filter (λ e. U e.0) es)) [
        | true ↦ λ l. rw (apart e.0 l) rest
        | false ↦ λ l. rw (sym (same e.0 l)) (elim (is_within root e.0) as (λ u. is_within root e.0 ≡ u → cond u (e ∷ front root (filter (λ e. not (L e.0)) es)) [] ≡ cond u (e ∷ filter (λ e. U e.0) es) (filter (λ e. U e.0) es)) [
          | true ↦ λ u. ap (λ t. e ∷ t) rest
          | false ↦ λ u. sym (none_pass ref_cmp U e.0 es (λ y s. later e.0 y l u s) (first_so _ _ h))
        ] refl)
      ] refl

and_not : (w a b : Bool) → (a ≡ true → w ≡ false) → (a || b) ≡ true → (w && not b) ≡ false
and_not w true b h e = rw (h refl) refl
and_not true false b h e = rw e refl
and_not false false b h e = refl

with_not : (w a b : Bool) → (a || b) ≡ false → w ≡ (w && not b)
with_not w true b e = absurd (cc)
with_not true false b e = rw e refl
with_not false false b e = refl

not_in : (w b : Bool) → w ≡ false → (w && b) ≡ false
not_in w b e = rw e refl

-- what stands before the root isn't within it
before_root : (root : Option Reference) (x : Reference) → is_before_root root x ≡ true → is_within root x ≡ false
before_root None x e = absurd (cc)
before_root (Some r) x e = under_between r x ∙ ap (λ b. not b && is_before true r x) e

or_first : (a b : Bool) → (a || b) ≡ false → a ≡ false
or_first true b e = e
or_first false b e = refl

-- what comes after something that is past all within the root isn't within it
past_root : (root : Option Reference) (x y : Reference) → is_before_root root x ≡ false → is_within root x ≡ false → ref_cmp x y ≡ Less → is_within root y ≡ false
past_root None x y l u s = absurd (cc)
past_root (Some r) x y l u s =
    let end : is_before true r x ≡ false = sym (ap (λ b. not b && is_before true r x) l) ∙ sym (under_between r x) ∙ u in
    let end_y : is_before true r y ≡ false = still_fails ref_cmp (is_before true r) (before_end-earlier r) x y end s in
    under_between r y ∙ ap (λ b. not (is_lt (ref_cmp y r)) && b) end_y ∙ none (not (is_lt (ref_cmp y r)))
  where
    none : (b : Bool) → (b && false) ≡ false
    none true = refl
    none false = refl

-- the nodes that are left begin a walk that begins behind its place and not before its root
pub front_left : (root place : Option Reference) (cut : Cut) (m : Database) → ((x : Reference) → stands_before cut x ≡ (is_before_root root x || is_listed place x)) → front root (entries_from cut m) ≡ nodes_left root place m
front_left root place cut m is =
    block root (λ x. is_within root x && not (is_listed place x)) (stands_before cut)
    (λ x l. and_not (is_within root x) (is_before_root root x) (is_listed place x) (before_root root x) (sym (is x) ∙ l))
    (λ x l. with_not (is_within root x) (is_before_root root x) (is_listed place x) (sym (is x) ∙ l))
    (λ x y l u s. not_in (is_within root y) (not (is_listed place y)) (past_root root x y (or_first (is_before_root root x) (is_listed place x) (sym (is x) ∙ l)) u s))
    (finmap.entries m) (true_of _ (finmap.entries_sorted m))

-- ---- where a walk ends

not_passed : (p q : Bool) → (p ≡ true → q ≡ true) → q ≡ false → p ≡ false
not_passed true q sure none = sym (sure refl) ∙ none
not_passed false q sure none = refl

both_first : (a b : Bool) → (a && b) ≡ true → a ≡ true
both_first true b e = refl
both_first false b e = e

-- what one test passes is found behind another that passes it too
passed_twice : (P Q : Reference → Bool) → ((x : Reference) → P x ≡ true → Q x ≡ true) → (es : List Node) → filter (λ e. P e.0) (filter (λ e. Q e.0) es) ≡ filter (λ e. P e.0) es
passed_twice P Q sure [] = refl
passed_twice P Q sure (e ∷ es) =
    let rest = passed_twice P Q sure es in
    elim (Q e.0) as (λ q. Q e.0 ≡ q → filter (λ e. P e.0) (cond q (e ∷ filter (λ e. Q e.0) es) (filter (λ e. Q e.0) es)) ≡ cond (P e.0) (e ∷ filter (λ e. P e.0) es) (filter (λ e. P e.0) es)) [
      | true ↦ λ q. ap (λ t. cond (P e.0) (e ∷ t) t) rest
      | false ↦ λ q. rest ∙ sym (ap (λ b. cond b (e ∷ filter (λ e. P e.0) es) (filter (λ e. P e.0) es)) (not_passed (P e.0) (Q e.0) (sure e.0) q))
    ] refl

-- up to an end that is behind all within the root the same nodes are left
pub ended : (root place : Option Reference) (end : Option Cut) (m : Database) → ((x : Reference) → is_within root x ≡ true → stands_within end x ≡ true) → nodes_left root place (up_to end m) ≡ nodes_left root place m
ended root place end m sure =
    ap (filter (λ e. is_within root e.0 && not (is_listed place e.0))) (entries_to end m)
    ∙ passed_twice (λ x. is_within root x && not (is_listed place x)) (stands_within end) (λ x h. sure x (both_first (is_within root x) (not (is_listed place x)) h)) (finmap.entries m)

-- the cut past a root is behind all within it
pub past_all : (root : Option Reference) (r q x : Reference) → root ≡ Some r → q ≡ r → is_within root x ≡ true → is_before true q x ≡ true
past_all root r q x a e h = rw e (before_end r x (sym (ap (λ o. is_within o x) a) ∙ h))

pub none_left : (root : Option Reference) (walk left : List Node) → front root walk ≡ left → walk ≡ [] → left ≡ []
none_left root walk left h e = sym h ∙ ap (front root) e

pub none_within : (root : Option Reference) (walk left rest : List Node) (e : Node) → front root walk ≡ left → walk ≡ e ∷ rest → is_within root e.0 ≡ false → left ≡ []
none_within root walk left rest e h f u = sym h ∙ ap (front root) f ∙ ap (λ b. cond b (e ∷ front root rest) []) u

pub first_left : (root : Option Reference) (walk left rest : List Node) (e : Node) → front root walk ≡ left → walk ≡ e ∷ rest → is_within root e.0 ≡ true → left ≡ e ∷ front root rest
first_left root walk left rest e h f u = sym h ∙ ap (front root) f ∙ ap (λ b. cond b (e ∷ front root rest) []) u

pub some_left : (left rest : List Node) (e : Node) → left ≡ e ∷ rest → 0 < length left
some_left left rest e f = let n : length left ≡ length (e ∷ rest) = ap length f in omega (arith, n)

-- ---- what is taken

le_false : (a b : ℕ) → b < a → nat_le a b ≡ false
le_false a b h = grind (arith, nat_tests, h)

-- a walk has taken some nodes, and with what is left it will be the whole
pub record Goes (root : Option Reference) (room : ℕ) (all left : List Node) (first last : Reference) (start text : List ℕ) : Type 0 where
  pub low : length text ≤ room
  pub records : text ++ records_of (taken root (room - length text) left) ≡ start ++ records_of (taken root (room - length start) all)
  pub last_same : last_of last (taken root (room - length text) left) ≡ last_of first (taken root (room - length start) all)

and_false : (b : Bool) → (b && false) ≡ false
and_false true = refl
and_false false = refl

-- what stands before what was written behind it is as it was
cut_back : (text more same added : List ℕ) (n : ℕ) → more ≡ text ++ added → n ≡ length text → same ≡ take n more → same ≡ text
cut_back text more same added n is count cut = cut ∙ ap (take n) is ∙ take-append-le n text added (omega (arith, count)) ∙ take_all n text (omega (arith, count))

-- the next has no room
pub stops_full : (root : Option Reference) (room : ℕ) (all left rest : List Node) (first last : Reference) (e : Node) (start text more same : List ℕ) (before : ℕ) → Goes root room all left first last start text → left ≡ e ∷ rest → more ≡ text ++ record_of e → room < length more → before ≡ length text
    → same ≡ take before more → IsTaken root room all first last start same
stops_full root room all left rest first last e start text more same before h f is over count cut =
    let size : length more ≡ length text + length (record_of e) = ap length is ∙ length-append text (record_of e) in
    let full : nat_le (length (record_of e)) (room - length text) ≡ false = le_false (length (record_of e)) (room - length text) (omega (arith, size, over, h.low)) in
    let none : taken root (room - length text) left ≡ [] =
    ap (taken root (room - length text)) f
    ∙ ap (λ b. cond (is_within root e.0 && b) (e ∷ taken root ((room - length text) - length (record_of e)) rest) []) full
    ∙ ap (λ b. cond b (e ∷ taken root ((room - length text) - length (record_of e)) rest) []) (and_false (is_within root e.0)) in
    subst (λ t. IsTaken root room all first last start t) (sym (cut_back text more same (record_of e) before is count cut))
    (record {
      records = sym (append-nil text) ∙ ap (λ es. text ++ records_of es) (sym none) ∙ h.records;
      last_taken = ap (last_of last) (sym none) ∙ h.last_same;
    })

-- the four parts of a record, one after the other
pub record_made : (old k v a b t1 t2 t3 t4 : List ℕ) (e : Node) → k ≡ key_of e.0 → v ≡ e.1 → a ≡ length_bytes k → b ≡ length_bytes v → t1 ≡ old ++ a → t2 ≡ t1 ++ b → t3 ≡ t2 ++ k → t4 ≡ t3 ++ v → t4 ≡ old ++ record_of e
unfolding record_of
record_made old k v a b t1 t2 t3 t4 e is_key is_value la lb e1 e2 e3 e4 =
    e4 ∙ ap (λ t. t ++ v) (e3 ∙ ap (λ t. t ++ k) (e2 ∙ ap (λ t. t ++ b) e1))
    ∙ append_assoc ((old ++ a) ++ b) k v ∙ append_assoc (old ++ a) b (k ++ v) ∙ append_assoc old a (b ++ (k ++ v))
    ∙ ap (λ t. old ++ (t ++ (b ++ (k ++ v)))) la ∙ ap (λ t. old ++ (length_bytes k ++ (t ++ (k ++ v)))) lb
    ∙ ap (λ t. old ++ (length_bytes t ++ (length_bytes v ++ (t ++ v)))) is_key ∙ ap (λ t. old ++ (length_bytes (key_of e.0) ++ (length_bytes t ++ (key_of e.0 ++ t)))) is_value

-- ---- what is gathered

-- what stands behind nothing stands alone
pub behind_nothing : (old new text : List ℕ) → new ≡ old ++ text → old ≡ [] → new ≡ text
behind_nothing old new text is none = is ∙ ap (λ t. t ++ text) none

-- what holds anyhow holds at an error
pub on_err : {T E : Type 0} (r : Result T E) (P : Type 0) → P → OnErr r P
on_err (Ok x) P p = tt
on_err (Err e) P p = p

taken_front : (root : Option Reference) (room : ℕ) (walk : List Node) → taken root room walk ≡ fitting room (front root walk)
taken_front root room [] = refl
taken_front root room (e ∷ es) = by_test (is_within root e.0) (nat_le (length (record_of e)) room) refl (taken_front root (room - length (record_of e)) es)
  where
    by_test : (u b : Bool) → nat_le (length (record_of e)) room ≡ b → taken root (room - length (record_of e)) es ≡ fitting (room - length (record_of e)) (front root es)
        → cond (u && b) (e ∷ taken root (room - length (record_of e)) es) [] ≡ fitting room (cond u (e ∷ front root es) [])
    by_test false b is rest = refl
    by_test true true is rest = rw is (ap (λ t. e ∷ t) rest)
    by_test true false is rest = rw is refl

some_bytes : (e : Node) → 0 < length (record_of e)
unfolding record_of
some_bytes e = omega arith

no_room : (room : ℕ) (es : List Node) → room ≡ 0 → fitting room es ≡ []
no_room room [] z = refl
no_room room (e ∷ es) z = ap (λ b. cond b (e ∷ fitting (room - length (record_of e)) es) []) (le_false (length (record_of e)) room (omega (arith, z, some_bytes e)))

-- the first alone, which is too long
pub gathered_one : (room : ℕ) (left rest : List Node) (e : Node) (last : Reference) (text : List ℕ) → left ≡ e ∷ rest → text ≡ record_of e → room < length text → last ≡ e.0 → IsGathered room left last text
gathered_one room left rest e last text f is over same =
    let n : length text ≡ length (record_of e) = ap length is in
    let none : fitting (room - length (record_of e)) rest ≡ [] = no_room (room - length (record_of e)) rest (omega (arith, n, over)) in
    subst (λ es. IsGathered room es last text) (sym f)
    (is ∙ sym (append-nil (record_of e)) ∙ ap (λ es. records_of (e ∷ es)) (sym none), same ∙ ap (last_of e.0) (sym none))

-- the first, and those that were taken behind it
pub gathered_more : (root : Option Reference) (room : ℕ) (left rest : List Node) (e : Node) (first last : Reference) (start text : List ℕ) → left ≡ e ∷ front root rest → start ≡ record_of e → first ≡ e.0 → IsTaken root room rest first last start text
    → IsGathered room left last text
gathered_more root room left rest e first last start text f is same h =
    let takes : taken root (room - length start) rest ≡ fitting (room - length (record_of e)) (front root rest) =
    ap (λ (t : List ℕ). taken root (room - length t) rest) is ∙ taken_front root (room - length (record_of e)) rest in
    subst (λ es. IsGathered room es last text) (sym f) (
      h.records ∙ ap (λ t. t ++ records_of (taken root (room - length start) rest)) is ∙ ap (λ es. record_of e ++ records_of es) takes,
      h.last_taken ∙ ap (λ r. last_of r (taken root (room - length start) rest)) same ∙ ap (last_of e.0) takes,
    )
