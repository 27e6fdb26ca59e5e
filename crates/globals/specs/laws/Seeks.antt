-- Each answer is found next to one bound.
use Rattle.std.proofs.Common.{◌≡◌, ℕ, Bool, true, false, List, [], ◌∷◌, refl, sym, ap, ◌∙◌, Option, Some, None}
use Rattle.std.specs.Prelude.{cond, not, ◌&&◌, ◌||◌, nat_lt, length, is_some, unwrap_or, IfOk, Result, Ok, Err}
use Rattle.std.specs.Option.{option_map, option_and_then}
use Rattle.std.specs.declared.cmp.Ordering.TheVariants.{Less}
use Rattle.std.proofs.Math.Bool.{not-not, and-true}
use Rattle.std.proofs.lemmas.Bool.{and_from}
use Rattle.std.specs.Ordering.{is_lt}
use Rattle.std.specs.Cmp.{first_so, second_so}
use Rattle.std.specs.List.{list_any}
use Rattle.std.specs.FinMap as finmap
use Rattle.std.specs.Cmp.Lexicographic.{slice_cmp}
use Rattle.collation.specs.Reference.{Reference, Spot}
use Rattle.collation.specs.Order.{subscript_cmp, ref_cmp}
use Rattle.collation.specs.laws.Order.{subscript_cmp_total, is_less}
use Rattle.collation.specs.Database.{Database}
use Rattle.globals.specs.laws.Nearest.{keep, nearest_after, nearest_before, nearest_passes, answered, any_nearest}
use Rattle.globals.specs.laws.Sequences.{sibling, below_after, below_closed, below_before, below_closed_back, sibling_after, sibling_closed, sibling_before, sibling_closed_back, sibling_known, sibling_known_back, head_closed, head_closed_back, head_closed_end}
use Rattle.globals.specs.Entries.{nearest_entry, any_of, is_candidate}
use Rattle.collation.specs.Levels.{child_of, is_below, has_name, parent_of, is_before}
use Rattle.globals.specs.Cuts.{is_after, stands_before, next_to, order_start, query_start}
use Rattle.collation.specs.Answers.{follows, order_of, query_of}
use Rattle.globals.specs.declared.cut.Cut.{Cut}
use Rattle.globals.specs.laws.Cuts.{not_before_end}
use Rattle.globals.specs.laws.Nearness.{order_is, query_is}
use Rattle.globals.specs.laws.Paths.{path, cmp_path, child_path, past_path, before_path, sibling_next, name_path}

any_true : {X : Type 0} (o : Option X) → any_of (λ _. true) o ≡ is_some o
any_true (Some x) = refl
any_true None = refl

pub less_path : (r x : Reference) → is_lt (ref_cmp r x) ≡ true → slice_cmp subscript_cmp (path r) (path x) ≡ Less
less_path r x h = sym (cmp_path r x) ∙ is_less _ h

-- ---- below a reference

pub below_is_after : (r x : Reference) → is_below r x ≡ true → is_after false r x ≡ true
below_is_after r x h = ap is_lt (cmp_path r x ∙ below_after subscript_cmp subscript_cmp_total (path r) (path x) (sym (ap is_some (child_path r x)) ∙ h))

below_is_closed : (r x y : Reference) → is_after false r x ≡ true → ref_cmp x y ≡ Less → is_below r y ≡ true → is_below r x ≡ true
below_is_closed r x y b l h = ap is_some (child_path r x) ∙ below_closed subscript_cmp subscript_cmp_total (path r) (path x) (path y) (less_path r x b) (sym (cmp_path x y) ∙ l) (sym (ap is_some (child_path r y)) ∙ h)

pub below_is_before : (r x : Reference) → is_below r x ≡ true → is_before true r x ≡ true
below_is_before r x h = before_path r x ∙ below_before subscript_cmp subscript_cmp_total (path r) (path x) (sym (ap is_some (child_path r x)) ∙ h)

below_is_closed_back : (r x y : Reference) → is_before true r y ≡ true → ref_cmp x y ≡ Less → is_below r x ≡ true → is_below r y ≡ true
below_is_closed_back r x y b l h = ap is_some (child_path r y) ∙ below_closed_back subscript_cmp subscript_cmp_total (path r) (path x) (path y) (sym (before_path r y) ∙ b) (sym (cmp_path x y) ∙ l) (sym (ap is_some (child_path r x)) ∙ h)

kept_below : {X : Type 0} (r : Reference) (o : Option (Reference × X)) → is_some (keep (is_below r) o) ≡ any_of (λ e. is_below r e.0) o
kept_below r None = refl
kept_below r (Some e) = elim (is_below r e.0) as (λ b. is_some (cond b (Some e) None) ≡ b) [ true ↦ refl | false ↦ refl ]

-- whether something stands below a reference, by the first member after it
pub data_seek : (r : Reference) (m : Database) → list_any (is_below r) (finmap.keys m) ≡ any_of (λ e. is_below r e.0) (nearest_entry true (is_after false r) m)
data_seek r m = any_nearest (is_below r) m ∙ ap is_some (nearest_after ref_cmp (is_below r) (is_after false r) (below_is_after r) (below_is_closed r) m) ∙ kept_below r (nearest_entry true (is_after false r) m)

-- ---- siblings

abbrev pub opened : Reference → Spot
opened r = record { reference = r; is_open = true }

abbrev pub closed_spot : Reference → Spot
closed_spot r = record { reference = r; is_open = false }

-- where $ORDER looks
abbrev pub seek : Bool → Spot → Reference → Bool
seek true p = is_after (not p.is_open) p.reference
seek false p = is_before p.is_open p.reference

abbrev answer_of : Bool → Spot → Database → List ℕ
answer_of forward p m = unwrap_or (option_and_then (λ e. child_of (parent_of p) e.0) (nearest_entry forward (seek forward p) m)) []

pub counts_opened : (forward : Bool) (r x : Reference) → is_candidate forward (opened r) x ≡ is_below r x
counts_opened forward r x = any_true (child_of r x)

open_after : (r : Reference) (m : Database) → order_of true (opened r) m ≡ answer_of true (opened r) m
open_after r m =
    let bound = nearest_entry true (is_after false r) m in
    let found : nearest_entry true (is_candidate true (opened r)) m ≡ keep (is_candidate true (opened r)) bound =
    nearest_after ref_cmp (is_candidate true (opened r)) (is_after false r)
    (λ x h. below_is_after r x (sym (counts_opened true r x) ∙ h))
    (λ x y b l h. counts_opened true r x ∙ below_is_closed r x y b l (sym (counts_opened true r y) ∙ h)) m in
    order_is true (opened r) m
    ∙ ap (λ o. unwrap_or (option_and_then (λ e. child_of r e.0) o) []) found
    ∙ ap (λ o. unwrap_or o []) (answered (is_candidate true (opened r)) (is_after false r) (child_of r) (λ x _. counts_opened true r x) bound (nearest_passes ref_cmp true (is_after false r) m))

open_before : (r : Reference) (m : Database) → order_of false (opened r) m ≡ answer_of false (opened r) m
open_before r m =
    let bound = nearest_entry false (is_before true r) m in
    let found : nearest_entry false (is_candidate false (opened r)) m ≡ keep (is_candidate false (opened r)) bound =
    nearest_before ref_cmp (is_candidate false (opened r)) (is_before true r)
    (λ x h. below_is_before r x (sym (counts_opened false r x) ∙ h))
    (λ x y b l h. counts_opened false r y ∙ below_is_closed_back r x y b l (sym (counts_opened false r x) ∙ h)) m in
    order_is false (opened r) m
    ∙ ap (λ o. unwrap_or (option_and_then (λ e. child_of r e.0) o) []) found
    ∙ ap (λ o. unwrap_or o []) (answered (is_candidate false (opened r)) (is_before true r) (child_of r) (λ x _. counts_opened false r x) bound (nearest_passes ref_cmp false (is_before true r) m))

-- a reference with subscripts
abbrev pub deeper : List ℕ → List ℕ → List (List ℕ) → Reference
deeper n s ss = record { name = n; subscripts = s ∷ ss }

later : List ℕ → List ℕ → Bool
later r x = is_lt (subscript_cmp r x)

pub counts_after : (n s : List ℕ) (ss : List (List ℕ)) (x : Reference) → is_candidate true (closed_spot (deeper n s ss)) x ≡ sibling subscript_cmp (λ r x. is_lt (subscript_cmp r x)) (path (deeper n s ss)) (path x)
counts_after n s ss x = sibling_next (λ r x. is_lt (subscript_cmp r x)) (120 ∷ n) (s ∷ ss) (path x)

pub counts_before : (n s : List ℕ) (ss : List (List ℕ)) (x : Reference) → is_candidate false (closed_spot (deeper n s ss)) x ≡ sibling subscript_cmp (λ r x. is_lt (subscript_cmp x r)) (path (deeper n s ss)) (path x)
counts_before n s ss x = sibling_next (λ r x. is_lt (subscript_cmp x r)) (120 ∷ n) (s ∷ ss) (path x)

pub counts_some : (n s : List ℕ) (ss : List (List ℕ)) (x : Reference) → is_some (child_of (parent_of (closed_spot (deeper n s ss))) x) ≡ sibling subscript_cmp (λ r x. true) (path (deeper n s ss)) (path x)
counts_some n s ss x = sym (any_true _) ∙ sibling_next (λ r x. true) (120 ∷ n) (s ∷ ss) (path x)

closed_after : (n s : List ℕ) (ss : List (List ℕ)) (m : Database) → order_of true (closed_spot (deeper n s ss)) m ≡ answer_of true (closed_spot (deeper n s ss)) m
closed_after n s ss m =
    let r = deeper n s ss in
    let p = closed_spot r in
    let bound = nearest_entry true (is_after true r) m in
    let found : nearest_entry true (is_candidate true p) m ≡ keep (is_candidate true p) bound =
    nearest_after ref_cmp (is_candidate true p) (is_after true r)
    (λ x h. past_path r x ∙ sibling_after subscript_cmp subscript_cmp_total (path r) (path x) (sym (counts_after n s ss x) ∙ h))
    (λ x y b l h. counts_after n s ss x ∙ sibling_closed subscript_cmp subscript_cmp_total (path r) (path x) (path y) (sym (past_path r x) ∙ b) (sym (cmp_path x y) ∙ l) (sym (counts_after n s ss y) ∙ h)) m in
    order_is true p m
    ∙ ap (λ o. unwrap_or (option_and_then (λ e. child_of (parent_of p) e.0) o) []) found
    ∙ ap (λ o. unwrap_or o []) (answered (is_candidate true p) (is_after true r) (child_of (parent_of p))
    (λ x b. counts_after n s ss x ∙ sibling_known subscript_cmp subscript_cmp_total (path r) (path x) (sym (past_path r x) ∙ b) ∙ sym (counts_some n s ss x)) bound (nearest_passes ref_cmp true (is_after true r) m))

closed_before : (n s : List ℕ) (ss : List (List ℕ)) (m : Database) → order_of false (closed_spot (deeper n s ss)) m ≡ answer_of false (closed_spot (deeper n s ss)) m
closed_before n s ss m =
    let r = deeper n s ss in
    let p = closed_spot r in
    let bound = nearest_entry false (is_before false r) m in
    let found : nearest_entry false (is_candidate false p) m ≡ keep (is_candidate false p) bound =
    nearest_before ref_cmp (is_candidate false p) (is_before false r)
    (λ x h. ap is_lt (cmp_path x r ∙ sibling_before subscript_cmp subscript_cmp_total (path r) (path x) (sym (counts_before n s ss x) ∙ h)))
    (λ x y b l h. counts_before n s ss y ∙ sibling_closed_back subscript_cmp subscript_cmp_total (path r) (path x) (path y) (less_path y r b) (sym (cmp_path x y) ∙ l) (sym (counts_before n s ss x) ∙ h)) m in
    order_is false p m
    ∙ ap (λ o. unwrap_or (option_and_then (λ e. child_of (parent_of p) e.0) o) []) found
    ∙ ap (λ o. unwrap_or o []) (answered (is_candidate false p) (is_before false r) (child_of (parent_of p))
    (λ x b. counts_before n s ss x ∙ sibling_known_back subscript_cmp subscript_cmp_total (path r) (path x) (less_path x r b) ∙ sym (counts_some n s ss x)) bound (nearest_passes ref_cmp false (is_before false r) m))

-- what $ORDER answers, by one look-up
pub order_seek : (forward : Bool) (p : Spot) (m : Database) → (p.is_open || nat_lt 0 (length p.reference.subscripts)) ≡ true → order_of forward p m ≡ answer_of forward p m
order_seek forward p m h = by_parts forward p.reference.name p.reference.subscripts p.is_open h
  where
    by_parts : (forward : Bool) (n : List ℕ) (ss : List (List ℕ)) (b : Bool) → (b || nat_lt 0 (length ss)) ≡ true → order_of forward (record { reference = record { name = n; subscripts = ss }; is_open = b }) m ≡ answer_of forward (record { reference = record { name = n; subscripts = ss }; is_open = b }) m
    by_parts true n ss true h = open_after (record { name = n; subscripts = ss }) m
    by_parts false n ss true h = open_before (record { name = n; subscripts = ss }) m
    by_parts forward n [] false h = absurd (cc)
    by_parts true n (s ∷ ss) false h = closed_after n s ss m
    by_parts false n (s ∷ ss) false h = closed_before n s ss m

-- ---- the same name

pub name_closed : (r x y : Reference) → is_after false r x ≡ true → ref_cmp x y ≡ Less → has_name r y ≡ true → has_name r x ≡ true
name_closed r x y b l h = name_path r x ∙ head_closed subscript_cmp subscript_cmp_total (120 ∷ r.name) (120 ∷ x.name) (120 ∷ y.name) r.subscripts x.subscripts y.subscripts (less_path r x b) (sym (cmp_path x y) ∙ l) (sym (name_path r y) ∙ h)

pub name_closed_back : (whole : Bool) (r x y : Reference) → is_before whole r y ≡ true → ref_cmp x y ≡ Less → has_name r x ≡ true → has_name r y ≡ true
name_closed_back false r x y b l h = name_path r y ∙ head_closed_back subscript_cmp subscript_cmp_total (120 ∷ r.name) (120 ∷ x.name) (120 ∷ y.name) r.subscripts x.subscripts y.subscripts (less_path y r b) (sym (cmp_path x y) ∙ l) (sym (name_path r x) ∙ h)
name_closed_back true r x y b l h = name_path r y ∙ head_closed_end subscript_cmp subscript_cmp_total (120 ∷ r.name) (120 ∷ x.name) (120 ∷ y.name) r.subscripts x.subscripts y.subscripts (sym (before_path r y) ∙ b) (sym (cmp_path x y) ∙ l) (sym (name_path r x) ∙ h)

-- where $QUERY looks
abbrev pub query_bound : Bool → Spot → Reference → Bool
query_bound true p = is_after false p.reference
query_bound false p = is_before p.is_open p.reference

kept_both : {K X : Type 0} (N B : K → Bool) (o : Option (K × X)) → ((e : K × X) → o ≡ Some e → B e.0 ≡ true) → keep (λ x. N x && B x) o ≡ keep N o
kept_both N B None within = refl
kept_both N B (Some e) within = rw (within e refl) (ap (λ b. cond b (Some e) None) (and-true (N e.0)))

-- what $QUERY answers, by one look-up
pub query_seek : (forward : Bool) (p : Spot) (m : Database) → query_of forward p m ≡ option_map (λ e. e.0) (keep (has_name p.reference) (nearest_entry forward (query_bound forward p) m))
query_seek true p m =
    let B = query_bound true p in
    query_is true p m
    ∙ ap (option_map (λ e. e.0)) (nearest_after ref_cmp (follows true p) B (λ x h. second_so (has_name p.reference x) _ h)
    (λ x y b l h. and_from _ _ (name_closed p.reference x y b l (first_so _ _ h)) b) m
    ∙ kept_both (has_name p.reference) B (nearest_entry true B m) (nearest_passes ref_cmp true B m))
query_seek false p m =
    let B = query_bound false p in
    query_is false p m
    ∙ ap (option_map (λ e. e.0)) (nearest_before ref_cmp (follows false p) B (λ x h. second_so (has_name p.reference x) _ h)
    (λ x y b l h. and_from _ _ (name_closed_back p.is_open p.reference x y b l (first_so _ _ h)) b) m
    ∙ kept_both (has_name p.reference) B (nearest_entry false B m) (nearest_passes ref_cmp false B m))

-- ---- the same, of the key that a look-up gives

next_key : {K X Y : Type 0} (f : K → Option Y) (o : Option (K × X)) → option_and_then (λ e. f e.0) o ≡ option_and_then f (option_map (λ e. e.0) o)
next_key f None = refl
next_key f (Some e) = refl

kept_key : {K X : Type 0} (N : K → Bool) (o : Option (K × X)) → option_map (λ e. e.0) (keep N o) ≡ option_and_then (λ k. cond (N k) (Some k) None) (option_map (λ e. e.0) o)
kept_key N None = refl
kept_key N (Some e) = elim (N e.0) as (λ b. option_map (λ e. e.0) (cond b (Some e) None) ≡ cond b (Some e.0) None) [ true ↦ refl | false ↦ refl ]

-- ---- the same, from a cut

-- what doesn't stand before the start of $ORDER forward
pub after_order_start : (p : Spot) (x : Reference) → not (order_start true p x) ≡ seek true p x
after_order_start p x =
    elim p.is_open as (λ b. not (cond b (not (is_lt (ref_cmp p.reference x))) (is_before true p.reference x)) ≡ is_after (not b) p.reference x) [
      | true ↦ not-not (is_lt (ref_cmp p.reference x))
      | false ↦ not_before_end p.reference x
    ]

-- the key that a look-up from a cut gives
abbrev pub found_key : Bool → Cut → Database → Option Reference
found_key forward cut m = option_map (λ e. e.0) (next_to forward cut m)

pub order_found : (forward : Bool) (p : Spot) (m : Database) (cut : Cut) (k : Option Reference) → (p.is_open || nat_lt 0 (length p.reference.subscripts)) ≡ true → ((x : Reference) → stands_before cut x ≡ order_start forward p x) → k ≡ found_key forward cut m → order_of forward p m ≡ unwrap_or (option_and_then (child_of (parent_of p)) k) []
order_found true p m cut k h start is =
    let same : found_key true cut m ≡ option_map (λ e. e.0) (nearest_entry true (seek true p) m) = λ i. option_map (λ e. e.0) (nearest_entry true (λ x. (ap not (start x) ∙ after_order_start p x) i) m) in
    order_seek true p m h ∙ ap (λ o. unwrap_or o []) (next_key (child_of (parent_of p)) (nearest_entry true (seek true p) m) ∙ ap (option_and_then (child_of (parent_of p))) (sym (is ∙ same)))
order_found false p m cut k h start is =
    let same : found_key false cut m ≡ option_map (λ e. e.0) (nearest_entry false (seek false p) m) = λ i. option_map (λ e. e.0) (nearest_entry false (λ x. start x i) m) in
    order_seek false p m h ∙ ap (λ o. unwrap_or o []) (next_key (child_of (parent_of p)) (nearest_entry false (seek false p) m) ∙ ap (option_and_then (child_of (parent_of p))) (sym (is ∙ same)))

-- the child of the place's level on the way to what a look-up gives is what $ORDER answers
pub sibling_found : {E : Type 0} (forward : Bool) (p : Spot) (m : Database) (cut : Cut) (k : Reference) (r : Result (Option (List ℕ)) E) → (p.is_open || nat_lt 0 (length p.reference.subscripts)) ≡ true
    → ((x : Reference) → stands_before cut x ≡ order_start forward p x) → Some k ≡ found_key forward cut m → IfOk r (λ child. child ≡ child_of (parent_of p) k) → IfOk r (λ answer. unwrap_or answer [] ≡ order_of forward p m)
sibling_found forward p m cut k (Ok child) h start is child_is = ap (λ o. unwrap_or o []) child_is ∙ sym (order_found forward p m cut (Some k) h start is)
sibling_found forward p m cut k (Err e) h start is child_is = tt

pub query_found : (forward : Bool) (p : Spot) (m : Database) (cut : Cut) (k : Option Reference) → ((x : Reference) → stands_before cut x ≡ query_start forward p x) → k ≡ found_key forward cut m → query_of forward p m ≡ option_and_then (λ k. cond (has_name p.reference k) (Some k) None) k
query_found true p m cut k start is =
    let same : found_key true cut m ≡ option_map (λ e. e.0) (nearest_entry true (query_bound true p) m) = λ i. option_map (λ e. e.0) (nearest_entry true (λ x. (ap not (start x) ∙ not-not (is_lt (ref_cmp p.reference x))) i) m) in
    query_seek true p m ∙ kept_key (has_name p.reference) (nearest_entry true (query_bound true p) m) ∙ ap (option_and_then (λ k. cond (has_name p.reference k) (Some k) None)) (sym (is ∙ same))
query_found false p m cut k start is =
    let same : found_key false cut m ≡ option_map (λ e. e.0) (nearest_entry false (query_bound false p) m) = λ i. option_map (λ e. e.0) (nearest_entry false (λ x. start x i) m) in
    query_seek false p m ∙ kept_key (has_name p.reference) (nearest_entry false (query_bound false p) m) ∙ ap (option_and_then (λ k. cond (has_name p.reference k) (Some k) None)) (sym (is ∙ same))

any_key : (r : Reference) {X : Type 0} (o : Option (Reference × X)) → any_of (λ e. is_below r e.0) o ≡ any_of (is_below r) (option_map (λ e. e.0) o)
any_key r None = refl
any_key r (Some e) = refl

pub data_found : (r : Reference) (m : Database) (k : Option Reference) → k ≡ option_map (λ e. e.0) (nearest_entry true (λ x. not (not (is_lt (ref_cmp r x)))) m) → list_any (is_below r) (finmap.keys m) ≡ any_of (is_below r) k
data_found r m k is =
    let same : option_map (λ e. e.0) (nearest_entry true (λ x. not (not (is_lt (ref_cmp r x)))) m) ≡ option_map (λ e. e.0) (nearest_entry true (is_after false r) m) = λ i. option_map (λ e. e.0) (nearest_entry true (λ x. not-not (is_lt (ref_cmp r x)) i) m) in
    data_seek r m ∙ any_key r (nearest_entry true (is_after false r) m) ∙ ap (any_of (is_below r)) (sym (is ∙ same))
