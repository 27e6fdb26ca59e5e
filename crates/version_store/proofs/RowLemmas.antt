-- Rows that a walk over the tree lends, with the hidden pairs between them: the newest stamp of a row, and of what comes
-- after it.
use Rattle.std.proofs.Common.{◌≡◌, ℕ, suc, ◌-◌, List, [], ◌∷◌, ◌++◌, length, refl, sym, ap, ◌∙◌, arith}
use Rattle.std.proofs.lemmas.List.{map-append}
use Rattle.std.proofs.lemmas.List.Elements.{filter-append}
use Rattle.std.specs.Prelude.{true, false, filter, Option, Some, None}
use Rattle.std.specs.Ordering.{is_lt}
use Rattle.std.specs.Option.{option_or}
use Rattle.std.specs.List.{slice_get}
use Rattle.std.specs.Cmp.{first_so, second_so}
use Rattle.std.specs.FinMap.{is_sorted}
use Rattle.std.specs.FinMap.Entries.{below_all}
use Rattle.collation.specs.Reference.{Reference}
use Rattle.collation.specs.Order.{ref_cmp}
use Rattle.collation.specs.laws.Order.{is_less}
use Rattle.btree.specs.Order.{last_of}
use Rattle.steady_map.specs.Shown.{shown, with_value}
use Rattle.globals.specs.declared.cut.Cut.{Cut}
use Rattle.globals.specs.Cuts.{stands_before}
use Rattle.globals.specs.laws.Nearest.{still_fails}
use Rattle.globals.specs.laws.Cuts.{stands_before-earlier}
use Rattle.version_chain.specs.Versions.{newest_of}
use Rattle.version_chain.specs.Chains.{versions_at}
use Rattle.version_store.specs.Versions.{Row, later, newest_among}
use Rattle.version_store.specs.Tied.{rows, newest_below, AreOpen}
use Rattle.version_store.proofs.TiedLemmas.{State, Pairs, same_some}
use Rattle.version_store.proofs.RangeLemmas.{later_none}

-- a row: pairs of which some are hidden
abbrev pub HeldPairs : Type 0
HeldPairs = List (Reference × Option ℕ)

-- ---- the parts of what is left

pub open_front : (c : State) (xs ys : Pairs) → AreOpen c (xs ++ ys) → AreOpen c xs
open_front c [] ys h = tt
open_front c (x ∷ xs) ys h = (h.0, open_front c xs ys h.1)

pub open_back : (c : State) (xs ys : Pairs) → AreOpen c (xs ++ ys) → AreOpen c ys
open_back c [] ys h = h
open_back c (x ∷ xs) ys h = open_back c xs ys h.1

pub sorted_back : (xs ys : Pairs) → is_sorted ref_cmp (xs ++ ys) ≡ true → is_sorted ref_cmp ys ≡ true
sorted_back [] ys h = h
sorted_back (x ∷ xs) ys h = sorted_back xs ys (second_so (below_all ref_cmp x.0 (xs ++ ys)) _ h)

-- ---- newest stamps of two parts

pub later_assoc : (a b c : Option ℕ) → later (later a b) c ≡ later a (later b c)
later_assoc None b c = refl
later_assoc (Some a) None c = refl
later_assoc (Some a) (Some b) None = refl
later_assoc (Some a) (Some b) (Some c) = ap Some (omega arith)

newest_append : (xs ys : List (Reference × Row)) → newest_among (xs ++ ys) ≡ later (newest_among xs) (newest_among ys)
newest_append [] ys = refl
newest_append (x ∷ xs) ys = ap (later (newest_of x.1)) (newest_append xs ys) ∙ sym (later_assoc (newest_of x.1) (newest_among xs) (newest_among ys))

pub below_append : (high : Cut) (c : State) (xs ys : Pairs) → newest_below high c (xs ++ ys) ≡ later (newest_below high c xs) (newest_below high c ys)
below_append high c xs ys =
    ap newest_among (ap (filter (λ e. stands_before high e.0)) (map-append (λ p. (p.0, versions_at c p.1)) xs ys) ∙ filter-append (λ e. stands_before high e.0) (rows c xs) (rows c ys))
    ∙ newest_append (filter (λ e. stands_before high e.0) (rows c xs)) (filter (λ e. stands_before high e.0) (rows c ys))

-- ---- a row's last key

pub still : {A : Type 0} (o : Option A) (x y : A) → option_or (option_or o (Some y)) (Some x) ≡ option_or o (Some y)
still None x y = refl
still (Some z) x y = refl

pub last_get : {A : Type 0} (ps : List A) → slice_get ps (length ps - 1) ≡ last_of ps
last_get [] = refl
last_get (x ∷ []) = refl
last_get (x ∷ y ∷ ps) =
    let less : length (x ∷ y ∷ ps) - 1 ≡ suc (length (y ∷ ps) - 1) = omega arith in
    rw less (last_get (y ∷ ps) ∙ sym (still (last_of ps) x y))

module _ (high : Cut) (c : State) where
  -- a pair in front of shown pairs that all stand before the cut
  with_below : (x : Reference) (held : Option ℕ) (ps : Pairs) → stands_before high x ≡ true → filter (λ e. stands_before high e.0) (rows c ps) ≡ rows c ps
      → filter (λ e. stands_before high e.0) (rows c (with_value x held ps)) ≡ rows c (with_value x held ps)
  with_below x None ps below rest = rest
  with_below x (Some id) ps below rest = rw below (ap (λ l. (x, versions_at c id) ∷ l) rest)

  -- in front of shown pairs of which none does
  with_none : (x : Reference) (held : Option ℕ) (ps : Pairs) → stands_before high x ≡ false → filter (λ e. stands_before high e.0) (rows c ps) ≡ []
      → filter (λ e. stands_before high e.0) (rows c (with_value x held ps)) ≡ []
  with_none x None ps past rest = rest
  with_none x (Some id) ps past rest = rw past rest

  -- what comes after a key that doesn't stand before the cut doesn't either
  none_above : (x : Reference) (ps : HeldPairs) → stands_before high x ≡ false → below_all ref_cmp x ps ≡ true → filter (λ e. stands_before high e.0) (rows c (shown ps)) ≡ []
  none_above x [] past h = refl
  none_above x (p ∷ ps) past h =
      let less = is_less _ (first_so (is_lt (ref_cmp x p.0)) _ h) in
      with_none p.0 p.1 (shown ps) (still_fails ref_cmp (stands_before high) (stands_before-earlier high) x p.0 past less) (none_above x ps past (second_so (is_lt (ref_cmp x p.0)) _ h))

  pub front_past : (n t : Option ℕ) (qs ps : HeldPairs) (p : Reference × Option ℕ) → qs ≡ p ∷ ps → is_sorted ref_cmp qs ≡ true → stands_before high p.0 ≡ false → later n (newest_below high c (shown qs)) ≡ t → n ≡ t
  front_past n t qs ps p are h past is =
      let sorted : is_sorted ref_cmp (p ∷ ps) ≡ true = ap (is_sorted ref_cmp) (sym are) ∙ h in
      let none = with_none p.0 p.1 (shown ps) past (none_above p.0 ps past (first_so (below_all ref_cmp p.0 ps) _ sorted)) in
      sym (later_none n) ∙ ap (λ l. later n (newest_among l)) (sym none) ∙ ap (λ qs. later n (newest_below high c (shown qs))) (sym are) ∙ is

  module _ (p : Reference × Option ℕ) where
    -- what stands before the last key stands before the cut, if that does
    first_below : (x : Reference × Option ℕ) (ps : HeldPairs) → is_sorted ref_cmp (x ∷ ps) ≡ true → last_of (x ∷ ps) ≡ Some p → stands_before high p.0 ≡ true → stands_before high x.0 ≡ true
    first_below x [] h last below = ap (λ (q : Reference × Option ℕ). stands_before high q.0) (same_some x p last) ∙ below
    first_below x (y ∷ ps) h last below =
        stands_before-earlier high x.0 y.0 (is_less _ (first_so (is_lt (ref_cmp x.0 y.0)) _ (first_so (below_all ref_cmp x.0 (y ∷ ps)) _ h)))
        (first_below y ps (second_so (below_all ref_cmp x.0 (y ∷ ps)) _ h) (sym (still (last_of ps) x y) ∙ last) below)

    all_below : (ps : HeldPairs) → is_sorted ref_cmp ps ≡ true → last_of ps ≡ Some p → stands_before high p.0 ≡ true → filter (λ e. stands_before high e.0) (rows c (shown ps)) ≡ rows c (shown ps)
    all_below [] h last below = refl
    all_below (x ∷ []) h last below = with_below x.0 x.1 [] (first_below x [] h last below) refl
    all_below (x ∷ y ∷ ps) h last below =
        with_below x.0 x.1 (shown (y ∷ ps)) (first_below x (y ∷ ps) h last below)
        (all_below (y ∷ ps) (second_so (below_all ref_cmp x.0 (y ∷ ps)) _ h) (sym (still (last_of ps) x y) ∙ last) below)

    -- a row that is passed. n is the newest stamp so far, t that of all
    pub row_passed : (n t : Option ℕ) (qs more : Pairs) (row : HeldPairs) → qs ≡ shown row ++ more → is_sorted ref_cmp row ≡ true → slice_get row (length row - 1) ≡ Some p → stands_before high p.0 ≡ true
        → later n (newest_below high c qs) ≡ t → later (later n (newest_among (rows c (shown row)))) (newest_below high c more) ≡ t
    row_passed n t qs more row are h last below is =
        later_assoc n (newest_among (rows c (shown row))) (newest_below high c more)
        ∙ ap (λ l. later n (later (newest_among l) (newest_below high c more))) (sym (all_below row h (sym (last_get row) ∙ last) below))
        ∙ ap (later n) (sym (below_append high c (shown row) more)) ∙ ap (λ ps. later n (newest_below high c ps)) (sym are) ∙ is

  -- the row where the walk ends
  pub row_ends : (n t : Option ℕ) (qs more : Pairs) (row : HeldPairs) → qs ≡ shown row ++ more → later n (newest_below high c qs) ≡ t → later (later n (newest_below high c (shown row))) (newest_below high c more) ≡ t
  row_ends n t qs more row are is =
      later_assoc n (newest_below high c (shown row)) (newest_below high c more) ∙ ap (later n) (sym (below_append high c (shown row) more)) ∙ ap (λ ps. later n (newest_below high c ps)) (sym are) ∙ is
