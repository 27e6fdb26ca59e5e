-- What is gathered of a view without what is killed, and of two runs together.
use Rattle.std.proofs.Common.{◌≡◌, ℕ, ◌+◌, ◌-◌, ◌≤◌, ◌<◌, Bool, true, false, List, [], ◌∷◌, ◌++◌, length, take, drop, refl, sym, ap, ◌∙◌, arith, append_assoc, length-append, append-nil}
use Rattle.std.specs.Prelude.{cond, not, ◌&&◌, filter}
use Rattle.std.proofs.lemmas.List.{take-append-drop, length-drop}
use Rattle.std.proofs.lemmas.List.Elements.{filter-append}
use Rattle.std.proofs.lemmas.Bool.{and_right, false_from_ne_true}
use Rattle.std.specs.declared.cmp.Ordering.TheVariants.{Less, Equal, Greater}
use Rattle.std.specs.Ordering.{is_lt}
use Rattle.std.specs.Cmp.{both_ways}
use Rattle.std.proofs.Math.Bool.{not-not}
use Rattle.std.specs.FinMap as finmap
use Rattle.std.specs.FinMap.Entries.{by_order}
use Rattle.collation.specs.Reference.{Reference}
use Rattle.collation.specs.Order.{ref_cmp}
use Rattle.collation.specs.laws.Order.{ref_cmp_total, is_less, turned}
use Rattle.collation.specs.Database.{Database}
use Rattle.command.specs.declared.access.Extent.{Extent}
use Rattle.globals.specs.declared.cut.Cut.{Cut}
use Rattle.globals.specs.Cuts.{stands_before, taken_end, entries_from, IsRun}
use Rattle.globals.specs.laws.Steps.{behind_member}
use Rattle.workspace.specs.Layers.{is_killed, IsKiller}
use Rattle.overlay_view.specs.Merging.{without_killed, joined, IsJustBehind}
use Rattle.overlay_view.proofs.Nearness.{Node, no_more}
use Rattle.overlay_view.proofs.Skipped.{left_after, has_left_so}

-- ---- after a reference

false_of_not : (b : Bool) → not b ≡ true → b ≡ false
false_of_not true h = absurd (cc)
false_of_not false h = refl

-- after a killed reference stands what is after all that is killed with it
pub behind_killed : (ks : List (Reference × Extent)) (x r : Reference) (extent : Extent) → IsKiller ks x r extent → (y : Reference) → is_killed ks y ≡ false → taken_end extent r y ≡ not (is_lt (ref_cmp x y))
behind_killed ks x r extent kills y free = sym (not-not (taken_end extent r y)) ∙ ap not (both_ways _ _ (λ h. ap is_lt (left_after true r extent x y kills.above h)) onward)
  where
    onward : is_lt (ref_cmp x y) ≡ true → not (taken_end extent r y) ≡ true
    onward l = has_left_so true r extent x y kills.above (false_from_ne_true _ (λ u. let k = kills.all y u in absurd (cc)))
        (λ m. let back = turned ref_cmp_total x y Less (is_less _ l) in absurd (cc))

pub killed_further : (ks : List (Reference × Extent)) (x r : Reference) (extent : Extent) → IsKiller ks x r extent → (y : Reference) → not (is_lt (ref_cmp x y)) ≡ true → taken_end extent r y ≡ true
killed_further ks x r extent kills y h = by_test (taken_end extent r y) refl
  where
    by_test : (b : Bool) → taken_end extent r y ≡ b → b ≡ true
    by_test true is = refl
    by_test false is = let l : is_lt (ref_cmp x y) ≡ true = ap is_lt (left_after true r extent x y kills.above (ap not is)) in let n = false_of_not _ h in absurd (cc)

-- ---- what isn't killed

both_tests : (P Q : Reference → Bool) (es : List Node) → filter (λ e. Q e.0) (filter (λ e. P e.0) es) ≡ filter (λ e. P e.0 && Q e.0) es
both_tests P Q [] = refl
both_tests P Q (e ∷ es) = elim (P e.0) as (λ p. filter (λ e. Q e.0) (cond p (e ∷ filter (λ e. P e.0) es) (filter (λ e. P e.0) es)) ≡ cond (p && Q e.0) (e ∷ filter (λ e. P e.0 && Q e.0) es) (filter (λ e. P e.0 && Q e.0) es)) [
  | true ↦ ap (λ (l : List Node). cond (Q e.0) (e ∷ l) l) (both_tests P Q es)
  | false ↦ both_tests P Q es
]

module _ (ks : List (Reference × Extent)) (x : Reference) (cut : Cut) (is : IsJustBehind ks x cut) where
  same_test : (y : Reference) → (not (not (is_lt (ref_cmp x y))) && not (is_killed ks y)) ≡ (not (stands_before cut y) && not (is_killed ks y))
  same_test y = by_killed (is_killed ks y) refl
    where
      by_killed : (k : Bool) → is_killed ks y ≡ k → (not (not (is_lt (ref_cmp x y))) && not k) ≡ (not (stands_before cut y) && not k)
      by_killed true k = and_right (not (not (is_lt (ref_cmp x y)))) false refl ∙ sym (and_right (not (stands_before cut y)) false refl)
      by_killed false k = ap (λ b. not b && true) (sym (is.same y k))

  behind_same : (es : List Node) → without_killed ks (filter (λ e. not (not (is_lt (ref_cmp x e.0)))) es) ≡ without_killed ks (filter (λ e. not (stands_before cut e.0)) es)
  behind_same es =
      both_tests (λ y. not (not (is_lt (ref_cmp x y)))) (λ y. not (is_killed ks y)) es ∙ (λ i. filter (λ e. same_test e.0 i) es)
      ∙ sym (both_tests (λ y. not (stands_before cut y)) (λ y. not (is_killed ks y)) es)

  within : (y : Reference) → not (stands_before cut y) ≡ true → not (not (is_lt (ref_cmp x y))) ≡ true
  within y h = by_test (is_lt (ref_cmp x y)) refl
    where
      by_test : (l : Bool) → is_lt (ref_cmp x y) ≡ l → not (not l) ≡ true
      by_test true l = refl
      by_test false l = let b = is.further y (ap not l) in let n = false_of_not _ h in absurd (cc)

  fewer_behind : (es : List Node) → length (filter (λ e. not (stands_before cut e.0)) es) ≤ length (filter (λ e. not (not (is_lt (ref_cmp x e.0)))) es)
  fewer_behind es = no_more (λ y. not (not (is_lt (ref_cmp x y)))) (λ y. not (stands_before cut y)) within es

-- ---- a run of a view, of which the last is e

module _ (from : Cut) (m : Database) (most : ℕ) (found : List Node) (e : Node) (is : IsRun most found (entries_from from m)) (last : drop (length found - 1) found ≡ e ∷ []) where
  rest_is : filter (λ f. not (not (is_lt (ref_cmp e.0 f.0)))) (finmap.entries m) ≡ is.front.rest
  rest_is = behind_member from m (take (length found - 1) found) is.front.rest e
      (is.front.parts ∙ ap (λ l. l ++ is.front.rest) (sym (take-append-drop (length found - 1) found) ∙ ap (λ l. take (length found - 1) found ++ l) last)
      ∙ append_assoc (take (length found - 1) found) (e ∷ []) is.front.rest)

  some_found : 1 ≤ length found
  some_found = let n : length (drop (length found - 1) found) ≡ 1 = ap length last in omega (arith, n, length-drop (length found - 1) found)

  -- all of it is killed: nothing is lost where it goes on after
  pub passed_on : (ks : List (Reference × Extent)) (cut : Cut) → IsJustBehind ks e.0 cut → without_killed ks found ≡ [] → without_killed ks (entries_from cut m) ≡ without_killed ks (entries_from from m)
  passed_on ks cut behind none =
      sym (behind_same ks e.0 cut behind (finmap.entries m)) ∙ ap (without_killed ks) rest_is
      ∙ ap (λ l. l ++ without_killed ks is.front.rest) (sym none) ∙ sym (filter-append (λ e. not (is_killed ks e.0)) found is.front.rest)
      ∙ ap (without_killed ks) (sym is.front.parts)

  pub fewer_from : (ks : List (Reference × Extent)) (cut : Cut) → IsJustBehind ks e.0 cut → length (entries_from cut m) < length (entries_from from m)
  fewer_from ks cut behind =
      let fewer = fewer_behind ks e.0 cut behind (finmap.entries m) in
      let rest : length (filter (λ f. not (not (is_lt (ref_cmp e.0 f.0)))) (finmap.entries m)) ≡ length is.front.rest = ap length rest_is in
      let all : length (entries_from from m) ≡ length found + length is.front.rest = ap length is.front.parts ∙ length-append found is.front.rest in
      omega (arith, fewer, rest, all, some_found)

no_longer : (P : Node → Bool) (es : List Node) → length (filter P es) ≤ length es
no_longer P [] = omega arith
no_longer P (e ∷ es) = let rest = no_longer P es in elim (P e) as (λ b. length (cond b (e ∷ filter P es) (filter P es)) ≤ length (e ∷ es)) [ true ↦ omega (arith, rest) | false ↦ omega (arith, rest) ]

nothing_in : {A : Type 0} (es : List A) → length es ≡ 0 → es ≡ []
nothing_in [] h = refl
nothing_in (e ∷ es) h = absurd (omega (arith, h))

-- some of it isn't killed
pub left_found : (ks : List (Reference × Extent)) (most n : ℕ) (found left all goal : List Node) → IsRun most found all → left ≡ without_killed ks found → n ≡ length left → 0 < n → without_killed ks all ≡ goal → IsRun most left goal
left_found ks most n found left all goal is kept counted some same = record {
  front = record {
    rest = without_killed ks is.front.rest;
    parts = sym same ∙ ap (without_killed ks) is.front.parts ∙ filter-append (λ e. not (is_killed ks e.0)) found is.front.rest ∙ ap (λ l. l ++ without_killed ks is.front.rest) (sym kept);
  };
  bounded = let few = is.bounded in let shorter = no_longer (λ e. not (is_killed ks e.0)) found in let l : length left ≡ length (without_killed ks found) = ap length kept in omega (arith, few, shorter, l);
  ends = λ none. absurd (let l : length left ≡ 0 = ap length none in omega (arith, l, counted, some));
}

-- the view has nothing more
pub nothing_left : (ks : List (Reference × Extent)) (most : ℕ) (found all goal : List Node) → IsRun most found all → found ≡ [] → without_killed ks all ≡ goal → IsRun most found goal
nothing_left ks most found all goal is none same = record {
  front = record { rest = goal; parts = ap (λ l. l ++ goal) (sym none) };
  bounded = is.bounded;
  ends = λ _. sym same ∙ ap (without_killed ks) (is.ends none);
}

-- nothing of it is left
pub none_unkilled : (ks : List (Reference × Extent)) (found left : List Node) (n : ℕ) → left ≡ without_killed ks found → n ≡ length left → n ≤ 0 → without_killed ks found ≡ []
none_unkilled ks found left n kept counted zero = sym kept ∙ nothing_in left (omega (arith, counted, zero))

-- ---- one node of a run is looked at

pub kept_on : (ks : List (Reference × Extent)) (found left more after later : List Node) (e : Node) → left ++ without_killed ks after ≡ without_killed ks found → after ≡ e ∷ later → more ≡ left ++ without_killed ks (e ∷ [])
    → more ++ without_killed ks later ≡ without_killed ks found
kept_on ks found left more after later e so first kept =
    ap (λ l. l ++ without_killed ks later) kept ∙ append_assoc left (without_killed ks (e ∷ [])) (without_killed ks later)
    ∙ ap (λ l. left ++ l) (sym (filter-append (λ f. not (is_killed ks f.0)) (e ∷ []) later)) ∙ ap (λ l. left ++ without_killed ks l) (sym first) ∙ so

pub few_on : (ks : List (Reference × Extent)) (left more : List Node) (e : Node) (n : ℕ) → length left ≤ n → more ≡ left ++ without_killed ks (e ∷ []) → length more ≤ n + 1
few_on ks left more e n few kept =
    let l : length more ≡ length left + length (without_killed ks (e ∷ [])) = ap length kept ∙ length-append left (without_killed ks (e ∷ [])) in
    let one = no_longer (λ f. not (is_killed ks f.0)) (e ∷ []) in
    omega (arith, few, l, one)

pub kept_one : (ks : List (Reference × Extent)) (left : List Node) (e : Node) → is_killed ks e.0 ≡ false → left ++ e ∷ [] ≡ left ++ without_killed ks (e ∷ [])
kept_one ks left e free = ap (λ b. left ++ cond (not b) (e ∷ []) []) (sym free)

pub kept_none : (ks : List (Reference × Extent)) (left : List Node) (e : Node) → is_killed ks e.0 ≡ true → left ≡ left ++ without_killed ks (e ∷ [])
kept_none ks left e killed = sym (append-nil left) ∙ ap (λ b. left ++ cond (not b) (e ∷ []) []) (sym killed)

-- ---- two lists as one

module _ (xs ys xs_on ys_on : List Node) (a b : Node) (xs_is : xs ≡ a ∷ xs_on) (ys_is : ys ≡ b ∷ ys_on) where
  pub first_own : ref_cmp a.0 b.0 ≡ Less → (x y : List Node) → joined (xs ++ x) (ys ++ y) ≡ a ∷ joined (xs_on ++ x) (ys ++ y)
  first_own less x y =
      (λ i. joined (xs_is i ++ x) (ys_is i ++ y)) ∙ ap (λ o. by_order o (a ∷ joined (xs_on ++ x) (b ∷ ys_on ++ y)) (a ∷ joined (xs_on ++ x) (ys_on ++ y)) (b ∷ joined (a ∷ xs_on ++ x) (ys_on ++ y))) less
      ∙ ap (λ l. a ∷ joined (xs_on ++ x) (l ++ y)) (sym ys_is)

  pub first_both : ref_cmp a.0 b.0 ≡ Equal → (x y : List Node) → joined (xs ++ x) (ys ++ y) ≡ a ∷ joined (xs_on ++ x) (ys_on ++ y)
  first_both equal x y =
      (λ i. joined (xs_is i ++ x) (ys_is i ++ y)) ∙ ap (λ o. by_order o (a ∷ joined (xs_on ++ x) (b ∷ ys_on ++ y)) (a ∷ joined (xs_on ++ x) (ys_on ++ y)) (b ∷ joined (a ∷ xs_on ++ x) (ys_on ++ y))) equal

  pub first_below : ref_cmp a.0 b.0 ≡ Greater → (x y : List Node) → joined (xs ++ x) (ys ++ y) ≡ b ∷ joined (xs ++ x) (ys_on ++ y)
  first_below greater x y =
      (λ i. joined (xs_is i ++ x) (ys_is i ++ y)) ∙ ap (λ o. by_order o (a ∷ joined (xs_on ++ x) (b ∷ ys_on ++ y)) (a ∷ joined (xs_on ++ x) (ys_on ++ y)) (b ∷ joined (a ∷ xs_on ++ x) (ys_on ++ y))) greater
      ∙ ap (λ l. b ∷ joined (l ++ x) (ys_on ++ y)) (sym xs_is)
