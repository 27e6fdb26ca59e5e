-- What a change between two places of the stretches leaves.
use Rattle.std.proofs.Common.{◌≡◌, ℕ, ◌+◌, ◌<◌, ◌≤◌, Bool, true, false, List, [], ◌∷◌, ◌++◌, length, get_or, slice_set, take, drop, zero, suc, arith, refl, sym, ap, subst, ◌∙◌}
use Rattle.std.specs.Prelude.{not, ◌&&◌, ◌||◌, Option, None, Some, IfSome}
use Rattle.std.specs.Cmp.{first_so, second_so}
use Rattle.std.proofs.lemmas.Bool.{and_from, or_left, or_right}
use Rattle.std.proofs.lemmas.Bool.{false_from_ne_true}
use Rattle.collation.specs.Reference.{Reference}
use Rattle.collation.specs.Database.{Database}
use Rattle.globals.specs.declared.cut.Cut.{Cut}
use Rattle.globals.specs.Cuts.{stands_before}
use Rattle.read_ranges.specs.declared.range.ReadRange.{ReadRange}
use Rattle.read_ranges.specs.Ranges.{begins_after, between, ends_after, is_in, is_in_one, AreEarlier}
use Rattle.stretches.specs.Empty.{AreAhead, AreEmpty, AreEmptyBut, AreEndedBy, AreKept, AreLeft, AreNoMore, ArePut, BeginFrom, Fits, FitsIn, IsAheadOf, IsRightWay}
use Rattle.stretches.specs.declared.left.Left.TheVariants.{Without}
use Rattle.stretches.proofs.Alike.{one_has}
use Rattle.stretches.proofs.Order.{not_begun, not_ended, one_of_both, order_with, order_without, two_parts}

either : {A : Type 0} (p q : Bool) → (p ≡ true → A) → (q ≡ true → A) → (p || q) ≡ true → A
either true q f g h = f refl
either false q f g h = g h

one_of_first : (i : ℕ) (rs : List ReadRange) (x : Reference) → is_in_one (take i rs) x ≡ true → is_in_one rs x ≡ true
one_of_first zero rs x h = absurd (cc)
one_of_first (suc i) [] x h = h
one_of_first (suc i) (r ∷ rs) x h = either (is_in r x) (is_in_one (take i rs) x) (λ a. or_left (is_in r x) _ a) (λ b. or_right (is_in r x) _ (one_of_first i rs x b)) h

one_of_rest : (j : ℕ) (rs : List ReadRange) (x : Reference) → is_in_one (drop j rs) x ≡ true → is_in_one rs x ≡ true
one_of_rest zero rs x h = h
one_of_rest (suc j) [] x h = h
one_of_rest (suc j) (r ∷ rs) x h = or_right (is_in r x) _ (one_of_rest j rs x h)

pub was_one : (i j : ℕ) (rs : List ReadRange) (x : Reference) → (is_in_one (take i rs) x || is_in_one (drop j rs) x) ≡ true → is_in_one rs x ≡ true
was_one i j rs x = either (is_in_one (take i rs) x) (is_in_one (drop j rs) x) (one_of_first i rs x) (one_of_rest j rs x)

-- ---- what stands in them then

module _ (i j : ℕ) (old new : List ReadRange) where
  beside_both : new ≡ take i old ++ drop j old → (x : Reference) → is_in_one new x ≡ true → (is_in_one (take i old) x || is_in_one (drop j old) x) ≡ true
  beside_both is x h = sym (one_of_both (take i old) (drop j old) x) ∙ ap (λ l. is_in_one l x) (sym is) ∙ h

  pub fewer_without : new ≡ take i old ++ drop j old → (x : Reference) → is_in_one new x ≡ true → is_in_one old x ≡ true
  fewer_without is x h = was_one i j old x (beside_both is x h)

  module _ (more : ReadRange) where
    pub put_without : new ≡ take i old ++ drop j old → ArePut i j more old new
    put_without is x h = or_left (is_in_one (take i old) x || is_in_one (drop j old) x) _ (beside_both is x h)

    pub put_between : new ≡ take i old ++ more ∷ drop j old → ArePut i j more old new
    put_between is x h = turn (is_in_one (take i old) x) (is_in more x) (is_in_one (drop j old) x) (sym (one_of_both (take i old) (more ∷ drop j old) x) ∙ ap (λ l. is_in_one l x) (sym is) ∙ h)
      where
        turn : (a b c : Bool) → (a || (b || c)) ≡ true → ((a || c) || b) ≡ true
        turn true b c h = refl
        turn false true true h = refl
        turn false true false h = refl
        turn false false true h = refl
        turn false false false h = h

    pub no_more : ArePut i j more old new → AreNoMore more old new
    no_more put x h =
        either (is_in_one (take i old) x || is_in_one (drop j old) x) (is_in more x) (λ b. or_left (is_in_one old x) _ (was_one i j old x b)) (λ m. or_right (is_in_one old x) _ m) (put x h)

pub put_nowhere : (place : ℕ) (more : ReadRange) (old : List ReadRange) → ArePut place place more old old
put_nowhere place more old x h = or_left (is_in_one (take place old) x || is_in_one (drop place old) x) _ (sym (two_parts place old x) ∙ h)

pub no_more_of : (s : ReadRange) (old mid new : List ReadRange) → ((x : Reference) → is_in_one mid x ≡ true → is_in_one old x ≡ true) → AreNoMore s mid new → AreNoMore s old new
no_more_of s old mid new fewer more x h = either (is_in_one mid x) (is_in s x) (λ a. or_left (is_in_one old x) _ (fewer x a)) (λ b. or_right (is_in_one old x) _ b) (more x h)

pub alike_more : (s t : ReadRange) (old new : List ReadRange) → ((x : Reference) → is_in s x ≡ true → (is_in_one old x || is_in t x) ≡ true) → AreNoMore s old new → AreNoMore t old new
alike_more s t old new has more x h = either (is_in_one old x) (is_in s x) (λ a. or_left (is_in_one old x) _ a) (has x) (more x h)

-- ---- where a stretch fits

module _ (low high : Cut) (y : ReadRange) (begins : (x : Reference) → stands_before low x ≡ begins_after y x) (ends : (x : Reference) → stands_before high x ≡ ends_after y x) where
  pub right_way : AreEarlier low high → IsRightWay y
  right_way earlier x h = sym (ends x) ∙ earlier x (begins x ∙ h)

  ahead_of_it : (ss : List ReadRange) → AreEndedBy low ss → AreAhead ss y
  ahead_of_it [] all = tt
  ahead_of_it (s ∷ ss) all = ((λ x h. sym (begins x) ∙ all.0 x h), ahead_of_it ss all.1)

  ahead_of_them : (ss : List ReadRange) → BeginFrom high ss → IsAheadOf y ss
  ahead_of_them [] all = tt
  ahead_of_them (s ∷ ss) all = ((λ x h. all.0 x (ends x ∙ h)), ahead_of_them ss all.1)

  pub fits_in : (i j : ℕ) (rs : List ReadRange) → Fits i j low high rs → FitsIn i j y rs
  fits_in i j rs fits = record { before = ahead_of_it (take i rs) fits.before; behind = ahead_of_them (drop j rs) fits.behind }

-- ---- the parts of a stretch before a cut and behind one

module _ (s part : ReadRange) (begin end : Cut) (begins : (x : Reference) → stands_before begin x ≡ begins_after s x) (ends : (x : Reference) → stands_before end x ≡ ends_after s x) where
  pub before_cut : (low to : Cut) → AreEarlier to end → AreEarlier to low → ((x : Reference) → is_in part x ≡ between begin to x) → (x : Reference) → is_in part x ≡ true → (is_in s x && stands_before low x) ≡ true
  before_cut low to to_end to_low is x h =
      let both = sym (is x) ∙ h in
      let short = second_so (not (stands_before begin x)) _ both in
      and_from (is_in s x) _ (and_from (not (begins_after s x)) _ (ap not (sym (begins x)) ∙ first_so (not (stands_before begin x)) _ both) (sym (ends x) ∙ to_end x short)) (to_low x short)

  not_back : (p q : Bool) → (p ≡ true → q ≡ true) → not q ≡ true → not p ≡ true
  not_back false q f h = refl
  not_back true q f h = let t = f refl in absurd (cc)

  pub behind_cut : (high from : Cut) → AreEarlier begin from → AreEarlier high from → ((x : Reference) → is_in part x ≡ between from end x) → (x : Reference) → is_in part x ≡ true → (is_in s x && not (stands_before high x)) ≡ true
  behind_cut high from begin_from high_from is x h =
      let both = sym (is x) ∙ h in
      let late = first_so (not (stands_before from x)) _ both in
      and_from (is_in s x) _
      (and_from (not (begins_after s x)) _ (ap not (sym (begins x)) ∙ not_back (stands_before begin x) (stands_before from x) (begin_from x) late) (sym (ends x) ∙ second_so (not (stands_before from x)) _ both))
      (not_back (stands_before high x) (stands_before from x) (high_from x) late)

module _ (o : Option ReadRange) (s : ReadRange) (begin end : Cut) (begins : (x : Reference) → stands_before begin x ≡ begins_after s x) (ends : (x : Reference) → stands_before end x ≡ ends_after s x) where
  pub some_before : (low to : Cut) → AreEarlier to end → AreEarlier to low → IfSome o (λ part. (x : Reference) → is_in part x ≡ between begin to x)
      → IfSome o (λ part. (x : Reference) → is_in part x ≡ true → (is_in s x && stands_before low x) ≡ true)
  some_before low to to_end to_low is = by_part o is
    where
      by_part : (o : Option ReadRange) → IfSome o (λ part. (x : Reference) → is_in part x ≡ between begin to x) → IfSome o (λ part. (x : Reference) → is_in part x ≡ true → (is_in s x && stands_before low x) ≡ true)
      by_part None is = is
      by_part (Some part) is = before_cut s part begin end begins ends low to to_end to_low is

  pub some_behind : (high from : Cut) → AreEarlier begin from → AreEarlier high from → IfSome o (λ part. (x : Reference) → is_in part x ≡ between from end x)
      → IfSome o (λ part. (x : Reference) → is_in part x ≡ true → (is_in s x && not (stands_before high x)) ≡ true)
  some_behind high from begin_from high_from is = by_part o is
    where
      by_part : (o : Option ReadRange) → IfSome o (λ part. (x : Reference) → is_in part x ≡ between from end x) → IfSome o (λ part. (x : Reference) → is_in part x ≡ true → (is_in s x && not (stands_before high x)) ≡ true)
      by_part None is = is
      by_part (Some part) is = behind_cut s part begin end begins ends high from begin_from high_from is

-- ---- a stretch with those that it touches

-- b, f: x stands before the first's ends; c, e: before the last's; l, h: before the stretch's
joined_has : (b f c e l h : Bool) → (l ≡ true → f ≡ true) → (c ≡ true → h ≡ true) → (not (b && l) && (e || h)) ≡ true → (((not b && f) || (not c && e)) || (not l && h)) ≡ true
joined_has true f c e true h low high here = absurd (cc)
joined_has false f c e true h low high here = rw (low refl) refl
joined_has b f c e false true low high here = or_right ((not b && f) || (not c && e)) _ refl
joined_has b f true e false false low high here = let never = high refl in absurd (cc)
joined_has true f false true false false low high here = refl
joined_has false true false true false false low high here = refl
joined_has false false false true false false low high here = refl
joined_has true f false false false false low high here = absurd (cc)
joined_has false f false false false false low high here = absurd (cc)

module _ (first last stretch joined : ReadRange) (low high begin end first_end last_begin from to : Cut)
    (low_is : (x : Reference) → stands_before low x ≡ begins_after stretch x) (high_is : (x : Reference) → stands_before high x ≡ ends_after stretch x)
    (begin_is : (x : Reference) → stands_before begin x ≡ begins_after first x) (end_is : (x : Reference) → stands_before end x ≡ ends_after last x)
    (first_ends : (x : Reference) → stands_before first_end x ≡ ends_after first x) (last_begins : (x : Reference) → stands_before last_begin x ≡ begins_after last x)
    (touches_first : AreEarlier low first_end) (touches_last : AreEarlier last_begin high)
    (from_is : (x : Reference) → stands_before from x ≡ (stands_before begin x && stands_before low x)) (to_is : (x : Reference) → stands_before to x ≡ (stands_before end x || stands_before high x)) where
  pub joined_in : ((x : Reference) → is_in joined x ≡ between from to x) → (x : Reference) → is_in joined x ≡ true → ((is_in first x || is_in last x) || is_in stretch x) ≡ true
  joined_in is x h =
      joined_has (begins_after first x) (ends_after first x) (begins_after last x) (ends_after last x) (begins_after stretch x) (ends_after stretch x)
      (λ l. sym (first_ends x) ∙ touches_first x (low_is x ∙ l)) (λ c. sym (high_is x) ∙ touches_last x (last_begins x ∙ c))
      (sym (λ i. not (begin_is x i && low_is x i) && (end_is x i || high_is x i)) ∙ sym (λ i. not (from_is x i) && to_is x i) ∙ sym (is x) ∙ h)

-- one of the stretches
pub one_at : (rs all : List ReadRange) (i : ℕ) (s : ReadRange) → rs ≡ all → i < length rs → s ≡ get_or rs i s → (x : Reference) → is_in s x ≡ true → is_in_one all x ≡ true
one_at rs all i s same inside is x h = ap (λ l. is_in_one l x) (sym same) ∙ one_has rs i s inside is x h

pub has_more : (a b t : ReadRange) (old : List ReadRange) → ((x : Reference) → is_in a x ≡ true → is_in_one old x ≡ true) → ((x : Reference) → is_in b x ≡ true → is_in_one old x ≡ true)
    → (x : Reference) → ((is_in a x || is_in b x) || is_in t x) ≡ true → (is_in_one old x || is_in t x) ≡ true
has_more a b t old one two x = either (is_in a x || is_in b x) (is_in t x) (λ h. or_left (is_in_one old x) _ (either (is_in a x) (is_in b x) (one x) (two x) h)) (λ h. or_right (is_in_one old x) _ h)

-- ---- what doesn't lie between two cuts

module _ (i j : ℕ) (low high : Cut) (old : List ReadRange) (fits : Fits i j low high old) where
  beside_low : (l h : Bool) → l ≡ true → not (not l && h) ≡ true
  beside_low true h is = refl
  beside_low false h is = absurd (cc)

  beside_high : (l h : Bool) → h ≡ false → not (not l && h) ≡ true
  beside_high true h is = refl
  beside_high false false is = refl
  beside_high false true is = absurd (cc)

  beside_them : (x : Reference) → (is_in_one (take i old) x || is_in_one (drop j old) x) ≡ true → (is_in_one old x && not (between low high x)) ≡ true
  beside_them x h =
      and_from (is_in_one old x) _ (was_one i j old x h)
      (either (is_in_one (take i old) x) (is_in_one (drop j old) x)
      (λ a. beside_low (stands_before low x) (stands_before high x) (not_ended low (take i old) x fits.before a))
      (λ b. beside_high (stands_before low x) (stands_before high x) (not_begun high (drop j old) x fits.behind b)) h)

  pub left_all : i ≡ j → AreLeft low high old old
  left_all same x h = beside_them x (ap (λ k. is_in_one (take i old) x || is_in_one (drop k old) x) (sym same) ∙ sym (two_parts i old x) ∙ h)

  module _ (mid : List ReadRange) where
    pub left_without : mid ≡ take i old ++ drop j old → AreLeft low high old mid
    left_without is x h = beside_them x (beside_both i j old mid is x h)

    pub left_front : (s front : ReadRange) → ((x : Reference) → is_in s x ≡ true → is_in_one old x ≡ true)
        → ((x : Reference) → is_in front x ≡ true → (is_in s x && stands_before low x) ≡ true) → ArePut i j front old mid → AreLeft low high old mid
    left_front s front one is put x h =
        either (is_in_one (take i old) x || is_in_one (drop j old) x) (is_in front x) (beside_them x)
        (λ f. and_from (is_in_one old x) _ (one x (first_so (is_in s x) _ (is x f))) (beside_low (stands_before low x) (stands_before high x) (second_so (is_in s x) _ (is x f)))) (put x h)

    pub left_back : (new : List ReadRange) (s back : ReadRange) → ((x : Reference) → is_in s x ≡ true → is_in_one old x ≡ true)
        → ((x : Reference) → is_in back x ≡ true → (is_in s x && not (stands_before high x)) ≡ true) → AreLeft low high old mid → AreNoMore back mid new → AreLeft low high old new
    left_back new s back one is left more x h =
        either (is_in_one mid x) (is_in back x) (left x)
        (λ b. and_from (is_in_one old x) _ (one x (first_so (is_in s x) _ (is x b))) (beside_high (stands_before low x) (stands_before high x) (not_so (stands_before high x) (second_so (is_in s x) _ (is x b)))))
        (more x h)
      where
        not_so : (b : Bool) → not b ≡ true → b ≡ false
        not_so true h = absurd (cc)
        not_so false h = refl

-- c, l: x stands before the cut, and before the low end
late : (c l : Bool) → not (not c && l) ≡ true → c ≡ false → l ≡ false
late true l h is = absurd (cc)
late false true h is = absurd (cc)
late false false h is = refl

module _ (i : ℕ) (low high : Cut) (rs : List ReadRange) (fits : Fits i i low high rs) (x : Reference) where
  pub none_between : between low high x ≡ true → is_in_one rs x ≡ false
  none_between there = false_from_ne_true _ (λ h. let apart : not (between low high x) ≡ true = second_so (is_in_one rs x) _ (left_all i i low high rs fits refl x h) in absurd (cc))

  pub not_earlier : is_in_one rs x ≡ true → stands_before low x ≡ false → stands_before high x ≡ false
  not_earlier h is = late (stands_before low x) (stands_before high x) (second_so (is_in_one rs x) _ (left_all i i low high rs fits refl x h)) is

pub empty_out : (range : ReadRange) (low high : Cut) (old new : List ReadRange) → ((x : Reference) → stands_before low x ≡ begins_after range x) → ((x : Reference) → stands_before high x ≡ ends_after range x)
    → AreLeft low high old new → (m : Database) → AreEmptyBut (Without range) old m → AreEmpty new m
empty_out range low high old new begins ends left m but x h =
    but x (first_so (is_in_one old x) _ (left x h)) ((λ i. not (not (sym (begins x) i) && sym (ends x) i)) ∙ second_so (is_in_one old x) _ (left x h))

-- ---- they stay few and in order

shorter : (i j : ℕ) (rs : List ReadRange) → i ≤ j → length (take i rs ++ drop j rs) ≤ length rs
shorter zero zero rs le = omega arith
shorter zero (suc j) [] le = omega arith
shorter zero (suc j) (r ∷ rs) le = let l = shorter zero j rs (omega arith) in omega (arith, l)
shorter (suc i) zero rs le = absurd (omega (arith, le))
shorter (suc i) (suc j) [] le = omega arith
shorter (suc i) (suc j) (r ∷ rs) le = let l = shorter i j rs (omega (arith, le)) in omega (arith, l)

pub kept_without : (i j : ℕ) (old new : List ReadRange) → i ≤ j → AreKept old → new ≡ take i old ++ drop j old → AreKept new
kept_without i j old new le kept is = subst AreKept (sym is) (record {
  few = let l = shorter i j old le in let f = kept.few in omega (arith, l, f);
  ordered = order_without i j old le kept.ordered;
})

next : (i : ℕ) → i + 1 ≡ suc i
next i = omega arith

pub same_place : (i : ℕ) (y : ReadRange) (old mid : List ReadRange) (j : ℕ) → i < length old → i < j → mid ≡ take (i + 1) old ++ drop j old → slice_set mid i y ≡ take i old ++ y ∷ drop j old
same_place i y old mid j inside before is = ap (λ l. slice_set l i y) (is ∙ ap (λ n. take n old ++ drop j old) (next i)) ∙ set_between i y old (drop j old) inside
  where
    set_between : (i : ℕ) (y : ReadRange) (rs rest : List ReadRange) → i < length rs → slice_set (take (suc i) rs ++ rest) i y ≡ take i rs ++ y ∷ rest
    set_between i y [] rest inside = absurd (omega (arith, inside))
    set_between zero y (r ∷ rs) rest inside = refl
    set_between (suc i) y (r ∷ rs) rest inside = ap (λ l. r ∷ l) (set_between i y rs rest (omega (arith, inside)))

longer : (i j : ℕ) (y : ReadRange) (rs : List ReadRange) → length (take i rs ++ y ∷ drop j rs) ≡ suc (length (take i rs ++ drop j rs))
longer i j y rs = inside (take i rs) (drop j rs)
  where
    inside : (a b : List ReadRange) → length (a ++ y ∷ b) ≡ suc (length (a ++ b))
    inside [] b = refl
    inside (r ∷ a) b = ap suc (inside a b)

fewer_between : (i j : ℕ) (rs : List ReadRange) → i < j → j ≤ length rs → length (take i rs ++ drop j rs) < length rs
fewer_between i zero rs before within = absurd (omega (arith, before))
fewer_between i (suc j) [] before within = absurd (omega (arith, within))
fewer_between zero (suc j) (r ∷ rs) before within = let l = shorter zero j rs (omega arith) in omega (arith, l)
fewer_between (suc i) (suc j) (r ∷ rs) before within = let l = fewer_between i j rs (omega (arith, before)) (omega (arith, within)) in omega (arith, l)

module _ (i j : ℕ) (y : ReadRange) (old new : List ReadRange) where
  kept_with : i ≤ j → length (take i old ++ drop j old) < 1024 → AreKept old → IsRightWay y → FitsIn i j y old → new ≡ take i old ++ y ∷ drop j old → AreKept new
  kept_with le few kept right fits is = subst AreKept (sym is) (record {
    few = let l = longer i j y old in omega (arith, l, few);
    ordered = order_with i j y old le kept.ordered right fits.before fits.behind;
  })

  pub kept_between : i < j → j ≤ length old → AreKept old → IsRightWay y → FitsIn i j y old → new ≡ take i old ++ y ∷ drop j old → AreKept new
  kept_between before within kept = kept_with (omega (arith, before)) (let l = fewer_between i j old before within in let f = kept.few in omega (arith, l, f)) kept

pub kept_more : (i : ℕ) (y : ReadRange) (old new : List ReadRange) → length old < 1024 → AreKept old → IsRightWay y → FitsIn i i y old → new ≡ take i old ++ y ∷ drop i old → AreKept new
kept_more i y old new few kept = kept_with i i y old new (omega arith) (let l = shorter i i old (omega arith) in omega (arith, l, few)) kept
