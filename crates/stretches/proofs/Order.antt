-- Stretches in order: what holds of the one next to a place holds of all on its side.
use Rattle.std.proofs.Common.{◌≡◌, ℕ, ◌<◌, ◌≤◌, Bool, true, false, List, [], ◌∷◌, ◌++◌, length, get_or, take, drop, zero, suc, arith, refl, sym, ap, ◌∙◌}
use Rattle.std.specs.Prelude.{not, ◌&&◌, ◌||◌}
use Rattle.collation.specs.Reference.{Reference}
use Rattle.globals.specs.declared.cut.Cut.{Cut}
use Rattle.globals.specs.Cuts.{stands_before}
use Rattle.read_ranges.specs.declared.range.ReadRange.{ReadRange}
use Rattle.read_ranges.specs.Ranges.{begins_after, ends_after, is_in, is_in_one}
use Rattle.stretches.specs.Empty.{IsRightWay, IsAhead, IsAheadOf, AreAhead, AreInOrder, AreEndedBy, BeginFrom}

-- ---- from one stretch to the next

through : (r s t : ReadRange) → IsAhead r s → IsRightWay s → IsAhead s t → IsAhead r t
through r s t first right second x h = second x (right x (first x h))

ahead_of_more : (r s : ReadRange) (ss : List ReadRange) → IsAhead r s → IsRightWay s → IsAheadOf s ss → IsAheadOf r ss
ahead_of_more r s [] first right rest = tt
ahead_of_more r s (t ∷ ss) first right rest = (through r s t first right rest.0, ahead_of_more r s ss first right rest.1)

ahead_at : (r : ReadRange) (rs : List ReadRange) (i : ℕ) (d : ReadRange) → i < length rs → IsAheadOf r rs → IsAhead r (get_or rs i d)
ahead_at r [] i d inside all = absurd (omega arith)
ahead_at r (s ∷ rs) zero d inside all = all.0
ahead_at r (s ∷ rs) (suc i) d inside all = ahead_at r rs i d (omega arith) all.1

right_at : (rs : List ReadRange) (i : ℕ) (d : ReadRange) → i < length rs → AreInOrder rs → IsRightWay (get_or rs i d)
right_at [] i d inside ordered = absurd (omega arith)
right_at (s ∷ rs) zero d inside ordered = ordered.0
right_at (s ∷ rs) (suc i) d inside ordered = right_at rs i d (omega arith) ordered.1.1

-- ---- those before a place end by a cut if the last of them does, and those from one on begin behind it if the first does

pub ended_by : (low : Cut) (rs : List ReadRange) (i : ℕ) (d : ReadRange) → i < length rs → AreInOrder rs → ((x : Reference) → ends_after (get_or rs i d) x ≡ true → stands_before low x ≡ true) → AreEndedBy low (take (suc i) rs)
ended_by low [] i d inside ordered ends = absurd (omega arith)
ended_by low (s ∷ rs) zero d inside ordered ends = (ends, tt)
ended_by low (s ∷ rs) (suc i) d inside ordered ends =
    ((λ x h. ends x (right_at rs i d (omega arith) ordered.1.1 x (ahead_at s rs i d (omega arith) ordered.1.0 x h))), ended_by low rs i d (omega arith) ordered.1.1 ends)

begin_behind : (high : Cut) (s : ReadRange) (ss : List ReadRange) → IsRightWay s → IsAheadOf s ss → ((x : Reference) → stands_before high x ≡ true → begins_after s x ≡ true) → BeginFrom high ss
begin_behind high s [] right all begins = tt
begin_behind high s (t ∷ ss) right all begins = ((λ x h. all.0 x (right x (begins x h))), begin_behind high s ss right all.1 begins)

pub begin_from : (high : Cut) (rs : List ReadRange) (i : ℕ) (d : ReadRange) → i < length rs → AreInOrder rs → ((x : Reference) → stands_before high x ≡ true → begins_after (get_or rs i d) x ≡ true) → BeginFrom high (drop i rs)
begin_from high [] i d inside ordered begins = absurd (omega arith)
begin_from high (s ∷ rs) zero d inside ordered begins = (begins, begin_behind high s rs ordered.0 ordered.1.0 begins)
begin_from high (s ∷ rs) (suc i) d inside ordered begins = begin_from high rs i d (omega arith) ordered.1.1 begins

-- ---- what stands in those

pub not_ended : (low : Cut) (rs : List ReadRange) (x : Reference) → AreEndedBy low rs → is_in_one rs x ≡ true → stands_before low x ≡ true
not_ended low [] x all h = absurd (cc)
not_ended low (s ∷ rs) x all h = by_first (begins_after s x) (ends_after s x) refl (not_ended low rs x all.1) h
  where
    by_first : (b e : Bool) → ends_after s x ≡ e → (is_in_one rs x ≡ true → stands_before low x ≡ true) → ((not b && e) || is_in_one rs x) ≡ true → stands_before low x ≡ true
    by_first b true is rest h = all.0 x is
    by_first true false is rest h = rest h
    by_first false false is rest h = rest h

pub not_begun : (high : Cut) (rs : List ReadRange) (x : Reference) → BeginFrom high rs → is_in_one rs x ≡ true → stands_before high x ≡ false
not_begun high [] x all h = absurd (cc)
not_begun high (s ∷ rs) x all h = by_side (stands_before high x) refl (not_begun high rs x all.1)
  where
    none_of : (b e : Bool) → b ≡ true → ((not b && e) || is_in_one rs x) ≡ true → is_in_one rs x ≡ true
    none_of true e is h = h
    none_of false e is h = absurd (cc)

    by_side : (t : Bool) → stands_before high x ≡ t → (is_in_one rs x ≡ true → stands_before high x ≡ false) → t ≡ false
    by_side false is rest = refl
    by_side true is rest = sym is ∙ rest (none_of (begins_after s x) (ends_after s x) (all.0 x is) h)

-- ---- two parts of a list

pub one_of_both : (a b : List ReadRange) (x : Reference) → is_in_one (a ++ b) x ≡ (is_in_one a x || is_in_one b x)
one_of_both [] b x = refl
one_of_both (r ∷ a) b x = ap (λ t. is_in r x || t) (one_of_both a b x) ∙ or_assoc (is_in r x) (is_in_one a x) (is_in_one b x)
  where
    or_assoc : (p q r : Bool) → (p || (q || r)) ≡ ((p || q) || r)
    or_assoc true q r = refl
    or_assoc false q r = refl

pub two_parts : (i : ℕ) (rs : List ReadRange) (x : Reference) → is_in_one rs x ≡ (is_in_one (take i rs) x || is_in_one (drop i rs) x)
two_parts zero rs x = refl
two_parts (suc i) [] x = refl
two_parts (suc i) (r ∷ rs) x = ap (λ t. is_in r x || t) (two_parts i rs x) ∙ or_assoc (is_in r x) (is_in_one (take i rs) x) (is_in_one (drop i rs) x)
  where
    or_assoc : (p q r : Bool) → (p || (q || r)) ≡ ((p || q) || r)
    or_assoc true q r = refl
    or_assoc false q r = refl

-- ---- what stays in order

ahead_of_part : (r : ReadRange) (i j : ℕ) (rs : List ReadRange) → IsAheadOf r rs → IsAheadOf r (take i rs ++ drop j rs)
ahead_of_part r zero zero rs all = all
ahead_of_part r zero (suc j) [] all = tt
ahead_of_part r zero (suc j) (s ∷ rs) all = ahead_of_part r zero j rs all.1
ahead_of_part r (suc i) zero [] all = tt
ahead_of_part r (suc i) (suc j) [] all = tt
ahead_of_part r (suc i) zero (s ∷ rs) all = (all.0, joined r (take i rs) (s ∷ rs) (front r i rs all.1) all)
  where
    front : (r : ReadRange) (i : ℕ) (rs : List ReadRange) → IsAheadOf r rs → IsAheadOf r (take i rs)
    front r zero rs all = tt
    front r (suc i) [] all = tt
    front r (suc i) (s ∷ rs) all = (all.0, front r i rs all.1)

    joined : (r : ReadRange) (a b : List ReadRange) → IsAheadOf r a → IsAheadOf r b → IsAheadOf r (a ++ b)
    joined r [] b first second = second
    joined r (s ∷ a) b first second = (first.0, joined r a b first.1 second)
ahead_of_part r (suc i) (suc j) (s ∷ rs) all = (all.0, ahead_of_part r i j rs all.1)

order_from : (j : ℕ) (rs : List ReadRange) → AreInOrder rs → AreInOrder (drop j rs)
order_from zero rs ordered = ordered
order_from (suc j) [] ordered = tt
order_from (suc j) (r ∷ rs) ordered = order_from j rs ordered.1.1

-- without those between two places
pub order_without : (i j : ℕ) (rs : List ReadRange) → i ≤ j → AreInOrder rs → AreInOrder (take i rs ++ drop j rs)
order_without zero j rs le ordered = order_from j rs ordered
order_without (suc i) zero rs le ordered = absurd (omega (arith, le))
order_without (suc i) (suc j) [] le ordered = tt
order_without (suc i) (suc j) (r ∷ rs) le ordered = (ordered.0, (ahead_of_part r i j rs ordered.1.0, order_without i j rs (omega (arith, le)) ordered.1.1))

ahead_of_new : (r y : ReadRange) (i j : ℕ) (rs : List ReadRange) → i ≤ j → IsAhead r y → IsAheadOf r rs → IsAheadOf r (take i rs ++ y ∷ drop j rs)
ahead_of_new r y zero j rs le new all = (new, ahead_of_part r zero j rs all)
ahead_of_new r y (suc i) zero rs le new all = absurd (omega (arith, le))
ahead_of_new r y (suc i) (suc j) [] le new all = (new, tt)
ahead_of_new r y (suc i) (suc j) (s ∷ rs) le new all = (all.0, ahead_of_new r y i j rs (omega (arith, le)) new all.1)

-- with one in place of them that fits there
pub order_with : (i j : ℕ) (y : ReadRange) (rs : List ReadRange) → i ≤ j → AreInOrder rs → IsRightWay y → AreAhead (take i rs) y → IsAheadOf y (drop j rs) → AreInOrder (take i rs ++ y ∷ drop j rs)
order_with zero j y rs le ordered right before behind = (right, (behind, order_from j rs ordered))
order_with (suc i) zero y rs le ordered right before behind = absurd (omega (arith, le))
order_with (suc i) (suc j) y [] le ordered right before behind = (right, (tt, tt))
order_with (suc i) (suc j) y (r ∷ rs) le ordered right before behind =
    (ordered.0, (ahead_of_new r y i j rs (omega (arith, le)) before.0 ordered.1.0, order_with i j y rs (omega (arith, le)) ordered.1.1 right before.1 behind))
