-- What a range has once it took in what lies between two cuts, test by test.
use Rattle.std.proofs.Common.{◌≡◌, ℕ, ◌<◌, Bool, true, false, List, [], ◌∷◌, length, get_or, slice_set, arith, zero, suc, refl, sym, ap, subst, ◌∙◌}
use Rattle.std.specs.Prelude.{not, ◌&&◌, ◌||◌, Result, Ok, Err, IfOk}
use Rattle.collation.specs.Reference.{Reference}
use Rattle.read_ranges.specs.declared.range.ReadRange.{ReadRange}
use Rattle.read_ranges.specs.Ranges.{is_in, is_in_one}

-- l, h: x stands before the range's ends; a, b: before the two cuts. The first cut isn't after the range's end, nor its beginning
-- after the second: so nothing lies between the range and the cuts
pub joint_within : (l h a b : Bool) → (l ≡ true → a ≡ true) → (b ≡ true → h ≡ true) → (not l && h) ≡ ((not l && h) || (not a && b))
joint_within true h true b f g = refl
joint_within true h false b f g = let e = f refl in absurd (cc)
joint_within false true a b f g = refl
joint_within false false a true f g = let e = g refl in absurd (cc)
joint_within false false true false f g = refl
joint_within false false false false f g = refl

pub joint_higher : (l h a b : Bool) → (a ≡ true → h ≡ true) → (l ≡ true → a ≡ true) → (h ≡ true → b ≡ true) → (not l && b) ≡ ((not l && h) || (not a && b))
joint_higher true h true b o f g = refl
joint_higher true h false b o f g = let e = f refl in absurd (cc)
joint_higher false true a true o f g = refl
joint_higher false true a false o f g = let e = g refl in absurd (cc)
joint_higher false false true b o f g = let e = o refl in absurd (cc)
joint_higher false false false b o f g = refl

pub joint_lower : (l h a b : Bool) → (l ≡ true → b ≡ true) → (a ≡ true → l ≡ true) → (b ≡ true → h ≡ true) → (not a && h) ≡ ((not l && h) || (not a && b))
joint_lower l h true b o f g = lower l h (f refl)
  where
    lower : (l h : Bool) → l ≡ true → false ≡ ((not l && h) || false)
    lower true h e = refl
    lower false h e = absurd (cc)
joint_lower true true false b o f g = sym (o refl)
joint_lower true false false b o f g = let e : false ≡ true = g (o refl) in absurd (cc)
joint_lower false true false b o f g = refl
joint_lower false false false true o f g = let e = g refl in absurd (cc)
joint_lower false false false false o f g = refl

-- ---- one range of a list grows

or_more : (a b c : Bool) → ((a || c) || b) ≡ ((a || b) || c)
or_more true b c = refl
or_more false true true = refl
or_more false true false = refl
or_more false false c = or_none c
  where
    or_none : (c : Bool) → (c || false) ≡ c
    or_none true = refl
    or_none false = refl

or_assoc : (a b c : Bool) → (a || (b || c)) ≡ ((a || b) || c)
or_assoc true b c = refl
or_assoc false b c = refl

pub one_grown : (rs : List ReadRange) (i : ℕ) (old new : ReadRange) → i < length rs → old ≡ get_or rs i old → (x : Reference) (more : Bool)
    → is_in new x ≡ (is_in old x || more) → is_in_one (slice_set rs i new) x ≡ (is_in_one rs x || more)
one_grown [] i old new l e x more grown = absurd (omega arith)
one_grown (r ∷ rs) zero old new l e x more grown = ap (λ b. b || is_in_one rs x) (grown ∙ ap (λ (o : ReadRange). is_in o x || more) e) ∙ or_more (is_in r x) (is_in_one rs x) more
one_grown (r ∷ rs) (suc i) old new l e x more grown = ap (λ b. is_in r x || b) (one_grown rs i old new (omega arith) e x more grown) ∙ or_assoc (is_in r x) (is_in_one rs x) more

-- what one of them has is in the list
pub one_covers : (rs : List ReadRange) (i : ℕ) (r : ReadRange) → i < length rs → r ≡ get_or rs i r → (x : Reference) (more : Bool) → is_in r x ≡ (is_in r x || more) → is_in_one rs x ≡ (is_in_one rs x || more)
one_covers [] i r l e x more h = absurd (omega arith)
one_covers (q ∷ rs) zero r l e x more h = ap (λ b. b || is_in_one rs x) (subst (λ (o : ReadRange). is_in o x ≡ (is_in o x || more)) e h) ∙ or_more (is_in q x) (is_in_one rs x) more
one_covers (q ∷ rs) (suc i) r l e x more h = ap (λ b. is_in q x || b) (one_covers rs i r (omega arith) e x more h) ∙ or_assoc (is_in q x) (is_in_one rs x) more

-- where it did
pub one_grew : {E : Type 0} (result : Result Bool E) (rs : List ReadRange) (i : ℕ) (old new : ReadRange) (test : Reference → Bool) → i < length rs → old ≡ get_or rs i old
    → IfOk result (λ joined. joined ≡ true → (x : Reference) → is_in new x ≡ (is_in old x || test x))
    → IfOk result (λ joined. joined ≡ true → (x : Reference) → is_in_one (slice_set rs i new) x ≡ (is_in_one rs x || test x))
one_grew (Ok joined) rs i old new test l e h = λ j x. one_grown rs i old new l e x (test x) (h j x)
one_grew (Err e) rs i old new test l g h = h
