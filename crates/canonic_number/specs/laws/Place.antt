-- A number's place and digits say what it is worth, and what its text is.
use Rattle.std.proofs.Common.{◌≡◌, ℕ, ◌+◌, ◌-◌, ◌*◌, ◌^◌, ◌<◌, ◌≤◌, List, [], ◌∷◌, ◌++◌, length, not, true, false, refl, ap, sym, ◌∙◌, arith, suc, length-append, replicate}
use Rattle.std.proofs.Math.Nat.{pow-le-pow_right}
use Rattle.std.proofs.lemmas.Bool.{false≢true, and_from, eqb-true, lt-ltb, le-ltb}
use Rattle.std.proofs.lemmas.Bool.Decides.{nat_tests}
use Rattle.std.specs.Prelude.{◌==◌}
use Rattle.std.specs.List.{list_all}
use Rattle.std.specs.Char.{is_ascii_digit}
use Rattle.std.specs.declared.cmp.Ordering.{Ordering}
use Rattle.std.specs.declared.cmp.Ordering.TheVariants.{Less, Greater}
use Rattle.std.specs.Ordering.{nat_cmp, ordering_then}
use Rattle.std.specs.Cmp.{ranked, nat_cmp_is, first_so}
use Rattle.std.proofs.lemmas.Cmp.{by_ranked}
use Rattle.std.specs.Cmp.Lexicographic.{slice_cmp}
use Rattle.canonic_number.specs.Number.{worth, begins_with_0}
use Rattle.canonic_number.specs.Parts.{AreDigits, is_ended}
use Rattle.canonic_number.specs.Place.{first_zeros, after_zeros, before, before_zeros, significant, point_of, with_point, pointed, written_at}
use Rattle.canonic_number.specs.laws.Digits.{head_digit, tail_digits, digits-append, worth-lt, worth-ge, fractions_cmp, unsigned_above_0}

-- a test of 48, with what it says
pub at_zero : {R : Type 0} (d : ℕ) → ((d == 48) ≡ true → d ≡ 48 → R) → ((d == 48) ≡ false → R) → R
at_zero {R = R} d is not_so = elim (d == 48) as (λ u. (d == 48) ≡ u → R) [ true ↦ λ e. is e (eqb-true d 48 e) | false ↦ λ e. not_so e ] refl

-- zeros at the front only move the place
pub worth-after_zeros : (n : ℕ) (ds : List ℕ) → worth n ds ≡ worth (n - first_zeros ds) (after_zeros ds)
worth-after_zeros n [] = refl
worth-after_zeros n (d ∷ ds) =
    at_zero d
    (λ e h. let rest = worth-after_zeros (n - 1) ds in
    let none : (d - 48) * 10 ^ (n - 1) ≡ 0 = ap (λ z. (z - 48) * 10 ^ (n - 1)) h ∙ omega arith in
    let less : n - 1 - first_zeros ds ≡ n - suc (first_zeros ds) = omega arith in
    let all : worth n (d ∷ ds) ≡ worth (n - suc (first_zeros ds)) (after_zeros ds) = omega (arith, none, rest, ap (λ i. worth i (after_zeros ds)) less) in
    rw e all)
    (λ e. let same : n ≡ n - 0 = omega arith in rw e (ap (λ i. worth i (d ∷ ds)) same))

worth-before : (n d : ℕ) (es : List ℕ) → worth n (before d es) ≡ (d - 48) * 10 ^ (n - 1) + worth (n - 1) es
worth-before n d [] =
    at_zero d
    (λ e h. rw (e, h) (omega arith))
    (λ e. rw e refl)
worth-before n d (x ∷ es) = refl

-- zeros at the end are worth nothing
pub worth-before_zeros : (n : ℕ) (ds : List ℕ) → worth n (before_zeros ds) ≡ worth n ds
worth-before_zeros n [] = refl
worth-before_zeros n (d ∷ ds) = omega (arith, worth-before n d (before_zeros ds), worth-before_zeros (n - 1) ds)

pub after_zeros-digits : (ds : List ℕ) → list_all is_ascii_digit ds ≡ true → list_all is_ascii_digit (after_zeros ds) ≡ true
after_zeros-digits [] e = refl
after_zeros-digits (d ∷ ds) e = at_zero d (λ t h. rw t (after_zeros-digits ds (tail_digits d ds e))) (λ t. rw t e)

before-digits : (d : ℕ) (es : List ℕ) → is_ascii_digit d ≡ true → list_all is_ascii_digit es ≡ true → list_all is_ascii_digit (before d es) ≡ true
before-digits d [] e h = at_zero d (λ t _. rw t refl) (λ t. rw t (and_from _ _ e refl))
before-digits d (x ∷ es) e h = and_from _ _ e h

pub before_zeros-digits : (ds : List ℕ) → list_all is_ascii_digit ds ≡ true → list_all is_ascii_digit (before_zeros ds) ≡ true
before_zeros-digits [] e = refl
before_zeros-digits (d ∷ ds) e = before-digits d (before_zeros ds) (first_so _ _ e) (before_zeros-digits ds (tail_digits d ds e))

before-ended : (d : ℕ) (es : List ℕ) → is_ended es ≡ true → is_ended (before d es) ≡ true
before-ended d [] e = at_zero d (λ t _. rw t refl) (λ t. rw (t, t) refl)
before-ended d (x ∷ es) e = e

pub before_zeros-ended : (ds : List ℕ) → is_ended (before_zeros ds) ≡ true
before_zeros-ended [] = refl
before_zeros-ended (d ∷ ds) = before-ended d (before_zeros ds) (before_zeros-ended ds)

before-begins : (d : ℕ) (es : List ℕ) → (d == 48) ≡ false → begins_with_0 (before d es) ≡ false
before-begins d [] e = rw (e, e) refl
before-begins d (x ∷ es) e = e

pub significant-begins : (ds : List ℕ) → begins_with_0 (significant ds) ≡ false
significant-begins [] = refl
significant-begins (d ∷ ds) = at_zero d (λ t _. rw t (significant-begins ds)) (λ t. rw t (before-begins d (before_zeros ds) t))

length-before : (d : ℕ) (es : List ℕ) → length (before d es) ≤ suc (length es)
length-before d [] = at_zero d (λ t _. rw t (omega arith)) (λ t. rw t (omega arith))
length-before d (x ∷ es) = omega arith

pub length-before_zeros : (ds : List ℕ) → length (before_zeros ds) ≤ length ds
length-before_zeros [] = omega arith
length-before_zeros (d ∷ ds) = omega (arith, length-before d (before_zeros ds), length-before_zeros ds)

pub length-after_zeros : (ds : List ℕ) → first_zeros ds + length (after_zeros ds) ≡ length ds
length-after_zeros [] = omega arith
length-after_zeros (d ∷ ds) = at_zero d (λ t _. rw t (omega (arith, length-after_zeros ds))) (λ t. rw t (omega arith))

-- digits of a number, the first and the last not zero, and its place
pub record ArePlacedDigits (place : ℕ) (ds : List ℕ) : Type 0 where
  pub digits : list_all is_ascii_digit ds ≡ true
  pub begins : begins_with_0 ds ≡ false
  pub ends : is_ended ds ≡ true
  pub some : 0 < length ds
  pub within : length ds ≤ place

pub worth-placed : (k : ℕ) (w f : List ℕ) → worth (length w + k) (w ++ f) ≡ worth (point_of k w f) (significant (w ++ f))
worth-placed k w f = worth-after_zeros (length w + k) (w ++ f) ∙ sym (worth-before_zeros (point_of k w f) (after_zeros (w ++ f)))

some_worth : (n : ℕ) (ds : List ℕ) → 0 < worth n ds → 0 < length ds
some_worth n [] h = absurd (omega arith)
some_worth n (d ∷ ds) h = omega arith

pub placed : (k : ℕ) (w f : List ℕ) → AreDigits w f → 0 < length w + length f → length f ≤ k → ArePlacedDigits (point_of k w f) (significant (w ++ f))
placed k w f a some short =
    let digits = digits-append w f a.whole_digits a.fraction_digits in
    let above : 0 < worth (point_of k w f) (significant (w ++ f)) = omega (arith, unsigned_above_0 k w f a some, worth-placed k w f) in
    record {
      digits = before_zeros-digits (after_zeros (w ++ f)) (after_zeros-digits (w ++ f) digits);
      begins = significant-begins (w ++ f);
      ends = before_zeros-ended (after_zeros (w ++ f));
      some = some_worth _ _ above;
      within = omega (arith, length-before_zeros (after_zeros (w ++ f)), length-after_zeros (w ++ f), length-append w f);
    }

-- the place decides, and then the digits
further : (m n : ℕ) (ds es : List ℕ) → ArePlacedDigits m ds → ArePlacedDigits n es → m < n → worth m ds < worth n es
further m n ds [] a b l = absurd (omega (arith, b.some))
further m n ds (e ∷ es) a b l =
    let is = head_digit e es b.digits in
    let above : 48 < e = grind (arith, nat_tests, is.low, b.begins) in
    let low : worth m ds < 10 ^ m = worth-lt m ds a.digits a.within in
    let ten : 0 < 10 = omega arith in
    let up : 10 ^ m ≤ 10 ^ (n - 1) = pow-le-pow_right ten (omega arith) in
    omega (arith, worth-ge n e es above)

pub placed_cmp : (m n : ℕ) (ds es : List ℕ) → ArePlacedDigits m ds → ArePlacedDigits n es → ordering_then (nat_cmp m n) (slice_cmp nat_cmp ds es) ≡ nat_cmp (worth m ds) (worth n es)
placed_cmp m n ds es a b =
    let rest : Ordering = slice_cmp nat_cmp ds es in
    by_ranked _ _ _ (nat_cmp m n) (ranked m n _ refl)
    (λ r l. ap (λ o. ordering_then o rest) r ∙ nat_cmp_is _ _ Less (further m n ds es a b l))
    (λ r l. ap (λ o. ordering_then o rest) r ∙ fractions_cmp m ds es a.digits b.digits a.ends b.ends a.within (omega (arith, b.within))
    ∙ ap (λ i. nat_cmp (worth m ds) (worth i es)) l)
    (λ r l. ap (λ o. ordering_then o rest) r ∙ nat_cmp_is _ _ Greater (further n m es ds b a l))

-- the text, from the place and the digits
pointed-before : (n d : ℕ) (es : List ℕ) → pointed (suc n) (before d es) ≡ d ∷ pointed n es
pointed-before n d [] = at_zero d (λ t h. rw (t, h) refl) (λ t. rw t refl)
pointed-before n d (x ∷ es) = refl

pub before_zeros-same : (f : List ℕ) → is_ended f ≡ true → before_zeros f ≡ f
before_zeros-same [] e = refl
before_zeros-same (d ∷ []) e = at_zero d (λ t h. absurd (false≢true (ap not (sym t) ∙ e))) (λ t. rw t refl)
before_zeros-same (d ∷ c ∷ f) e = ap (before d) (before_zeros-same (c ∷ f) e)

pub pointed-whole : (w f : List ℕ) → is_ended f ≡ true → pointed (length w) (before_zeros (w ++ f)) ≡ w ++ with_point f
pointed-whole [] f e = ap with_point (before_zeros-same f e)
pointed-whole (d ∷ w) f e = pointed-before (length w) d (before_zeros (w ++ f)) ∙ ap (λ t. d ∷ t) (pointed-whole w f e)

pub after_zeros-same : (ds : List ℕ) → begins_with_0 ds ≡ false → after_zeros ds ≡ ds
after_zeros-same [] e = refl
after_zeros-same (d ∷ ds) e = rw e refl

pub first_zeros-none : (ds : List ℕ) → begins_with_0 ds ≡ false → first_zeros ds ≡ 0
first_zeros-none [] e = refl
first_zeros-none (d ∷ ds) e = rw e refl

zeros_back : (ds : List ℕ) → replicate (first_zeros ds) 48 ++ after_zeros ds ≡ ds
zeros_back [] = refl
zeros_back (d ∷ ds) = at_zero d (λ t h. rw (t, h) (ap (λ x. 48 ∷ x) (zeros_back ds))) (λ t. rw t refl)

pub after_zeros-ended : (ds : List ℕ) → is_ended ds ≡ true → is_ended (after_zeros ds) ≡ true
after_zeros-ended [] e = refl
after_zeros-ended (d ∷ []) e = at_zero d (λ t h. rw t refl) (λ t. rw (t, t) refl)
after_zeros-ended (d ∷ c ∷ ds) e = at_zero d (λ t h. rw t (after_zeros-ended (c ∷ ds) e)) (λ t. rw t e)

pub written_back : (k : ℕ) (w f : List ℕ) → AreDigits w f → 0 < length w + length f → length f ≤ k → written_at k (point_of k w f) (significant (w ++ f)) ≡ w ++ with_point f
written_back k [] [] a some short = absurd (omega arith)
written_back k [] (d ∷ f) a some short =
    let low : length {A = ℕ} [] + k - first_zeros (d ∷ f) ≤ k = omega arith in
    let zeros : k - (length {A = ℕ} [] + k - first_zeros (d ∷ f)) ≡ first_zeros (d ∷ f) = omega (arith, length-after_zeros (d ∷ f)) in
    let same : before_zeros (after_zeros (d ∷ f)) ≡ after_zeros (d ∷ f) = before_zeros-same _ (after_zeros-ended (d ∷ f) a.ends) in
    rw (le-ltb _ _ low, zeros, same) (ap (λ t. 46 ∷ t) (zeros_back (d ∷ f)))
written_back k (d ∷ w) f a some short =
    let begins : begins_with_0 (d ∷ w ++ f) ≡ false = a.begins in
    let none : first_zeros (d ∷ w ++ f) ≡ 0 = first_zeros-none (d ∷ w ++ f) begins in
    let place : length (d ∷ w) + k - first_zeros (d ∷ w ++ f) ≡ length (d ∷ w) + k = omega arith in
    let high : k < length (d ∷ w) + k = omega arith in
    let back : length (d ∷ w) + k - k ≡ length (d ∷ w) = omega arith in
    let same : after_zeros (d ∷ w ++ f) ≡ d ∷ w ++ f = after_zeros-same (d ∷ w ++ f) begins in
    rw (place, lt-ltb _ _ high, back, same) (pointed-whole (d ∷ w) f a.ends)
