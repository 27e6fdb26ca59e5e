-- Two numbers in columns: what they are worth there, that nothing is carried off the first column, and signs.
use Rattle.std.proofs.Common.{◌≡◌, ℕ, suc, ◌+◌, ◌-◌, ◌*◌, ◌^◌, ◌<◌, ◌≤◌, Bool, true, false, List, ◌++◌, length, replicate, refl, sym, ap, ◌∙◌, arith, length-append, append_assoc, append-nil, max, take, drop}
use Rattle.std.proofs.Math.IntN.{neg_ℤ-+ℤ}
use Rattle.std.proofs.Math.Nat.{pow-suc, pow-le-pow_right}
use Rattle.std.proofs.lemmas.Int.{ints}
use Rattle.std.proofs.lemmas.List.{length-replicate, drop_all, take_all}
use Rattle.std.specs.Bool.{beq}
use Rattle.std.specs.declared.cmp.Ordering.{Ordering}
use Rattle.std.specs.declared.cmp.Ordering.TheVariants.{Less, Equal, Greater}
use Rattle.std.specs.Ordering.{MatchOrdering, nat_cmp, ordering_then}
use Rattle.std.specs.Cmp.{ranked}
use Rattle.std.specs.Cmp.Lexicographic.{slice_cmp}
use Rattle.std.specs.Prelude.{ℤ, pos, neg_ℤ, ◌+ℤ◌}
use Rattle.std.specs.List.{list_all}
use Rattle.std.specs.Char.{is_ascii_digit}
use Rattle.canonic_number.specs.Number.{worth}
use Rattle.canonic_number.specs.Parts.{AreDigits, unsigned_at}
use Rattle.canonic_number.specs.declared.read.Numeral.{Numeral}
use Rattle.canonic_number.specs.laws.Digits.{digits-append, worth-lt, magnitudes_cmp}
use Rattle.decimal_sum.specs.Front.{with_sign}
use Rattle.decimal_sum.specs.Columns.{one_if, in_columns}
use Rattle.decimal_sum.specs.Sums.{IsTextOf, parted}
use Rattle.decimal_sum.specs.laws.Texts.{parted_text}
use Rattle.decimal_sum.specs.laws.Worth.{worth_zeros_front, worth_zeros_back, zeros_are_digits}

pub columns_length : (w f : ℕ) (n : Numeral) → length n.whole.now ≤ w → length n.fraction.now ≤ f → length (in_columns w f n) ≡ w + f
columns_length w f n before after =
    omega (
      arith,
      length-append (replicate (w - length n.whole.now) 48 ++ n.whole.now) (n.fraction.now ++ replicate (f - length n.fraction.now) 48),
      length-append (replicate (w - length n.whole.now) 48) n.whole.now,
      length-append n.fraction.now (replicate (f - length n.fraction.now) 48),
      length-replicate {A = ℕ} (w - length n.whole.now) 48,
      length-replicate {A = ℕ} (f - length n.fraction.now) 48,
    )

pub columns_digits : (w f : ℕ) (n : Numeral) → AreDigits n.whole.now n.fraction.now → list_all is_ascii_digit (in_columns w f n) ≡ true
columns_digits w f n are =
    digits-append (replicate (w - length n.whole.now) 48 ++ n.whole.now) (n.fraction.now ++ replicate (f - length n.fraction.now) 48)
    (digits-append (replicate (w - length n.whole.now) 48) n.whole.now (zeros_are_digits (w - length n.whole.now)) are.whole_digits)
    (digits-append n.fraction.now (replicate (f - length n.fraction.now) 48) are.fraction_digits (zeros_are_digits (f - length n.fraction.now)))

pub columns_worth : (w f k : ℕ) (n : Numeral) → length n.whole.now ≤ w → worth (w + k) (in_columns w f n) ≡ unsigned_at k n
columns_worth w f k n before =
    let place : w + k ≡ length n.whole.now + k + (w - length n.whole.now) = omega arith in
    ap (λ i. worth i (in_columns w f n)) place
    ∙ ap (worth (length n.whole.now + k + (w - length n.whole.now))) (append_assoc (replicate (w - length n.whole.now) 48) n.whole.now (n.fraction.now ++ replicate (f - length n.fraction.now) 48))
    ∙ worth_zeros_front (length n.whole.now + k) (w - length n.whole.now) (n.whole.now ++ (n.fraction.now ++ replicate (f - length n.fraction.now) 48))
    ∙ ap (worth (length n.whole.now + k)) (sym (append_assoc n.whole.now n.fraction.now (replicate (f - length n.fraction.now) 48)))
    ∙ worth_zeros_back (length n.whole.now + k) (f - length n.fraction.now) (n.whole.now ++ n.fraction.now)

-- which is less, without the signs
abbrev order_of : Numeral → Numeral → Ordering
order_of a b = ordering_then (nat_cmp (length a.whole.now) (length b.whole.now)) (ordering_then (slice_cmp nat_cmp a.whole.now b.whole.now) (slice_cmp nat_cmp a.fraction.now b.fraction.now))

is_order : (k : ℕ) (a b : Numeral) (o : Ordering) → o ≡ order_of a b → AreDigits a.whole.now a.fraction.now → AreDigits b.whole.now b.fraction.now → length a.fraction.now ≤ k → length b.fraction.now ≤ k →
    MatchOrdering o (unsigned_at k a < unsigned_at k b) (unsigned_at k a ≡ unsigned_at k b) (unsigned_at k b < unsigned_at k a)
is_order k a b o e are be h h' = ranked (unsigned_at k a) (unsigned_at k b) o (e ∙ magnitudes_cmp k a.whole.now a.fraction.now b.whole.now b.fraction.now are be h h')

pub less_of : (k : ℕ) (a b : Numeral) (o : Ordering) → o ≡ order_of a b → o ≡ Less → AreDigits a.whole.now a.fraction.now → AreDigits b.whole.now b.fraction.now → length a.fraction.now ≤ k → length b.fraction.now ≤ k → unsigned_at k a ≤ unsigned_at k b
less_of k a b o e less are be h h' = at o (is_order k a b o e are be h h') less
  where
    at : (o : Ordering) → MatchOrdering o (unsigned_at k a < unsigned_at k b) (unsigned_at k a ≡ unsigned_at k b) (unsigned_at k b < unsigned_at k a) → o ≡ Less → unsigned_at k a ≤ unsigned_at k b
    at Less m l = omega (arith, m)
    at Equal m l = omega (arith, m)
    at Greater m l = cc

pub other_of : (k : ℕ) (a b : Numeral) (o : Ordering) → o ≡ order_of a b → (o ≡ Less → ⊥) → AreDigits a.whole.now a.fraction.now → AreDigits b.whole.now b.fraction.now → length a.fraction.now ≤ k → length b.fraction.now ≤ k → unsigned_at k b ≤ unsigned_at k a
other_of k a b o e other are be h h' = at o (is_order k a b o e are be h h') other
  where
    at : (o : Ordering) → MatchOrdering o (unsigned_at k a < unsigned_at k b) (unsigned_at k a ≡ unsigned_at k b) (unsigned_at k b < unsigned_at k a) → (o ≡ Less → ⊥) → unsigned_at k b ≤ unsigned_at k a
    at Less m l = absurd (l refl)
    at Equal m l = omega (arith, m)
    at Greater m l = omega (arith, m)

-- the bound of a number in columns, the first of which it leaves free
bound : (w k : ℕ) (n : Numeral) → AreDigits n.whole.now n.fraction.now → length n.whole.now + 1 ≤ w → length n.fraction.now ≤ k → unsigned_at k n < 10 ^ (w - 1 + k)
bound w k n are before within =
    let ten : 0 < 10 = omega arith in
    let low : unsigned_at k n < 10 ^ (length n.whole.now + k) = worth-lt (length n.whole.now + k) (n.whole.now ++ n.fraction.now) (digits-append n.whole.now n.fraction.now are.whole_digits are.fraction_digits) (omega (arith, length-append n.whole.now n.fraction.now)) in
    let up : 10 ^ (length n.whole.now + k) ≤ 10 ^ (w - 1 + k) = pow-le-pow_right ten (omega arith) in
    omega (arith, low, up)

ten_times : (w k : ℕ) → 0 < w → 10 ^ (w + k) ≡ 10 ^ (w - 1 + k) * 10
ten_times w k h = let e : w + k ≡ suc (w - 1 + k) = omega arith in ap (λ i. 10 ^ i) e ∙ pow-suc 10 (w - 1 + k)

-- so nothing is carried off the first column, and nothing borrowed from before it
not_carried : (c : Bool) (p n a b : ℕ) → n + one_if c * (p * 10) ≡ a + b → a < p → b < p → n ≡ a + b
not_carried true p n a b e h h' = absurd (omega (arith, e, h, h'))
not_carried false p n a b e h h' = omega (arith, e)

not_borrowed : (c : Bool) (p n a b : ℕ) → n + b ≡ a + one_if c * p → n < p → b ≤ a → n ≡ a - b
not_borrowed true p n a b e h h' = absurd (omega (arith, e, h, h'))
not_borrowed false p n a b e h h' = omega (arith, e)

-- the text of a sum in columns, and of a difference
pub added_text : (s c : Bool) (w f : ℕ) (a b : Numeral) (ds : List ℕ) → AreDigits a.whole.now a.fraction.now → AreDigits b.whole.now b.fraction.now →
    w ≡ max (length a.whole.now) (length b.whole.now) + 1 → f ≡ max (length a.fraction.now) (length b.fraction.now) →
    length ds ≡ length (in_columns w f a) → list_all is_ascii_digit ds ≡ true →
    ((n : ℕ) → length (in_columns w f a) ≤ n → worth n ds + one_if c * 10 ^ n ≡ worth n (in_columns w f a) + worth n (in_columns w (length (in_columns w f a) - w) b)) →
    IsTextOf (parted s w ds) (max (length a.fraction.now) (length b.fraction.now)) (λ k. with_sign s (unsigned_at k a + unsigned_at k b))
added_text s c w f a b ds are be whole fraction size digits value =
    let all : length (in_columns w f a) ≡ w + f = columns_length w f a (omega arith) (omega arith) in
    let is = parted_text s w f ds (size ∙ all) digits in
    record {
      canonic = is.canonic;
      value = λ k h.
          let sum = value (w + k) (omega (arith, all, fraction, h)) in
          let first = columns_worth w f k a (omega (arith, whole)) in
          let second = columns_worth w (length (in_columns w f a) - w) k b (omega (arith, whole)) in
          let both : worth (w + k) ds + one_if c * (10 ^ (w - 1 + k) * 10) ≡ unsigned_at k a + unsigned_at k b = ap (λ t. worth (w + k) ds + one_if c * t) (sym (ten_times w k (omega (arith, whole)))) ∙ sum ∙ ap (λ t. t + worth (w + k) (in_columns w (length (in_columns w f a) - w) b)) first ∙ ap (λ t. unsigned_at k a + t) second in
          is.value k (omega (arith, fraction, h)) ∙ ap (with_sign s) (not_carried c (10 ^ (w - 1 + k)) (worth (w + k) ds) (unsigned_at k a) (unsigned_at k b) both (bound w k a are (omega (arith, whole)) (omega (arith, h))) (bound w k b be (omega (arith, whole)) (omega (arith, h))));
      short = omega (arith, is.short, fraction);
    }

pub taken_text : (s c : Bool) (w f : ℕ) (a b : Numeral) (ds : List ℕ) → AreDigits a.whole.now a.fraction.now → AreDigits b.whole.now b.fraction.now →
    w ≡ max (length a.whole.now) (length b.whole.now) + 1 → f ≡ max (length a.fraction.now) (length b.fraction.now) →
    length ds ≡ length (in_columns w f a) → list_all is_ascii_digit ds ≡ true →
    ((n : ℕ) → length (in_columns w f a) ≤ n → worth n ds + worth n (in_columns w (length (in_columns w f a) - w) b) ≡ worth n (in_columns w f a) + one_if c * 10 ^ n) →
    ((k : ℕ) → length a.fraction.now ≤ k → length b.fraction.now ≤ k → unsigned_at k b ≤ unsigned_at k a) →
    IsTextOf (parted s w ds) (max (length a.fraction.now) (length b.fraction.now)) (λ k. with_sign s (unsigned_at k a - unsigned_at k b))
taken_text s c w f a b ds are be whole fraction size digits value less =
    let all : length (in_columns w f a) ≡ w + f = columns_length w f a (omega arith) (omega arith) in
    let is = parted_text s w f ds (size ∙ all) digits in
    record {
      canonic = is.canonic;
      value = λ k h.
          let first = columns_worth w f k a (omega (arith, whole)) in
          let second = columns_worth w (length (in_columns w f a) - w) k b (omega (arith, whole)) in
          let both : worth (w + k) ds + unsigned_at k b ≡ unsigned_at k a + one_if c * 10 ^ (w + k) = ap (λ t. worth (w + k) ds + t) (sym second) ∙ value (w + k) (omega (arith, all, fraction, h)) ∙ ap (λ t. t + one_if c * 10 ^ (w + k)) first in
          is.value k (omega (arith, fraction, h)) ∙ ap (with_sign s) (not_borrowed c (10 ^ (w + k)) (worth (w + k) ds) (unsigned_at k a) (unsigned_at k b) both (worth-lt (w + k) ds digits (omega (arith, size, all, fraction, h))) (less k (omega (arith, h)) (omega (arith, h))));
      short = omega (arith, is.short, fraction);
    }

-- a whole list written back
pub written_back : (new old : List ℕ) (n : ℕ) → length new ≡ length old → length old ≡ n → take n (new ++ drop (length new) old) ≡ new
written_back new old n e h =
    ap (λ t. take n (new ++ t)) (drop_all (length new) old (omega (arith, e))) ∙ ap (take n) (append-nil new) ∙ take_all n new (omega (arith, e, h))

-- signs
pub one_sign : (s t : Bool) (x y : ℕ) → beq s t ≡ true → with_sign s (x + y) ≡ with_sign s x +ℤ with_sign t y
one_sign true true x y e = neg_ℤ-+ℤ (pos x) (pos y)
one_sign false false x y e = refl
one_sign true false x y e = cc
one_sign false true x y e = cc

off_below : (d y : ℕ) → neg_ℤ (pos d) ≡ neg_ℤ (pos (d + y)) +ℤ pos y
off_below d y = omega (arith, ints)

off_above : (d y : ℕ) → pos d ≡ pos (d + y) +ℤ neg_ℤ (pos y)
off_above d y = omega (arith, ints)

pub two_signs : (s t : Bool) (x y : ℕ) → beq s t ≡ false → y ≤ x → with_sign s (x - y) ≡ with_sign s x +ℤ with_sign t y
two_signs true true x y n h = cc
two_signs false false x y n h = cc
two_signs true false x y n h = let e : x - y + y ≡ x = omega arith in off_below (x - y) y ∙ ap (λ z. neg_ℤ (pos z) +ℤ pos y) e
two_signs false true x y n h = let e : x - y + y ≡ x = omega arith in off_above (x - y) y ∙ ap (λ z. pos z +ℤ neg_ℤ (pos y)) e

pub turned : (s t : Bool) → beq s t ≡ false → beq t s ≡ false
turned true true e = e
turned true false e = e
turned false true e = e
turned false false e = e

-- the same text, told by another value that it has
pub retold : (text : List ℕ) (from upto : ℕ) (v u : ℕ → ℤ) → from ≤ upto → ((k : ℕ) → upto ≤ k → v k ≡ u k) → IsTextOf text from v → IsTextOf text upto u
retold text from upto v u within same is = record {
  canonic = is.canonic;
  value = λ k h. is.value k (omega (arith, h)) ∙ same k h;
  short = omega (arith, is.short);
}
