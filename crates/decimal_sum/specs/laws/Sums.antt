-- The one text of the number that a text begins with, and of a sum; and that both are right whatever the texts are.
use Rattle.std.proofs.Common.{◌≡◌, ℕ, ◌+◌, ◌-◌, ◌*◌, ◌^◌, ◌≤◌, Bool, true, false, List, [], ◌∷◌, ◌++◌, length, sym, subst, ap, ◌∙◌, arith, suc, zero, max, length-append}
use Rattle.std.proofs.Math.IntN.{+ℤ_comm}
use Rattle.std.proofs.Math.Nat.{pow-suc}
use Rattle.std.proofs.lemmas.Int.{ints}
use Rattle.std.specs.Prelude.{◌+ℤ◌, ◌*ℤ◌, ℤ, pos, neg_ℤ}
use Rattle.canonic_number.specs.Number.{is_negative, magnitude, whole_part, fraction_part, value_at, worth}
use Rattle.decimal_sum.specs.Front.{number_at, front_whole, front_fraction, is_negated, with_sign}
use Rattle.decimal_sum.specs.Sums.{IsTextOf, number_of, sum_of, sum_scale, text_at}
use Rattle.decimal_sum.specs.Statements.{NumbersAreRight, OneNumber, SumsAreRight, OneSum, SumsTurn, SumsInAnyOrder, CanonicTextsAreTheirNumbers, CanonicTextsStay, CanonicTextsAreAdded}
use Rattle.decimal_sum.specs.laws.Texts.{IsTextAt, text_at_is, one_text, same_at}
use Rattle.decimal_sum.specs.laws.Reading.{canonic_value}

pub one_number : OneNumber
unfolding number_of
one_number s text is = one_text (length (front_fraction s)) (number_at (length (front_fraction s)) s) text (record { canonic = is.canonic; value = is.value (length (front_fraction s)) (omega arith); short = is.short })

pub one_sum : OneSum
unfolding sum_of
one_sum a b text is = one_text (sum_scale a b) (number_at (sum_scale a b) a +ℤ number_at (sum_scale a b) b) text (record { canonic = is.canonic; value = is.value (sum_scale a b) (omega arith); short = is.short })

-- a scale more is ten times as much
worth_more : (n : ℕ) (ds : List ℕ) → length ds ≤ n → worth (n + 1) ds ≡ worth n ds * 10
worth_more n [] h = omega arith
worth_more n (d ∷ ds) h =
    let next : n + 1 - 1 ≡ n - 1 + 1 = omega arith in
    let place : n ≡ suc (n - 1) = omega arith in
    let step : 10 ^ (n + 1 - 1) ≡ 10 ^ (n - 1) * 10 = ap (λ i. 10 ^ i) (omega arith ∙ place) ∙ pow-suc 10 (n - 1) in
    let rest : worth (n + 1 - 1) ds ≡ worth (n - 1) ds * 10 = ap (λ i. worth i ds) next ∙ worth_more (n - 1) ds (omega (arith, h)) in
    join (d - 48) (10 ^ (n - 1)) (10 ^ (n + 1 - 1)) (worth (n - 1) ds) (worth (n + 1 - 1) ds) step rest
  where
    join : (d p q r t : ℕ) → q ≡ p * 10 → t ≡ r * 10 → d * q + t ≡ (d * p + r) * 10
    join d p q r t e h = rw (e, h) (omega arith)

abbrev tenfold : ℤ → ℤ
tenfold v = v *ℤ pos 10

ten_signed : (s : Bool) (n m : ℕ) → m ≡ n * 10 → with_sign s m ≡ tenfold (with_sign s n)
ten_signed true zero m e = let none : m ≡ 0 = omega (arith, e) in ap (λ x. neg_ℤ (pos x)) none
ten_signed true (suc n) m e = ap (λ x. neg_ℤ (pos x)) e
ten_signed false n m e = ap pos e

digits_more : (s : Bool) (k : ℕ) (w f : List ℕ) → length f ≤ k → with_sign s (worth (length w + (k + 1)) (w ++ f)) ≡ tenfold (with_sign s (worth (length w + k) (w ++ f)))
digits_more s k w f h =
    let place : length w + (k + 1) ≡ length w + k + 1 = omega arith in
    ten_signed s (worth (length w + k) (w ++ f)) (worth (length w + (k + 1)) (w ++ f)) (ap (λ i. worth i (w ++ f)) place ∙ worth_more (length w + k) (w ++ f) (omega (arith, h, length-append w f)))

value_more : (k : ℕ) (s : List ℕ) → length (fraction_part (magnitude s)) ≤ k → value_at (k + 1) s ≡ tenfold (value_at k s)
value_more k s h = digits_more (is_negative s) k (whole_part (magnitude s)) (fraction_part (magnitude s)) h

number_more : (k : ℕ) (s : List ℕ) → length (front_fraction s) ≤ k → number_at (k + 1) s ≡ tenfold (number_at k s)
number_more k s h = digits_more (is_negated s) k (front_whole s) (front_fraction s) h

ten_both : (x y : ℤ) → tenfold (x +ℤ y) ≡ tenfold x +ℤ tenfold y
ten_both x y = omega (arith, ints)

-- so a value at one scale is one at each scale from that on
upwards : (text : List ℕ) (from : ℕ) (v : ℕ → ℤ) → ((k : ℕ) → from ≤ k → v (k + 1) ≡ tenfold (v k)) → IsTextAt from (v from) text → IsTextOf text from v
upwards text from v more is = record {
  canonic = is.canonic;
  value = λ k h. let e : k ≡ from + (k - from) = omega arith in subst (λ i. value_at i text ≡ v i) (sym e) (at (k - from));
  short = is.short;
}
  where
    at : (e : ℕ) → value_at (from + e) text ≡ v (from + e)
    at zero = let e : from + 0 ≡ from = omega arith in subst (λ i. value_at i text ≡ v i) (sym e) is.value
    at (suc e) =
        let next : from + suc e ≡ from + e + 1 = omega arith in
        subst (λ i. value_at i text ≡ v i) (sym next) (value_more (from + e) text (omega (arith, is.short)) ∙ ap tenfold (at e) ∙ sym (more (from + e) (omega arith)))

pub numbers_are_right : NumbersAreRight
unfolding number_of
numbers_are_right s = upwards (number_of s) (length (front_fraction s)) (λ k. number_at k s) (λ k h. number_more k s h) (text_at_is (length (front_fraction s)) (number_at (length (front_fraction s)) s))

pub sums_are_right : SumsAreRight
unfolding sum_of
sums_are_right a b =
    upwards (sum_of a b) (sum_scale a b) (λ k. number_at k a +ℤ number_at k b)
    (λ k h. ap (λ x. x +ℤ number_at (k + 1) b) (number_more k a (omega (arith, h))) ∙ ap (λ x. tenfold (number_at k a) +ℤ x) (number_more k b (omega (arith, h))) ∙ sym (ten_both (number_at k a) (number_at k b)))
    (text_at_is (sum_scale a b) (number_at (sum_scale a b) a +ℤ number_at (sum_scale a b) b))

-- a canonic text is its own number
pub canonic_is_own : CanonicTextsAreTheirNumbers
canonic_is_own s is = canonic_value s is

pub canonic_stays : CanonicTextsStay
canonic_stays s is =
    let own = canonic_is_own s is in
    sym (one_number s s (record { canonic = is; value = λ k _. sym (own.value k); short = omega (arith, ap length own.fraction) }))

pub canonic_is_added : CanonicTextsAreAdded
canonic_is_added k a b p q h h' =
    let first = canonic_is_own a p in
    let second = canonic_is_own b q in
    (sums_are_right a b).value k (omega (arith, ap length first.fraction, ap length second.fraction, h, h')) ∙ ap (λ x. x +ℤ number_at k b) (first.value k) ∙ ap (λ x. value_at k a +ℤ x) (second.value k)

-- sums turn round
pub sums_turn : SumsTurn
unfolding sum_of
sums_turn a b =
    let scale : sum_scale a b ≡ sum_scale b a = omega arith in
    ap (λ k. text_at k (number_at k a +ℤ number_at k b)) scale ∙ ap (text_at (sum_scale b a)) (+ℤ_comm (number_at (sum_scale b a) a) (number_at (sum_scale b a) b))

-- and what is added may be added in any order
three : (v a b : List ℕ) (k : ℕ) → sum_scale v a ≤ k → length (front_fraction b) ≤ k → IsTextAt k ((number_at k v +ℤ number_at k a) +ℤ number_at k b) (sum_of (sum_of v a) b)
three v a b k h h' =
    let first = sums_are_right v a in
    let own = canonic_is_own (sum_of v a) first.canonic in
    let fraction : length (front_fraction (sum_of v a)) ≤ sum_scale v a = omega (arith, ap length own.fraction, first.short) in
    let all = sums_are_right (sum_of v a) b in
    record {
      canonic = all.canonic;
      value = all.value k (omega (arith, fraction, h, h')) ∙ ap (λ x. x +ℤ number_at k b) (own.value k ∙ first.value k h);
      short = omega (arith, all.short, fraction, h, h');
    }

any_order : (x y z : ℤ) → (x +ℤ y) +ℤ z ≡ (x +ℤ z) +ℤ y
any_order x y z = omega (arith, ints)

pub sums_in_any_order : SumsInAnyOrder
sums_in_any_order v a b =
    let one = three v a b (max (sum_scale v a) (length (front_fraction b))) (omega arith) (omega arith) in
    let other = three v b a (max (sum_scale v a) (length (front_fraction b))) (omega arith) (omega arith) in
    same_at (max (sum_scale v a) (length (front_fraction b))) _ _ (sum_of (sum_of v a) b) (sum_of (sum_of v b) a) one other
    (any_order (number_at (max (sum_scale v a) (length (front_fraction b))) v) (number_at (max (sum_scale v a) (length (front_fraction b))) a) (number_at (max (sum_scale v a) (length (front_fraction b))) b))
