-- Digits in columns.
use Rattle.std.specs.Prelude.{ℕ, ◌-◌, ◌≤◌, ◌≡◌, Bool, true, false, List, ◌++◌, length, replicate}
use Rattle.canonic_number.specs.declared.read.Numeral.{Numeral}
use Rattle.canonic_number.specs.Parts.{AreDigits, numeral_at}
use Rattle.decimal_sum.specs.Front.{number_at, front_fraction}

-- one where something is carried, or borrowed
abbrev pub one_if : Bool → ℕ
one_if true = 1
one_if false = 0

-- the digits of a number in so many columns before the point and so many after it
abbrev pub in_columns : ℕ → ℕ → Numeral → List ℕ
in_columns whole fraction n =
    (replicate (whole - length n.whole.now) 48 ++ n.whole.now) ++ (n.fraction.now ++ replicate (fraction - length n.fraction.now) 48)

-- the number that a text begins with, its digits without the zeros that don't count
pub record IsFrontOf (s : List ℕ) (n : Numeral) : Type 0 where
  pub digits : AreDigits n.whole.now n.fraction.now
  pub value : (scale : ℕ) → numeral_at scale n ≡ number_at scale s
  pub short : length n.fraction.now ≤ length (front_fraction s)
