-- What is true of the numbers that texts begin with, and of their sums. Each is a clause of a function in `src/laws.rt`.
use Rattle.std.specs.Prelude.{ℕ, ◌≡◌, true, List, ◌≤◌, ◌+ℤ◌, length}
use Rattle.canonic_number.specs.Number.{is_canonic, value_at, magnitude, fraction_part}
use Rattle.decimal_sum.specs.Front.{number_at, front_fraction}
use Rattle.decimal_sum.specs.Sums.{IsNumber, IsSum, number_of, sum_of}

-- the number that a text begins with has a canonic text, and it has one
abbrev pub NumbersAreRight : Type 0
NumbersAreRight = (s : List ℕ) → IsNumber s (number_of s)

abbrev pub OneNumber : Type 0
OneNumber = (s text : List ℕ) → IsNumber s text → text ≡ number_of s

-- and so has the sum of two
abbrev pub SumsAreRight : Type 0
SumsAreRight = (a b : List ℕ) → IsSum a b (sum_of a b)

abbrev pub OneSum : Type 0
OneSum = (a b text : List ℕ) → IsSum a b text → text ≡ sum_of a b

-- a canonic text begins with its own number
pub record IsOwnNumber (s : List ℕ) : Type 0 where
  pub value : (scale : ℕ) → number_at scale s ≡ value_at scale s
  pub fraction : front_fraction s ≡ fraction_part (magnitude s)

abbrev pub CanonicTextsAreTheirNumbers : Type 0
CanonicTextsAreTheirNumbers = (s : List ℕ) → is_canonic s ≡ true → IsOwnNumber s

-- and stays as it is
abbrev pub CanonicTextsStay : Type 0
CanonicTextsStay = (s : List ℕ) → is_canonic s ≡ true → number_of s ≡ s

-- so canonic texts are added by their values, at any scale not below the lengths of their fractions
abbrev pub CanonicTextsAreAdded : Type 0
CanonicTextsAreAdded =
    (scale : ℕ) (a b : List ℕ) → is_canonic a ≡ true → is_canonic b ≡ true → length (fraction_part (magnitude a)) ≤ scale → length (fraction_part (magnitude b)) ≤ scale →
    value_at scale (sum_of a b) ≡ value_at scale a +ℤ value_at scale b

-- two numbers have one sum, whichever comes first, and what is added to a number may be added in any order
abbrev pub SumsTurn : Type 0
SumsTurn = (a b : List ℕ) → sum_of a b ≡ sum_of b a

abbrev pub SumsInAnyOrder : Type 0
SumsInAnyOrder = (v a b : List ℕ) → sum_of (sum_of v a) b ≡ sum_of (sum_of v b) a
