-- What a range of keys is, and which bytes lie in it.
use Rattle.std.specs.Prelude.{ℕ, Bool, not, true, ◌&&◌, Option, None, Some, List}
use Rattle.std.specs.Ordering.{nat_cmp, is_lt}
use Rattle.std.specs.Cmp.Lexicographic.{slice_cmp}

-- the least key, and the first key beyond, or none where it goes to the end
pub record Range : Type 0 where
  pub low : List ℕ
  pub high : Option (List ℕ)

-- the bytes lie before this bound, or there is none
abbrev pub is_below_bound : List ℕ → Option (List ℕ) → Bool
is_below_bound bytes None = true
is_below_bound bytes (Some high) = is_lt (slice_cmp nat_cmp bytes high)

-- from the least key on, and before the first beyond
abbrev pub is_within : Range → List ℕ → Bool
is_within range bytes = not (is_lt (slice_cmp nat_cmp bytes range.low)) && is_below_bound bytes range.high
