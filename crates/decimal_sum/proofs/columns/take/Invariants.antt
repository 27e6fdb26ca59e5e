use Rattle.std.proofs.Common.{ℕ, ◌≡◌, ◌≤◌, ◌+◌, ◌-◌, ◌*◌, ◌^◌, true, drop, length}
use Rattle.std.specs.List.{list_all}
use Rattle.std.specs.Char.{is_ascii_digit}
use Rattle.canonic_number.specs.Number.{worth}
use Rattle.decimal_sum.specs.Columns.{one_if, in_columns}
use Rattle.decimal_sum.proofs.columns.take.Given as goal

-- what is borrowed from the column before, and the columns behind it taken
abbrev pub invariant-columns : goal.invariant-columns
invariant-columns l = record {
  place : l.at ≤ length l.fn.digits;
  columns : length l.digits ≡ length l.fn.digits;
  digits : list_all is_ascii_digit l.digits ≡ true;
  value : (n : ℕ) → length l.fn.digits ≤ n → worth n l.digits + worth (n - l.at) (drop l.at (in_columns l.whole (length l.fn.digits - l.whole) l.number)) ≡ worth n l.fn.digits + one_if l.borrowed * 10 ^ (n - l.at);
}

abbrev pub decreases-columns : goal.decreases-columns
decreases-columns l = l.at
