use Rattle.std.proofs.Common.{◌≡◌, length}
use Rattle.canonic_number.specs.Place.{before_zeros}
use Rattle.decimal_sum.proofs.digits.before_zeros.Given as goal

-- what is left has the same digits before its zeros
abbrev pub invariant-loop-rest : goal.invariant-loop-rest
invariant-loop-rest l = before_zeros l.rest ≡ before_zeros l.digits

abbrev pub decreases-loop-rest : goal.decreases-loop-rest
decreases-loop-rest l = length l.rest
