use Rattle.std.proofs.Common.{◌≡◌, length}
use Rattle.canonic_number.specs.Place.{after_zeros}
use Rattle.decimal_sum.proofs.digits.after_zeros.Given as goal

-- what is left has the same digits after its zeros
abbrev pub invariant-loop-rest : goal.invariant-loop-rest
invariant-loop-rest l = after_zeros l.rest ≡ after_zeros l.digits

abbrev pub decreases-loop-rest : goal.decreases-loop-rest
decreases-loop-rest l = length l.rest
