use Rattle.std.proofs.Common.{◌≡◌, ◌-◌, ◌++◌, take, false}
use Rattle.std.specs.Prelude.{map, replicate}
use Rattle.key_codec.specs.Reading.{digit_of}
use Rattle.key_codec.proofs.shown.small_whole.Given as goal

abbrev pub invariant-loop-at : goal.invariant-loop-at
invariant-loop-at l = l.room ≡ map (digit_of false) (take l.at l.digits) ++ replicate (14 - l.at) 48
