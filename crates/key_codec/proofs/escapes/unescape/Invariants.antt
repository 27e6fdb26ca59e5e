use Rattle.std.proofs.Common.{◌≡◌, ◌++◌, length}
use Rattle.key_codec.specs.Key.{escaped}
use Rattle.key_codec.proofs.escapes.unescape.Given as goal

-- the bytes are those of what has been read, and then the rest
abbrev pub invariant-loop-rest : goal.invariant-loop-rest
invariant-loop-rest l = escaped l.text.items ++ l.rest ≡ l.bytes

abbrev pub decreases-loop-rest : goal.decreases-loop-rest
decreases-loop-rest l = length l.rest
