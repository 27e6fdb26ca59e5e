use Rattle.std.proofs.Common.{◌≡◌, ◌++◌, length}
use Rattle.key_codec.specs.Key.{long_form, subscripts_key, AreSubscriptsWithin}
use Rattle.key_codec.proofs.read.read_subscripts.Given as goal

-- the bytes are the keys of what has been found, and then the rest
abbrev pub invariant-loop-rest : goal.invariant-loop-rest
invariant-loop-rest l = AreSubscriptsWithin long_form l.found.items × (l.bytes ≡ subscripts_key long_form l.found.items ++ l.rest)

abbrev pub decreases-loop-rest : goal.decreases-loop-rest
decreases-loop-rest l = length l.rest
