use Rattle.std.proofs.Common.{◌≡◌, ◌++◌, drop}
use Rattle.key_codec.specs.Short.{lengthened, lengthened_from}
use Rattle.key_codec.proofs.lengthen.lengthen.Given as goal

-- with what stands for the bytes that are left it will be the key
abbrev pub invariant-loop-byte : goal.invariant-loop-byte
invariant-loop-byte l = l.key.items ++ lengthened_from l.stage (drop l.byte-index l.bytes) ≡ lengthened l.bytes
