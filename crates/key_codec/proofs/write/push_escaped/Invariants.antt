use Rattle.std.proofs.Common.{◌≡◌, ◌++◌, drop}
use Rattle.key_codec.specs.Key.{escaped}
use Rattle.key_codec.proofs.write.push_escaped.Given as goal

-- with the bytes of the text that is left it will be the key
abbrev pub invariant-loop-byte : goal.invariant-loop-byte
invariant-loop-byte l = l.key.items ++ escaped (drop l.byte-index l.text) ≡ l.initial.key.items ++ escaped l.text
