use Rattle.std.proofs.Common.{◌≡◌, ◌++◌, length}
use Rattle.key_codec.specs.Back.{unescaped}
use Rattle.key_codec.specs.Grown.{GoesOnFrom}
use Rattle.key_codec.proofs.escapes.push_unescaped.Given as goal

-- with what is left it will be the text
abbrev pub invariant-loop-byte : goal.invariant-loop-byte
invariant-loop-byte l = record {
  written : l.out.items ++ unescaped l.rest ≡ l.initial.out.items ++ unescaped l.bytes;
  kept : GoesOnFrom l.initial.out.items l.out.items;
}

abbrev pub decreases-loop-byte : goal.decreases-loop-byte
decreases-loop-byte l = length l.rest
