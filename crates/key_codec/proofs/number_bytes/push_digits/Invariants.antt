use Rattle.std.proofs.Common.{◌≡◌, ◌++◌, drop, map}
use Rattle.key_codec.specs.Grown.{GoesOnFrom}
use Rattle.key_codec.specs.Reading.{digit_of}
use Rattle.key_codec.proofs.number_bytes.push_digits.Given as goal

-- with the digits of the bytes that are left these will be all
abbrev pub invariant-loop-byte : goal.invariant-loop-byte
invariant-loop-byte l = record {
  written : l.out.items ++ map (digit_of l.negative) (drop l.byte-index l.bytes) ≡ l.initial.out.items ++ map (digit_of l.negative) l.bytes;
  kept : GoesOnFrom l.initial.out.items l.out.items;
}
