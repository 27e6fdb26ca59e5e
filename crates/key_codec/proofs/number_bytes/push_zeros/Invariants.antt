use Rattle.std.proofs.Common.{◌≡◌, ◌++◌, ◌-◌, replicate}
use Rattle.key_codec.specs.Grown.{GoesOnFrom}
use Rattle.key_codec.proofs.number_bytes.push_zeros.Given as goal

-- with the zeros that are left it will be the text
abbrev pub invariant-loop : goal.invariant-loop
invariant-loop l = record {
  written : l.out.items ++ replicate (l.count - l.counter) 48 ≡ l.initial.out.items ++ replicate l.count 48;
  kept : GoesOnFrom l.initial.out.items l.out.items;
}
