use Rattle.std.proofs.Common.{◌≡◌, ◌≤◌, ◌+◌, ◌++◌, ◌-◌, drop, length, map, vec_len, vec_capacity}
use Rattle.key_codec.proofs.write.put_falling.Given as goal

-- with the bytes of the digits that are left it will be the key, and there is room for them
abbrev pub invariant-loop-digit : goal.invariant-loop-digit
invariant-loop-digit l = record {
  items : l.key.items ++ map (λ d. 58 - d) (drop l.digit-index l.digits) ≡ l.initial.key.items ++ map (λ d. 58 - d) l.digits;
  len : vec_len l.key + length (drop l.digit-index l.digits) ≡ vec_len l.initial.key + length l.digits;
  capacity : vec_capacity l.initial.key ≤ vec_capacity l.key;
}
