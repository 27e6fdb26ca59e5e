use Rattle.std.proofs.Common.{◌≡◌, ◌++◌, ◌-◌, drop, map}
use Rattle.key_codec.proofs.write.push_rising.Given as goal

-- with the bytes of the digits that are left it will be the key
abbrev pub invariant-loop-digit : goal.invariant-loop-digit
invariant-loop-digit l = l.key.items ++ map (λ d. d - 47) (drop l.digit-index l.digits) ≡ l.initial.key.items ++ map (λ d. d - 47) l.digits
