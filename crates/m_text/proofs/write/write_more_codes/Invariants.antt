use Rattle.std.proofs.Common.{◌≡◌, ◌++◌, ◌∷◌, take, decimal}
use Rattle.std.specs.List.{flat_map}
use Rattle.m_text.proofs.write.write_more_codes.Given as goal

-- the codes so far
abbrev pub invariant-codes : goal.invariant-codes
invariant-codes l = l.out.items ≡ l.fn.out.items ++ flat_map (λ b. 44 ∷ decimal b) (take l.byte-index l.bytes)
