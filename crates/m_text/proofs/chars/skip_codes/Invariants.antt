use Rattle.std.proofs.Common.{◌≡◌, ◌-◌, length}
use Rattle.m_text.specs.Reading.{rest_of, some_at}
use Rattle.m_text.specs.Literal.{code_at}
use Rattle.m_text.proofs.chars.skip_codes.Given as goal

-- the same follows the rest as the whole
abbrev pub invariant-codes : goal.invariant-codes
invariant-codes l = rest_of (some_at code_at 44 (length l.text - l.counter) l.rest) ≡ rest_of (some_at code_at 44 (length l.text) l.text)
