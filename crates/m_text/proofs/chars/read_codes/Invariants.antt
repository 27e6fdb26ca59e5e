use Rattle.std.proofs.Common.{◌≡◌, ◌-◌, length}
use Rattle.m_text.specs.Reading.{with_front, some_at}
use Rattle.m_text.specs.Literal.{code_at}
use Rattle.m_text.proofs.chars.read_codes.Given as goal

-- what is read of the rest goes on with what is read so far
abbrev pub invariant-codes : goal.invariant-codes
invariant-codes l = with_front l.out (some_at code_at 44 (length l.text - l.counter) l.rest) ≡ with_front l.fn.out (some_at code_at 44 (length l.text) l.text)
