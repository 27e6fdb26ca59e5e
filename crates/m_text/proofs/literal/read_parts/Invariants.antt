use Rattle.std.proofs.Common.{◌≡◌, ◌-◌, length}
use Rattle.m_text.specs.Reading.{with_front, some_at}
use Rattle.m_text.specs.Literal.{part_at}
use Rattle.m_text.proofs.literal.read_parts.Given as goal

-- what is read of the rest goes on with what is read so far
abbrev pub invariant-parts : goal.invariant-parts
invariant-parts l = with_front l.out (some_at part_at 95 (length l.text - l.counter) l.rest) ≡ with_front l.fn.out (some_at part_at 95 (length l.text) l.text)
