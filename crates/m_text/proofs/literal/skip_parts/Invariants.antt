use Rattle.std.proofs.Common.{◌≡◌, ◌-◌, length}
use Rattle.m_text.specs.Reading.{rest_of, some_at}
use Rattle.m_text.specs.Literal.{part_at}
use Rattle.m_text.proofs.literal.skip_parts.Given as goal

-- the same follows the rest as the whole
abbrev pub invariant-parts : goal.invariant-parts
invariant-parts l = rest_of (some_at part_at 95 (length l.text - l.counter) l.rest) ≡ rest_of (some_at part_at 95 (length l.text) l.text)
