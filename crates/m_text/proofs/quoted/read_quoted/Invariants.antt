use Rattle.std.proofs.Common.{◌≡◌, length}
use Rattle.m_text.specs.Reading.{with_front}
use Rattle.m_text.specs.Literal.{quoted_at}
use Rattle.m_text.proofs.quoted.read_quoted.Given as goal

-- what is read of the rest goes on with what is read so far
abbrev pub invariant-runs : goal.invariant-runs
invariant-runs l = with_front l.out (quoted_at l.rest) ≡ with_front l.fn.out (quoted_at l.text)

abbrev pub decreases-runs : goal.decreases-runs
decreases-runs l = length l.rest
