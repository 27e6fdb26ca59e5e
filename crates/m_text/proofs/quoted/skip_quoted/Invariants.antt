use Rattle.std.proofs.Common.{◌≡◌, length}
use Rattle.m_text.specs.Reading.{rest_of}
use Rattle.m_text.specs.Literal.{quoted_at}
use Rattle.m_text.proofs.quoted.skip_quoted.Given as goal

-- the same follows the rest as the whole
abbrev pub invariant-runs : goal.invariant-runs
invariant-runs l = rest_of (quoted_at l.rest) ≡ rest_of (quoted_at l.text)

abbrev pub decreases-runs : goal.decreases-runs
decreases-runs l = length l.rest
