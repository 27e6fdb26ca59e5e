use Rattle.std.proofs.Common.{◌≡◌, length}
use Rattle.job_scripts.specs.Timeouts.{timeout_in}
use Rattle.job_scripts.proofs.timeout.timeout_of.Given as goal

-- what is left has the line's timeout
abbrev pub invariant-colons : goal.invariant-colons
invariant-colons l = record {
  left : timeout_in l.text ≡ timeout_in l.fn.line;
}

abbrev pub decreases-colons : goal.decreases-colons
decreases-colons l = length l.text
