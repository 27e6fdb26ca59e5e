use Rattle.std.proofs.Common.{◌≡◌, ◌≤◌, drop}
use Rattle.m_text.specs.Literal.{number_from}
use Rattle.job_scripts.proofs.Timeouts.{most}
use Rattle.job_scripts.proofs.timeout.number_of.Given as goal

-- the number so far, the digits that are left, and how large it may be
abbrev pub invariant-digits : goal.invariant-digits
invariant-digits l = record {
  so_far : number_from l.n (drop l.digit-index l.digits) ≡ number_from 0 l.digits;
  small : l.n ≤ most l.digit-index;
}
