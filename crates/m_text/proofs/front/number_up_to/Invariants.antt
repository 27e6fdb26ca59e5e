use Rattle.std.proofs.Common.{◌≡◌, ◌≤◌, drop}
use Rattle.m_text.specs.Literal.{number_from}
use Rattle.m_text.proofs.front.number_up_to.Given as goal

-- the number so far, and the digits that are left
abbrev pub invariant-digits : goal.invariant-digits
invariant-digits l = record {
  so_far : number_from l.n (drop l.digit-index l.digits) ≡ number_from 0 l.digits;
  small : l.n ≤ 60255;
}
