use Rattle.std.proofs.Common.{◌≤◌, drop, arith}
use Rattle.m_text.specs.Literal.{number_from}
use Rattle.m_text.proofs.Digits.{grows}
use Rattle.m_text.proofs.front.number_up_to.Goals as goal

-- a number only grows by more digits
pub returns-then-n-limit : goal.returns-then-n-limit
returns-then-n-limit c =
    let more : c.digits.n ≤ number_from c.digits.n (drop c.digits.digit-index c.args.digits.now) = grows c.digits.n (drop c.digits.digit-index c.args.digits.now) in
    omega (arith, more, c.digits.invariant.so_far, c.if-n-limit.true)
