use Rattle.std.proofs.Common.{◌≤◌, length, rules, arith}
use Rattle.job_scripts.proofs.Timeouts.{before_the_ninth, all_of_them}
use Rattle.job_scripts.proofs.timeout.number_of.Goals as goal

pub overflow_mul-n : goal.overflow_mul-n
overflow_mul-n c =
    let small : c.digits.n ≤ 28333333305 = before_the_ninth c.digits.n c.digits.digit-index (length c.args.digits.now) c.digits.invariant.small (search rules) c.requires in
    omega (arith, small)

pub overflow_add-n : goal.overflow_add-n
overflow_add-n c =
    let small : c.digits.n ≤ 28333333305 = before_the_ninth c.digits.n c.digits.digit-index (length c.args.digits.now) c.digits.invariant.small (search rules) c.requires in
    omega (arith, small, c.digit_value.ensures.small)

pub returns-clause-small : goal.returns-clause-small
returns-clause-small c = all_of_them c.digits.n c.digits.digit-index c.digits.invariant.small (omega (arith, c.digits.auto.digit-index-end, c.requires))
