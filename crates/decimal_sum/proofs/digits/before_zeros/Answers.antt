use Rattle.std.proofs.Common.{sym, ◌∙◌}
use Rattle.decimal_sum.proofs.Zeros.{before_zeros-shorter, before_zeros-all}
use Rattle.decimal_sum.proofs.digits.before_zeros.Goals as goal

pub loop-rest-preserved : goal.loop-rest-preserved
loop-rest-preserved c = before_zeros-shorter c.loop-rest.rest.now (sym c.ends_with_0.ensures ∙ c.loop-rest-test.true) ∙ c.loop-rest.invariant

pub returns : goal.returns
returns c = sym (before_zeros-all c.loop-rest.rest.now (sym c.ends_with_0.ensures ∙ c.loop-rest-test.false)) ∙ c.loop-rest.invariant
