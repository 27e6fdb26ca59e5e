use Rattle.std.proofs.Common.{sym, ◌∙◌, refl}
use Rattle.validate_commit.proofs.Ranges.{rest_passed, rest_inside, none_passed}
use Rattle.validate_commit.proofs.newer.rest_from.Goals as goal

pub returns-then-is_at_most-2-clause-passed : goal.returns-then-is_at_most-2-clause-passed
returns-then-is_at_most-2-clause-passed c = rest_passed c.low-beginning.result c.args.range.now c.low-beginning.ensures c.args.low c.args.high (c.if-is_at_most.ensures.yes refl) (c.if-is_at_most-2.ensures.yes refl)

pub returns-then-is_at_most-2-clause-inside : goal.returns-then-is_at_most-2-clause-inside
returns-then-is_at_most-2-clause-inside c = rest_inside c.low-beginning.result c.args.range.now c.low-beginning.ensures c.args.low c.args.high (c.if-is_at_most.ensures.yes refl) (c.if-is_at_most-2.ensures.yes refl)

pub returns-else-is_at_most-clause-passed : goal.returns-else-is_at_most-clause-passed
returns-else-is_at_most-clause-passed c = λ x inside before. absurd (none_passed c.low-beginning.result c.args.range.now c.low-beginning.ensures x inside before)

pub returns-else-is_at_most-clause-inside : goal.returns-else-is_at_most-clause-inside
returns-else-is_at_most-clause-inside c = λ x behind. sym (c.low-beginning.ensures x) ∙ behind
