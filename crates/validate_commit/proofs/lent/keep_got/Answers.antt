use Rattle.std.specs.Prelude.{None}
use Rattle.command.specs.declared.access.Answer.TheVariants.{Value}
use Rattle.validate_commit.proofs.lent.keep_got.Goals as goal

pub returns-in-Ok-clause-ranges : goal.returns-in-Ok-clause-ranges
returns-in-Ok-clause-ranges c = c.in-Ok.ensures.noted None (Value c.args.value.now)
