use Rattle.std.proofs.Common.{refl}
use Rattle.command.specs.declared.access.DataCommand.TheVariants.{Increment}
use Rattle.read_ranges.proofs.Noting.{on_ok, increment_noted}
use Rattle.read_ranges.proofs.noted.Ranges.note_increment.Goals as goal

pub returns-then-not-decided-clause-noted : goal.returns-then-not-decided-clause-noted
returns-then-not-decided-clause-noted c = λ number answer.
    on_ok c.add_one.result (increment_noted c.args.self.now c.add_one.new.self (Increment c.args.key.now number) c.args.key.now number answer c.args.decided refl c.if-not-decided.true) c.add_one.ensures.more
