use Rattle.std.proofs.Common.{refl}
use Rattle.command.specs.declared.access.Look.TheVariants.{Get}
use Rattle.read_ranges.proofs.Noting.{on_ok, get_noted}
use Rattle.read_ranges.proofs.noted.Ranges.note_get.Goals as goal

pub returns-clause-noted : goal.returns-clause-noted
returns-clause-noted c = λ default answer.
    on_ok c.add_one.result (get_noted c.args.self.now c.add_one.new.self (Get c.args.key.now default) c.args.key.now default answer c.args.decided refl c.if-decided.false) c.add_one.ensures.more
