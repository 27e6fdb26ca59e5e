use Rattle.std.proofs.Common.{sym, subst}
use Rattle.std.specs.Prelude.{OnOk}
use Rattle.command.specs.declared.access.DataCommand.{DataCommand}
use Rattle.read_ranges.specs.Ranges.{IsNoted}
use Rattle.read_ranges.proofs.Noting.{on_ok, merge_noted}
use Rattle.read_ranges.proofs.noted.Ranges.note.Goals as goal

pub returns-in-Merge-clause-noted : goal.returns-in-Merge-clause-noted
returns-in-Merge-clause-noted c =
    on_ok c.push_new.result (merge_noted c.args.self.now c.push_new.new.self c.args.command.now c.in-Merge.field-0 c.in-Merge.source c.args.answer.now c.args.decided c.in-Merge.is) c.push_new.ensures.more

pub returns-in-Increment-clause-noted : goal.returns-in-Increment-clause-noted
returns-in-Increment-clause-noted c =
    subst (λ (d : DataCommand). OnOk c.note_increment.result (IsNoted c.args.self.now c.note_increment.new.self d c.args.answer.now c.args.decided)) (sym c.in-Increment.is) (c.note_increment.ensures.noted c.in-Increment.field-1 c.args.answer.now)
