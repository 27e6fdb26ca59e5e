use Rattle.std.proofs.Common.{sym, subst}
use Rattle.std.specs.Prelude.{OnOk}
use Rattle.command.specs.declared.access.DataCommand.TheVariants.{Look as look_command}
use Rattle.command.specs.declared.access.Look.{Look as LookCommand}
use Rattle.read_ranges.specs.Ranges.{IsNoted}
use Rattle.read_ranges.proofs.Noting.{on_ok, data_noted}
use Rattle.read_ranges.proofs.noted.Ranges.note_look.Goals as goal

pub returns-in-Data-clause-noted : goal.returns-in-Data-clause-noted
returns-in-Data-clause-noted c =
    on_ok c.add.result (data_noted c.args.self.now c.add.new.self c.args.look.now c.in-Data.key c.args.answer.now c.args.decided c.in-Data.is) c.add.ensures.more

pub returns-in-Get-clause-noted : goal.returns-in-Get-clause-noted
returns-in-Get-clause-noted c =
    subst (λ (l : LookCommand). OnOk c.note_get.result (IsNoted c.args.self.now c.note_get.new.self (look_command l) c.args.answer.now c.args.decided)) (sym c.in-Get.is) (c.note_get.ensures.noted c.in-Get.field-1 c.args.answer.now)

pub returns-in-Order-clause-noted : goal.returns-in-Order-clause-noted
returns-in-Order-clause-noted c =
    subst (λ (l : LookCommand). OnOk c.note_order.result (IsNoted c.args.self.now c.note_order.new.self (look_command l) c.args.answer.now c.args.decided)) (sym c.in-Order.is) (c.note_order.ensures.noted c.args.decided)

pub returns-in-Query-clause-noted : goal.returns-in-Query-clause-noted
returns-in-Query-clause-noted c =
    subst (λ (l : LookCommand). OnOk c.note_query.result (IsNoted c.args.self.now c.note_query.new.self (look_command l) c.args.answer.now c.args.decided)) (sym c.in-Query.is) (c.note_query.ensures.noted c.args.decided)

pub returns-in-Name-clause-noted : goal.returns-in-Name-clause-noted
returns-in-Name-clause-noted c =
    subst (λ (l : LookCommand). OnOk c.note_name.result (IsNoted c.args.self.now c.note_name.new.self (look_command l) c.args.answer.now c.args.decided)) (sym c.in-Name.is) (c.note_name.ensures.noted c.args.decided)
