use Rattle.std.proofs.Common.{◌∙◌}
use Rattle.std.specs.Option.{option_copied}
use Rattle.lock_table.proofs.Tables.{found_row, copied_some}
use Rattle.lock_table.proofs.table.LockTable.has_row.Goals as goal

pub returns : goal.returns
returns c = found_row c.self.inside.rows.entries c.args.self.now c.args.job (option_copied c.get.result) c.is_some.result c.self.view_is c.get.ensures.value (c.is_some.ensures ∙ copied_some _ c.get.result)
