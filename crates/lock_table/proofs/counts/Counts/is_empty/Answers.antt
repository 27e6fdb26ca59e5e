use Rattle.std.proofs.Common.{sym, ◌∙◌}
use Rattle.std.proofs.lemmas.Bool.{eqb-true}
use Rattle.lock_table.proofs.Smalls.{empty_counted}
use Rattle.lock_table.proofs.counts.Counts.is_empty.Goals as goal

pub returns : goal.returns
returns c h = empty_counted c.self.inside.map c.args.self.now c.self.view_is (sym c.len.ensures ∙ eqb-true c.len.result 0 h)
