use Rattle.std.proofs.Common.{sym, ◌∙◌}
use Rattle.lock_trie.specs.laws.Results.{onward}
use Rattle.lock_table.proofs.Rows.{not_inside, outside_allowed}
use Rattle.lock_table.proofs.row.Row.outside.Goals as goal

pub returns-in-More-clause-allowed : goal.returns-in-More-clause-allowed
returns-in-More-clause-allowed c = onward c.hold_more.result
    (outside_allowed c.args.self.now c.self.inside.held c.self.inside.inside c.args.form c.in-More.had c.args.names.now c.self.view_is (not_inside c.self.inside.inside (sym c.if-is_some.false ∙ c.is_some.ensures)) c.in-More.is) c.hold_more.ensures.allowed
