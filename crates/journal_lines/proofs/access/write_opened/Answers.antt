use Rattle.std.proofs.Common.{sym, ◌∙◌}
use Rattle.journal_lines.proofs.Opened.{reopened, reopened_kept}
use Rattle.journal_lines.proofs.access.write_opened.Goals as goal

pub returns-then-has_subscripts-clause-ok : goal.returns-then-has_subscripts-clause-ok
returns-then-has_subscripts-clause-ok c =
    reopened _ _ _ _ _ c.args.key.now (sym c.has_subscripts.ensures ∙ c.if-has_subscripts.true) c.in_ok-write_key.ensures.ok c.drop_last.ensures c.extend_from_slice.ensures.items

pub returns-then-has_subscripts-clause-kept : goal.returns-then-has_subscripts-clause-kept
returns-then-has_subscripts-clause-kept c =
    reopened_kept _ _ _ _ _ _ c.args.key.now (sym c.has_subscripts.ensures ∙ c.if-has_subscripts.true) c.in_ok-write_key.ensures.ok c.drop_last.ensures c.extend_from_slice.ensures.items
