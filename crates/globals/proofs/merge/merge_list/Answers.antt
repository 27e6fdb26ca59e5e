use Rattle.std.proofs.Common.{sym, ◌∙◌}
use Rattle.globals.specs.laws.Telling.{apart_from_itself}
use Rattle.globals.proofs.merge.merge_list.Goals as goal

pub returns-then-is_overlap-clause-itself : goal.returns-then-is_overlap-clause-itself
returns-then-is_overlap-clause-itself g c same = absurd (apart_from_itself c.args.target.now c.args.source.now same (sym c.is_overlap.ensures ∙ c.if-is_overlap.true))
