use Rattle.std.proofs.Common.{ap, ◌∙◌}
use Rattle.journal.specs.Merging.{is_first_before}
use Rattle.journal.proofs.Rising.{kept_all, kept_before}
use Rattle.journal.proofs.merging.Merging.keep_before.Goals as goal

pub returns-clause-all : goal.returns-clause-all
returns-clause-all c = kept_all c.count_before-count.result c.args.self.now c.keep_first.new.self c.keep_first.ensures

pub returns-clause-before : goal.returns-clause-before
returns-clause-before c = kept_before c.args.key.now c.count_before-count.result c.args.self.now c.keep_first.new.self c.keep_first.ensures c.count_before-count.ensures.before

pub returns-clause-from : goal.returns-clause-from
returns-clause-from c = ap (is_first_before c.args.key.now) c.keep_first.ensures.1.1 ∙ c.count_before-count.ensures.from
