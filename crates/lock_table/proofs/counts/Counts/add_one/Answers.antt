use Rattle.std.proofs.Common.{ap, ◌∙◌, ◌+◌}
use Rattle.std.specs.FinMap as finmap
use Rattle.lock_table.proofs.counts.Counts.add_one.Goals as goal

pub returns-in-Ok-clause-ok : goal.returns-in-Ok-clause-ok
returns-in-Ok-clause-ok c = c.in-Ok.ensures.ok ∙ ap (λ v. finmap.insert c.args.self.now c.args.name.now (v + 1)) c.look_up-count.ensures.count
