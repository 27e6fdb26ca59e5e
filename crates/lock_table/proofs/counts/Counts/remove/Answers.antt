use Rattle.std.proofs.Common.{ap, ◌∙◌}
use Rattle.std.specs.FinMap as finmap
use Rattle.lock_table.proofs.Smalls.{small_remove, small_along}
use Rattle.lock_table.proofs.counts.Counts.remove.Goals as goal

pub invariant_of-self : goal.invariant_of-self
invariant_of-self c = small_along _ _ c.remove.ensures.map (small_remove c.self.inside.map c.args.name.now c.self.invariant)

pub returns : goal.returns
returns c = c.remove.ensures.map ∙ ap (λ m. finmap.remove m c.args.name.now) c.self.view_is
