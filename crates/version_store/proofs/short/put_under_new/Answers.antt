use Rattle.std.proofs.Common.{ap, ◌∙◌}
use Rattle.std.specs.FinMap.{put}
use Rattle.collation.specs.Order.{ref_cmp}
use Rattle.collation.specs.laws.Order.{ref_cmp-IsAntisymmetric}
use Rattle.version_store.proofs.short.put_under_new.Goals as goal

pub returns-in-Ok : goal.returns-in-Ok
returns-in-Ok c = c.in-Ok.ensures.put ref_cmp-IsAntisymmetric ∙ ap (λ k. put ref_cmp k c.args.id c.args.tree.now.pairs) c.in_ok-key.ensures
