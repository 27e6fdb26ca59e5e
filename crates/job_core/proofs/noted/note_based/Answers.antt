use Rattle.std.proofs.Common.{ap, ◌∙◌}
use Rattle.globals.specs.Cuts.{front_under}
use Rattle.journal.specs.Based.{map_in}
use Rattle.job_core.specs.Noted.{noted_all}
use Rattle.job_core.proofs.Between.{subtree_from}
use Rattle.job_core.proofs.noted.note_based.Goals as goal

pub loop-key-init : goal.loop-key-init
loop-key-init c = ap (λ es. noted_all es c.args.noted.now) (ap (front_under c.args.root.now) c.nodes_from-key-items.ensures ∙ subtree_from c.args.root.now (map_in c.args.base.now))
