use Rattle.stretches.proofs.Places.{kept_without}
use Rattle.stretches.proofs.stretches_kept.Stretches.remove_between.Goals as goal

pub invariant_of-self : goal.invariant_of-self
invariant_of-self c = kept_without c.args.first c.args.last c.self.inside.list.items c.cut_out.new.list.items c.requires.order c.self.invariant c.cut_out.ensures
