use Rattle.std.proofs.Common.{subst, sym}
use Rattle.refused_memory.specs.Sides.{IsReady}
use Rattle.refused_memory.proofs.Ready.{ready_begun}
use Rattle.refused_memory.proofs.commit.side.Side.begin.Goals as goal

pub invariant_of-self : goal.invariant_of-self
invariant_of-self c =
    let agreed = c.self.invariant.agreed in
    subst (IsReady c.self.inside.store c.self.inside.journal.units) (sym c.restart.ensures) (ready_begun c.self.inside.store c.self.inside.journal.units c.self.inside.work.job c.now.result agreed c.now.ensures.present)
