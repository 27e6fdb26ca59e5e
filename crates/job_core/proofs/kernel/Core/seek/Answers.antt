use Rattle.std.proofs.Common.{sym, subst}
use Rattle.stretches.specs.Empty.{AreEmpty}
use Rattle.validate_commit.specs.laws.Agreement.{agreed_now}
use Rattle.job_core.proofs.kernel.Core.seek.Goals as goal

pub look_ahead-requires : goal.look_ahead-requires
look_ahead-requires c = subst (AreEmpty c.self.inside.passing) (sym (agreed_now c.self.inside.store c.self.inside.journal.units c.self.invariant.agreed)) c.self.invariant.empty

pub invariant_of-self : goal.invariant_of-self
invariant_of-self c = record {
  agreed = c.self.invariant.agreed;
  locks = c.self.invariant.locks;
  within = c.self.invariant.within;
  empty = subst (AreEmpty c.look_ahead.new.self) (agreed_now c.self.inside.store c.self.inside.journal.units c.self.invariant.agreed) c.look_ahead.ensures;
}
