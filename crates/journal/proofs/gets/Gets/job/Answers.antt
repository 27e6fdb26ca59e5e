use Rattle.std.proofs.Common.{subst}
use Rattle.journal.specs.Gathered.{AreGets}
use Rattle.journal.proofs.gets.Gets.job.Goals as goal

pub returns-clause-gets : goal.returns-clause-gets
returns-clause-gets c = subst AreGets c.self.view_is c.self.invariant.1
