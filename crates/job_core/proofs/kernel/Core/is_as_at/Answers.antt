use Rattle.std.proofs.Common.{arith}
use Rattle.std.proofs.lemmas.Bool.{leb-true}
use Rattle.job_core.proofs.Cores.{map_settled}
use Rattle.job_core.proofs.kernel.Core.is_as_at.Goals as goal

pub returns : goal.returns
returns c = λ is. rw (← c.self.view_is) (map_settled c.self.inside.store c.self.inside.journal.units c.latest.result c.args.number c.self.invariant.agreed c.latest.ensures (leb-true _ _ is) (omega (arith, c.if-number-cut.false)) (omega (arith, c.now.ensures.present, c.if-now-number.false)))
