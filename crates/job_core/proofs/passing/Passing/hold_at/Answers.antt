use Rattle.std.proofs.lemmas.Bool.{leb-true}
use Rattle.job_core.proofs.Cores.{empty_settled}
use Rattle.job_core.proofs.passing.Passing.hold_at.Goals as goal

pub returns : goal.returns
returns c = λ is within empty. empty_settled c.args.store.now c.args.self.now c.latest.result c.args.stamp c.latest.ensures (leb-true _ _ is) within empty
