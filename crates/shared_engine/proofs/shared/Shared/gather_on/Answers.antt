use Rattle.shared_engine.proofs.Knowing.{gathered_on}
use Rattle.shared_engine.proofs.shared.Shared.gather_on.Goals as goal

pub returns-clause-gathered : goal.returns-clause-gathered
returns-clause-gathered g c = gathered_on c.gather_on.result _ _ _ _ _ c.args.keys.now _ _ _ _ c.look.ensures.journal c.look.ensures.same c.gather_on.ensures.gathered
