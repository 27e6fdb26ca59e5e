use Rattle.job_core.proofs.Inside.{get_answered}
use Rattle.job_core.proofs.state.JobState.get.Goals as goal

pub returns-clause-answered : goal.returns-clause-answered
returns-clause-answered c =
    let did = c.get.ensures in
    rw (← c.self.view_is) (get_answered c.get.result c.args.key.now c.args.view.now _ c.get.new.self did.exchanges did.short did.work did.job did.start did.refused did.cause)
