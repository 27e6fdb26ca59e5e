use Rattle.job_core.proofs.Inside.{get_answered}
use Rattle.job_core.proofs.state.JobState.get_into.Goals as goal

pub returns-clause-answered : goal.returns-clause-answered
returns-clause-answered c =
    let did = c.get_into.ensures in
    rw (← c.self.view_is) (get_answered c.get_into.result c.args.key.now c.args.view.now _ c.get_into.new.self did.exchanges did.short did.work did.job did.start did.refused did.cause)
