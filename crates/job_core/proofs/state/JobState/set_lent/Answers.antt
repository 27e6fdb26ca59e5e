use Rattle.job_core.proofs.Inside.{set_answered}
use Rattle.job_core.proofs.state.JobState.set_lent.Goals as goal

pub returns-clause-answered : goal.returns-clause-answered
returns-clause-answered c = rw (← c.self.view_is) (λ m is. set_answered c.set_lent.result c.args.key.now c.args.value.now m _ c.set_lent.new.self is c.set_lent.ensures.kept c.set_lent.ensures.refused c.set_lent.ensures.cause)
