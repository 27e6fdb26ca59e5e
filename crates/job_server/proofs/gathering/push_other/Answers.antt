use Rattle.std.proofs.Common.{inl}
use Rattle.job_server.proofs.gathering.push_other.Goals as goal

pub returns-in-Err-clause-one : goal.returns-in-Err-clause-one
returns-in-Err-clause-one c = λ line asked. inl (c.in-Err.refusal, c.in-Err.ensures line asked, c.push_refused.ensures)
