use Rattle.std.proofs.Common.{ap}
use Rattle.shared_engine.specs.Holds.{Lines}
use Rattle.job_server.proofs.OneMore.{set_more, none_more}
use Rattle.job_server.proofs.gathering.push_set.Goals as goal

pub returns-in-Ok-clause-sets : goal.returns-in-Ok-clause-sets
returns-in-Ok-clause-sets c = set_more _ _ c.args.hold.now.commands c.push_set.new.self.commands (ap (λ (h : Lines). h.commands) c.push_set.ensures)

pub returns-in-Err-clause-sets : goal.returns-in-Err-clause-sets
returns-in-Err-clause-sets c = none_more c.args.hold.now.commands c.push_refused.new.self.commands (ap (λ (h : Lines). h.commands) c.push_refused.ensures)
