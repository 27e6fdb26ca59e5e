use Rattle.shared_engine.specs.laws.Prefixes.{begins_itself}
use Rattle.job_server.proofs.job_run.Calls.hold_in.Goals as goal

pub returns-in-Sets-clause-held : goal.returns-in-Sets-clause-held
returns-in-Sets-clause-held g c = (c.args.session.now.seen, c.hold_sets.new.self.seen, begins_itself c.args.session.now.seen, c.hold_sets.ensures.done)
