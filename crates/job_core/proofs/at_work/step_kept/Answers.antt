use Rattle.job_core.specs.Joined.{machine_shown}
use Rattle.job_core.proofs.AtWork.{kept_step}
use Rattle.job_core.proofs.at_work.step_kept.Goals as goal

pub returns-clause-kept : goal.returns-clause-kept
returns-clause-kept c =
    kept_step c.args.ends.now.items c.args.engine.now.core.ends c.step.new.self.core.ends c.args.job c.args.command c.step.result (machine_shown c.args.engine.now) (machine_shown c.step.new.self) c.requires.kept c.requires.room c.step.ensures.ends c.step.ensures.step.machine
