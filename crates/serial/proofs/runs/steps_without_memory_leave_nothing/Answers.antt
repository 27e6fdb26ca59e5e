use Rattle.serial.specs.laws.Runs.{run_of_done}
use Rattle.serial.proofs.runs.steps_without_memory_leave_nothing.Goals as goal

pub returns-clause-story : goal.returns-clause-story
returns-clause-story c steps replies s h = let done = run_of_done steps replies s h in done.story

pub returns-clause-replies : goal.returns-clause-replies
returns-clause-replies c steps replies s h = let done = run_of_done steps replies s h in done.given
