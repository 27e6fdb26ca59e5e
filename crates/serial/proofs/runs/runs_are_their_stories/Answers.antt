use Rattle.serial.specs.laws.Runs.{one_reply_each, story_of_run}
use Rattle.serial.proofs.runs.runs_are_their_stories.Goals as goal

pub returns-clause-replies : goal.returns-clause-replies
returns-clause-replies c = one_reply_each

pub returns-clause-story : goal.returns-clause-story
returns-clause-story c = story_of_run
