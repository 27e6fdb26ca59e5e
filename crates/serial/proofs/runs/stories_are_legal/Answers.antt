use Rattle.serial.specs.laws.Good.{good_nothing}
use Rattle.serial.specs.laws.Runs.{good_replies}
use Rattle.serial.proofs.runs.stories_are_legal.Goals as goal

pub returns-clause-legal : goal.returns-clause-legal
returns-clause-legal c steps replies h = let good = good_replies steps replies _ h good_nothing in good.legal

pub returns-clause-sound : goal.returns-clause-sound
returns-clause-sound c steps replies h = let good = good_replies steps replies _ h good_nothing in good.sound
