use Rattle.serial.specs.laws.Good.{good_run, good_nothing}
use Rattle.serial.proofs.runs.runs_are_legal.Goals as goal

pub returns : goal.returns
returns c steps = let good = good_run steps _ good_nothing in good.legal
