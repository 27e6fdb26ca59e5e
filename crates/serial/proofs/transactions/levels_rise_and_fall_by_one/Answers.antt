use Rattle.serial.specs.laws.Levels.{levels_tell, no_levels, levels_stay_within}
use Rattle.serial.proofs.transactions.levels_rise_and_fall_by_one.Goals as goal

pub returns-clause-inside : goal.returns-clause-inside
returns-clause-inside c = levels_tell

pub returns-clause-outside : goal.returns-clause-outside
returns-clause-outside c = no_levels

pub returns-clause-within : goal.returns-clause-within
returns-clause-within c = levels_stay_within
