use Rattle.serial.specs.laws.Touches.{touches}
use Rattle.serial.proofs.laws.commands_touch_what_they_write.Goals as goal

pub returns : goal.returns
returns c = touches
