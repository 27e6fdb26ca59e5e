use Rattle.serial.specs.laws.Claims.{each_is_claimed}
use Rattle.serial.proofs.interleaving.each_unit_is_claimed.Goals as goal

pub returns : goal.returns
returns c = each_is_claimed
