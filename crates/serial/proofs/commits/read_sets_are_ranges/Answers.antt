use Rattle.serial.specs.laws.ReadRanges.{reads_range}
use Rattle.serial.proofs.commits.read_sets_are_ranges.Goals as goal

pub returns : goal.returns
returns c = reads_range
