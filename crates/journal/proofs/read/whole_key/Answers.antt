use Rattle.journal.specs.laws.Reading.{key_keeps}
use Rattle.journal.proofs.read.whole_key.Goals as goal

pub from_slice-requires : goal.from_slice-requires
from_slice-requires c = key_keeps c.args.bytes.now _ c.in_ok-reference.ensures.some
