use Rattle.std.proofs.Common.{length}
use Rattle.key_codec.proofs.shown.+last_key.Given as goal

abbrev pub decreases-last_key : goal.decreases-last_key
decreases-last_key l = length l.keys.now
