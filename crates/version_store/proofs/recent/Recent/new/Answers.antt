use Rattle.std.proofs.lemmas.List.{get_or-replicate}
use Rattle.std.proofs.Common.{arith}
use Rattle.std.proofs.Math.Nat.{mod-lt}
use Rattle.key_codec.specs.Key.{key_of}
use Rattle.version_store.specs.Noted.{place_of}
use Rattle.version_store.proofs.recent.Recent.new.Goals as goal

pub returns : goal.returns
returns c = λ r. get_or-replicate 256 (place_of (key_of r)) c.args.stamp 0 (mod-lt _ (omega arith))
