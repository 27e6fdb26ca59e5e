use Rattle.std.proofs.Common.{◌≡◌, ◌≤◌, ◌+◌, ℕ, List, length}
use Rattle.key_codec.specs.Key.{long_form, subscripts_key, AreSubscriptsWithin}
use Rattle.key_codec.proofs.Counting.{IsLeft}
use Rattle.key_codec.proofs.count.count_subscripts.Given as goal

-- the rest is the keys of the subscripts that are not yet counted; it has a byte for each
abbrev pub invariant-loop-more : goal.invariant-loop-more
invariant-loop-more l =
    ((ss : List (List ℕ)) → AreSubscriptsWithin long_form ss → l.bytes ≡ subscripts_key long_form ss → IsLeft l.count l.rest ss) × (l.count + length l.rest ≤ length l.bytes)

abbrev pub decreases-loop-more : goal.decreases-loop-more
decreases-loop-more l = length l.rest
