use Rattle.std.proofs.Common.{◌≡◌, ◌*◌, ◌≤◌, take}
use Rattle.key_codec.proofs.bytes.room_before_past.Given as goal

abbrev pub invariant-loop-word : goal.invariant-loop-word
invariant-loop-word l = record {
  few : l.word ≤ 4;
  same : take (8 * l.word) l.first ≡ take (8 * l.word) l.second;
}
