use Rattle.std.proofs.Common.{◌≡◌, length}
use Rattle.workspace.specs.Copies.{all_taken_back}
use Rattle.workspace.proofs.copies.take_all_back.Given as goal

abbrev pub invariant-loop-key : goal.invariant-loop-key
invariant-loop-key l = all_taken_back l.done.items l.written ≡ all_taken_back l.initial.done.items l.initial.written

abbrev pub decreases-loop-key : goal.decreases-loop-key
decreases-loop-key l = length l.done.items
