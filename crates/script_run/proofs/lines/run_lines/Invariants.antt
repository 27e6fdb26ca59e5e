use Rattle.std.proofs.Common.{◌≡◌, ◌≤◌, ◌<◌, ◌-◌, length, drop}
use Rattle.listing.specs.declared.counted.TheConstants.{GATHERED_BYTES}
use Rattle.script_run.specs.Runs.{RanFront}
use Rattle.script_run.proofs.lines.run_lines.Given as goal

-- what stands before was answered, few enough stays gathered, and no call failed
abbrev pub invariant-lines : goal.invariant-lines
invariant-lines g l = record {
  in_range : l.at ≤ length l.text;
  ran : RanFront l.text (drop l.at l.text) l.fn.script l.script (g.W.Write.contents l.fn.writer.inner) (g.W.Write.contents l.writer.inner);
  few : length l.fn.script.out.items < GATHERED_BYTES → length l.script.out.items < GATHERED_BYTES;
  kept : l.writer.failures ≡ l.fn.writer.failures;
}

abbrev pub decreases-lines : goal.decreases-lines
decreases-lines g l = length l.text - l.at
