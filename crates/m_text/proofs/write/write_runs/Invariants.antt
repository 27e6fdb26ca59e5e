use Rattle.std.proofs.Common.{◌≡◌, ◌++◌, length}
use Rattle.key_codec.specs.Grown.{GoesOnFrom}
use Rattle.m_text.specs.Written.{parted, run_text, runs}
use Rattle.m_text.proofs.write.write_runs.Given as goal

-- what is written, and what the rest will add
abbrev pub invariant-runs : goal.invariant-runs
invariant-runs l = record {
  written : l.out.items ++ parted 95 run_text (runs l.rest) ≡ l.fn.out.items ++ parted 95 run_text (runs l.text);
  kept : GoesOnFrom l.fn.out.items l.out.items;
}

abbrev pub decreases-runs : goal.decreases-runs
decreases-runs l = length l.rest
