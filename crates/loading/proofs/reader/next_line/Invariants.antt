use Rattle.std.proofs.Common.{◌≡◌, ◌≤◌, ◌+◌, length}
use Rattle.loading.specs.Lines.{all_lines}
use Rattle.loading.specs.Settings.{asked_from}
use Rattle.loading.proofs.reader.next_line.Given as goal

-- the lines before are empty
abbrev pub invariant-lines : goal.invariant-lines
invariant-lines l = record {
  asked : asked_from l.first (all_lines l.text) ≡ asked_from l.number (all_lines l.rest);
  small : l.number + length l.rest ≤ l.first + length l.text;
  shorter : length l.rest ≤ length l.text;
}

abbrev pub decreases-lines : goal.decreases-lines
decreases-lines l = length l.rest
