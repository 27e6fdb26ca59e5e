use Rattle.std.proofs.Common.{◌≡◌, ◌++◌, take}
use Rattle.std.specs.List.{flat_map}
use Rattle.journal_lines.specs.Journals.{again_steps, lines_of}
use Rattle.journal_lines.proofs.pending.push_again.Given as goal

-- the lines of the LOCKs so far
abbrev pub invariant-locks : goal.invariant-locks
invariant-locks l = l.out.items ≡ l.fn.out.items ++ flat_map (λ p. lines_of (again_steps l.job p)) (take l.lock-index l.pending)
