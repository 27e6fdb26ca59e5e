-- When the collector or a checkpoint is due, which come again and again.
use Rattle.std.specs.Prelude.{ℕ, ◌≡◌, ◌≤◌, ◌⊎◌, ◌-◌, Bool, false, ◌==◌, if◌then◌else◌}
use Rattle.journal.specs.Checkpoints.{IsCheckpoint}
use Rattle.job_core.specs.Cores.{Cored}
use Rattle.script_run.specs.declared.upkeep.TheConstants.{CHEAP_LINES, LINES_AFTER_WANT}
use Rattle.script_run.specs.declared.upkeep.Pace.{Pace}
use Rattle.script_run.specs.declared.upkeep.Pace.TheVariants.{Never, Every, WhereCheap}
use Rattle.script_run.specs.declared.upkeep.Countdown.{Countdown}

-- after how many lines, again and again; 0 is never
unfoldable pub lines_of : Pace → ℕ
lines_of Never = 0
lines_of (Every lines) = lines
lines_of WhereCheap = CHEAP_LINES

-- before the first line: due after so many, or never where that is 0
abbrev pub counting : Pace → Countdown
counting pace = record { pace = pace; left = lines_of pace }

-- after a line more: the last one that was left begins the count anew, and none left stays so
abbrev pub counted : Countdown → Countdown
counted c = record { pace = c.pace; left = if c.left == 1 then lines_of c.pace else c.left - 1 }

-- whether this is due at this count, and waits until it costs little
unfoldable pub is_awaited_at : ℕ → Pace → Bool
is_awaited_at left Never = false
is_awaited_at left (Every _) = false
is_awaited_at left WhereCheap = left == 1

-- whether something is due that waits until it costs little
abbrev pub is_awaited : Countdown → Bool
is_awaited c = is_awaited_at c.left c.pace

-- what came of a checkpoint that waited: left for the next line, taken, or put off for want of memory; by the lines until the next try
abbrev pub IsTried : ℕ → Cored → Cored → Type 0
IsTried lines before after =
    ((lines ≡ 1) × (after ≡ before))
    ⊎ (((CHEAP_LINES ≤ lines) × IsCheckpoint after.base before.machine)
    ⊎ ((lines ≡ LINES_AFTER_WANT) × (after ≡ before)))
