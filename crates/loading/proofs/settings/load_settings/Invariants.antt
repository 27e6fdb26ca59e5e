use Rattle.std.proofs.Common.{◌≡◌, length}
use Rattle.loading.specs.Pending.{asked_of}
use Rattle.loading.specs.Loaded.{IsSoFar}
use Rattle.loading.proofs.settings.load_settings.Given as goal

-- the settings before what is left were done, and the journal keeps what it kept
abbrev pub invariant-settings : goal.invariant-settings
invariant-settings g l = record {
  so_far : IsSoFar (asked_of l.fn.settings) (asked_of l.settings) l.fn.core.machine l.core.machine;
  base : l.core.base ≡ l.fn.core.base;
}

abbrev pub decreases-settings : goal.decreases-settings
decreases-settings g l = length l.settings.text
