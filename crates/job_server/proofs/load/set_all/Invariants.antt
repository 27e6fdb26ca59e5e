use Rattle.std.proofs.Common.{length}
use Rattle.loading.specs.Pending.{asked_of}
use Rattle.job_server.specs.Loads.{HasSetTo}
use Rattle.job_server.proofs.load.set_all.Given as goal

-- the first setting was done, and those behind it that came before what is left
abbrev pub invariant-settings : goal.invariant-settings
invariant-settings g l = HasSetTo l.fn.first (asked_of l.fn.settings) (asked_of l.settings) l.session

abbrev pub decreases-settings : goal.decreases-settings
decreases-settings g l = length l.settings.text
