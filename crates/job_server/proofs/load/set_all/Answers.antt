use Rattle.std.proofs.Common.{[]}
use Rattle.loading.specs.Pending.{asked_of}
use Rattle.job_server.proofs.Loads.{first_set}
use Rattle.job_server.proofs.load.set_all.Goals as goal

pub settings-init : goal.settings-init
settings-init g c = first_set c.args.first (asked_of c.args.settings.now) c.set.new.session (c.in_ok-set.ensures.done [] c.requires)
