use Rattle.std.proofs.Common.{ap, map}
use Rattle.job_scripts.specs.Groups.{shown}
use Rattle.job_scripts.proofs.Joining.{are_joined}
use Rattle.job_scripts.proofs.halves.joined.Goals as goal

pub returns : goal.returns
returns c = are_joined _ _ _ _ _ (ap (map shown) c.in_ok-groups.ensures.none) c.in_ok-take_scripts.ensures.scripts c.in_ok-take_scripts-2.ensures.scripts
