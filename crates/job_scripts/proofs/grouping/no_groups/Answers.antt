use Rattle.std.proofs.Common.{rules}
use Rattle.job_scripts.proofs.Placing.{no_places}
use Rattle.job_scripts.proofs.grouping.no_groups.Goals as goal

pub returns-clause-places : goal.returns-clause-places
returns-clause-places c = no_places c.in_ok-places.places.items c.new.result.items (search rules) c.new.ensures.items
