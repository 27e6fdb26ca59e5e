use Rattle.lock_table.proofs.Wants.{just_within}
use Rattle.lock_table.proofs.wanted.Wanted.release.Goals as goal

pub returns-in-Just-clause-within : goal.returns-in-Just-clause-within
returns-in-Just-clause-within c = just_within c.args.held.now c.in-Just.want c.take_all.new.self c.args.self.now c.args.names.now c.in-Just.is c.requires c.take_all.ensures
