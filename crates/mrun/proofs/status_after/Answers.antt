use Rattle.mrun.proofs.Statuses.{fault_stays, refused_stays, whatever_kept}
use Rattle.mrun.proofs.status_after.Goals as goal

pub returns-in-Some-Ok-clause-kept_fault : goal.returns-in-Some-Ok-clause-kept_fault
returns-in-Some-Ok-clause-kept_fault g c =
    whatever_kept c.args.kept (fault_stays c.args.outcome.now _ _ _ c.status_of.ensures.fault c.end.ensures.fault)

pub returns-in-Some-Ok-clause-kept_refused : goal.returns-in-Some-Ok-clause-kept_refused
returns-in-Some-Ok-clause-kept_refused g c =
    whatever_kept c.args.kept (refused_stays c.args.outcome.now _ _ _ c.status_of.ensures.refused c.end.ensures.kept)
