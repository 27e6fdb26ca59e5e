use Rattle.job_core.specs.laws.Views.{view_begins, view_stays, view_shows}
use Rattle.job_core.proofs.laws.views_stay_beside_others.Goals as goal

pub returns-clause-begins : goal.returns-clause-begins
returns-clause-begins c = view_begins

pub returns-clause-stays : goal.returns-clause-stays
returns-clause-stays c = view_stays

pub returns-clause-shows : goal.returns-clause-shows
returns-clause-shows c = view_shows
