use Rattle.validate_commit.proofs.Ranges.{single_found, single_none, wide_none}
use Rattle.validate_commit.proofs.newer.is_newer_alone.Goals as goal

pub returns-in-One-clause-found : goal.returns-in-One-clause-found
returns-in-One-clause-found c = λ h. single_found c.args.store.now.versions c.args.stamp c.args.range.now _ c.in-One.is (c.is_newer.ensures.found h)

pub returns-in-One-clause-none : goal.returns-in-One-clause-none
returns-in-One-clause-none c = λ h. single_none c.args.store.now.versions c.args.stamp c.args.range.now _ c.in-One.is (c.is_newer.ensures.none h)

pub returns-in-Between-clause-none : goal.returns-in-Between-clause-none
returns-in-Between-clause-none c = λ h. wide_none c.args.store.now.versions c.args.stamp c.args.range.now _ _ c.in-Between.is
