use Rattle.read_ranges.specs.Ranges.{between}
use Rattle.validate_commit.proofs.Ranges.{past_found, past_none}
use Rattle.validate_commit.proofs.newer.is_newer_past.Goals as goal

pub returns-clause-found : goal.returns-clause-found
returns-clause-found c = λ h. past_found c.args.store.now.versions c.args.stamp c.rest_from-from.result c.high.result c.args.range.now c.rest_from-from.ensures.inside c.high.ensures (c.is_newer_between.ensures.found h)

pub returns-clause-none : goal.returns-clause-none
returns-clause-none c = λ h. past_none c.args.store.now.versions c.args.stamp c.rest_from-from.result c.high.result c.args.range.now c.rest_from-from.ensures.inside c.high.ensures (between c.args.low c.args.high) c.rest_from-from.ensures.passed c.requires (c.is_newer_between.ensures.none h)
