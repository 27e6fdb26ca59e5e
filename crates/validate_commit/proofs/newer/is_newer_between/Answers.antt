use Rattle.std.proofs.Common.{refl}
use Rattle.read_ranges.specs.Ranges.{between}
use Rattle.validate_commit.proofs.Ranges.{between_found, between_none, nothing_between}
use Rattle.validate_commit.proofs.newer.is_newer_between.Goals as goal

pub returns-then-is_at_most-clause-none : goal.returns-then-is_at_most-clause-none
returns-then-is_at_most-clause-none c = λ h x inside newer. nothing_between c.args.low c.args.high (c.if-is_at_most.ensures.yes refl) x inside

pub returns-clause-found : goal.returns-clause-found
returns-clause-found c = λ h. between_found c.args.store.now.versions c.args.stamp (between c.args.low c.args.high) c.args.low c.args.high c.newest_in.result c.is_after.result (λ x. refl) c.newest_in.ensures.newest c.is_after.ensures h

pub returns-clause-none : goal.returns-clause-none
returns-clause-none c = λ h. between_none c.args.store.now.versions c.args.stamp (between c.args.low c.args.high) c.args.low c.args.high c.newest_in.result c.is_after.result (λ x. refl) c.newest_in.ensures.newest c.is_after.ensures h
