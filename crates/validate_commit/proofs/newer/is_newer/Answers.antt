use Rattle.std.proofs.Common.{refl, sym, subst}
use Rattle.std.specs.Prelude.{not, ◌&&◌}
use Rattle.read_ranges.specs.declared.range.ReadRange.TheVariants.{Between}
use Rattle.read_ranges.specs.Ranges.{is_in}
use Rattle.validate_commit.specs.Newer.{HasNewerIn, NoneNewerIn}
use Rattle.validate_commit.proofs.Ranges.{one_found, one_none, between_found, between_none}
use Rattle.validate_commit.proofs.newer.is_newer.Goals as goal

pub returns-in-One-clause-found : goal.returns-in-One-clause-found
returns-in-One-clause-found c = λ h. subst (λ r. HasNewerIn c.args.store.now.versions c.args.stamp (is_in r)) (sym c.in-One.is) (one_found c.args.store.now.versions c.args.stamp c.in-One.key _ c.is_newer_at.result refl c.is_newer_at.ensures h)

pub returns-in-One-clause-none : goal.returns-in-One-clause-none
returns-in-One-clause-none c = λ h. subst (λ r. NoneNewerIn c.args.store.now.versions c.args.stamp (is_in r)) (sym c.in-One.is) (one_none c.args.store.now.versions c.args.stamp c.in-One.key _ c.is_newer_at.result refl c.is_newer_at.ensures h)

pub returns-in-Between-clause-found : goal.returns-in-Between-clause-found
returns-in-Between-clause-found c = λ h.
    subst (λ r. HasNewerIn c.args.store.now.versions c.args.stamp (is_in r)) (sym c.in-Between.is)
    (between_found c.args.store.now.versions c.args.stamp (is_in (Between c.in-Between.low c.in-Between.high)) c.cut.result c.cut-in-Between.result c.newest_in.result c.is_after.result (λ x i. not (c.cut.ensures x i) && c.cut-in-Between.ensures x i) c.newest_in.ensures.newest c.is_after.ensures h)

pub returns-in-Between-clause-none : goal.returns-in-Between-clause-none
returns-in-Between-clause-none c = λ h.
    subst (λ r. NoneNewerIn c.args.store.now.versions c.args.stamp (is_in r)) (sym c.in-Between.is)
    (between_none c.args.store.now.versions c.args.stamp (is_in (Between c.in-Between.low c.in-Between.high)) c.cut.result c.cut-in-Between.result c.newest_in.result c.is_after.result (λ x i. not (c.cut.ensures x i) && c.cut-in-Between.ensures x i) c.newest_in.ensures.newest c.is_after.ensures h)
