use Rattle.std.proofs.Common.{arith, refl}
use Rattle.read_ranges.specs.Ranges.{is_in}
use Rattle.validate_commit.proofs.Ranges.{inside_next, none_next, none_left}
use Rattle.validate_commit.proofs.newer.is_newer_in_each.Goals as goal

pub loop-range-preserved : goal.loop-range-preserved
loop-range-preserved c =
    let rs = c.args.ranges.now in
    let i = c.loop-range.range-index in
    let range = c.range-item.result in
    record {
      inside = inside_next rs i _ range (omega arith) (omega arith) c.range-item.is is_in c.loop-range.invariant.inside;
      left = none_next rs i _ range (omega arith) (omega arith) c.range-item.is is_in c.args.store.now.versions c.args.stamp (c.if-is_newer.ensures.none refl) c.loop-range.invariant.left;
    }

pub returns-clause-none : goal.returns-clause-none
returns-clause-none c = λ h. c.loop-range.invariant.left (none_left c.args.ranges.now c.loop-range.range-index (omega arith) is_in c.args.store.now.versions c.args.stamp)
