use Rattle.std.proofs.Common.{arith, ◌≡◌, ◌+◌, ◌-◌, sym, subst}
use Rattle.journal.specs.Based.{map_in}
use Rattle.job_core.proofs.Between.{UnitsPassed, units_passed, units_passed_on}
use Rattle.job_core.proofs.noted.note_units.Goals as goal

pub loop-init : goal.loop-init
loop-init g c =
    let base = map_in c.args.base.now in
    let end = g.V.OrderedView.content c.args.end.now in
    let all : c.args.count - 0 ≡ c.args.count = omega arith in
    subst (λ n. UnitsPassed n c.args.units.now c.args.noted.now c.args.noted.now base end c.args.count c.args.units.now) (sym all) (units_passed c.args.count c.args.units.now c.args.noted.now base end c.requires)

pub loop-preserved : goal.loop-preserved
loop-preserved g c =
    units_passed_on (c.args.count - c.loop.counter) (c.args.count - (c.loop.counter + 1)) c.loop.units c.note_next.new.units c.args.units.now c.loop.noted c.note_next.new.noted c.args.noted.now (map_in c.args.base.now) (g.V.OrderedView.content c.args.end.now) c.args.count
    (omega (arith, c.loop-test.true)) c.in_ok-note_next.ensures c.loop.invariant
