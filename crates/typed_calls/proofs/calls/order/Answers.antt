use Rattle.typed_calls.specs.Typed.{IsPlaceCause}
use Rattle.typed_calls.proofs.Within.{valued_within}
use Rattle.typed_calls.proofs.calls.order.Goals as goal

pub returns-in-Ok : goal.returns-in-Ok
returns-in-Ok c = valued_within (IsPlaceCause c.args.level.now c.args.start.now) c.args.job _ _ _ _ _ _ _ _ c.in-Ok.ensures.ok c.in-Ok.ensures.within c.run_valued.ensures
