use Rattle.typed_calls.specs.Typed.{IsNumberCause}
use Rattle.typed_calls.proofs.Within.{valued_within}
use Rattle.typed_calls.proofs.calls.increment.Goals as goal

pub returns-in-Ok : goal.returns-in-Ok
returns-in-Ok c = valued_within (IsNumberCause c.args.number.now) c.args.job _ _ _ _ _ _ _ _ c.in-Ok.ensures.ok c.in-Ok.ensures.within c.run_valued.ensures
