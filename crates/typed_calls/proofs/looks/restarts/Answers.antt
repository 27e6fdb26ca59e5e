use Rattle.typed_calls.proofs.Asked.{restarts_stay}
use Rattle.typed_calls.proofs.looks.restarts.Goals as goal

pub ask-requires : goal.ask-requires
ask-requires c = restarts_stay c.in-Ok.job c.args.engine.now.core.machine
