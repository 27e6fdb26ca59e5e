use Rattle.typed_calls.proofs.Asked.{level_stays}
use Rattle.typed_calls.proofs.looks.level.Goals as goal

pub ask-requires : goal.ask-requires
ask-requires c = level_stays c.in-Ok.job c.args.engine.now.core.machine
