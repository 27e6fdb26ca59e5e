use Rattle.stretches.proofs.Places.{some_behind}
use Rattle.stretches.proofs.parts.part_behind.Goals as goal

pub returns : goal.returns
returns c =
    some_behind c.part_between.result c.args.stretch.now c.low.result c.high.result c.low.ensures c.high.ensures c.args.cut c.later.result c.later.ensures.first c.later.ensures.second c.part_between.ensures
