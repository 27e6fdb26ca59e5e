use Rattle.stretches.proofs.Places.{some_before}
use Rattle.stretches.proofs.parts.part_before.Goals as goal

pub returns : goal.returns
returns c =
    some_before c.part_between.result c.args.stretch.now c.low.result c.high.result c.low.ensures c.high.ensures c.args.cut c.earlier.result c.earlier.ensures.first c.earlier.ensures.second c.part_between.ensures
