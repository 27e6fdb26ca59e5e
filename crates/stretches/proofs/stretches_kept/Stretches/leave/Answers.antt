use Rattle.std.proofs.Common.{subst}
use Rattle.stretches.specs.Empty.{AreEmptyBut}
use Rattle.stretches.specs.declared.left.Left.{Left}
use Rattle.stretches.proofs.Places.{empty_out}
use Rattle.stretches.proofs.stretches_kept.Stretches.leave.Goals as goal

pub returns-in-Without : goal.returns-in-Without
returns-in-Without c = λ m but.
    empty_out c.in-Without.range c.low.result c.high.result c.args.self.now c.take_out.new.self c.low.ensures c.high.ensures c.take_out.ensures m
    (subst (λ (l : Left). AreEmptyBut l c.args.self.now m) c.in-Without.is but)
