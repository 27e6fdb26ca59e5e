use Rattle.std.proofs.Common.{[], refl}
use Rattle.validate_commit.specs.laws.Agreement.{agreed_nothing}
use Rattle.refused_memory.proofs.Ready.{ready_begun}
use Rattle.refused_memory.proofs.commit.side.Side.new.Goals as goal

pub invariant_of-result : goal.invariant_of-result
invariant_of-result c = rw (c.new.ensures, c.new-2.ensures.units, c.new-4.ensures) (ready_begun _ [] c.args.job 0 agreed_nothing refl)
