use Rattle.std.proofs.Common.{refl}
use Rattle.job_scripts.specs.laws.InFront.{refusal_in_front}
use Rattle.job_scripts.proofs.block.Block.refuse.Goals as goal

pub returns-clause-asked : goal.returns-clause-asked
returns-clause-asked c = λ job all before next is. refusal_in_front job all _ _ _ _ _ _ _ _ c.args.line.now c.args.refusal before next is c.in_ok-push.ensures.items refl refl
