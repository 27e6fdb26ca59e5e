use Rattle.std.proofs.Common.{refl, arith}
use Rattle.job_scripts.proofs.Cutting.{cut_at_end, not_cut}
use Rattle.job_scripts.proofs.halves.halves_of.Goals as goal

pub returns-in-Some : goal.returns-in-Some
returns-in-Some c = cut_at_end c.args.text.now c.split_at.result.0.now c.split_at.result.1.now _ _ c.in-Some.end _ refl (omega arith) c.in-Some.ensures refl c.split_at.ensures.front c.split_at.ensures.back

pub returns-in-None : goal.returns-in-None
returns-in-None c = not_cut c.args.text.now c.split_at-in-None.result.0.now c.split_at-in-None.result.1.now c.split_at-in-None.ensures.front c.split_at-in-None.ensures.back
