use Rattle.std.proofs.Common.{refl}
use Rattle.job_scripts.proofs.Placing.{line_pushed}
use Rattle.job_scripts.proofs.grouping.push_at.Goals as goal

pub returns : goal.returns
returns c = line_pushed c.args.scripts.now.items c.args.place _ c.index_mut.result.now c.args.line c.requires refl c.in_ok-push.ensures.items c.index_mut.ensures.value
