use Rattle.std.proofs.Common.{refl}
use Rattle.job_scripts.proofs.Joining.{lines_appended}
use Rattle.job_scripts.proofs.halves.append_at.Goals as goal

pub returns : goal.returns
returns c = lines_appended c.args.scripts.now.items c.args.place _ c.index_mut.result.now c.args.lines.items c.requires refl c.in_ok-append.ensures.items c.index_mut.ensures.value
