use Rattle.std.proofs.Common.{sym, ap, ◌∙◌, length, ◌-◌}
use Rattle.job_core.proofs.ByReference.{last_is}
use Rattle.job_core.proofs.lent.last_of.Goals as goal

pub returns : goal.returns
returns c = λ front last is size. c.split_at.ensures.back ∙ last_is c.args.bytes.now front last c.args.size c.saturating_sub-start.result is size c.saturating_sub-start.ensures
