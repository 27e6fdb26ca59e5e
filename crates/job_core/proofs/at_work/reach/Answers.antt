use Rattle.std.proofs.Common.{◌∙◌, ap, false, get_or}
use Rattle.job_core.specs.AtWork.{tally}
use Rattle.job_core.proofs.AtWork.{tally_longer, flags_longer}
use Rattle.job_core.proofs.at_work.reach.Goals as goal

pub loop-ends-preserved : goal.loop-ends-preserved
loop-ends-preserved c =
    let flags = c.loop-ends.ends.items in
    record {
      count = ap tally c.in_ok-push.ensures.items ∙ tally_longer flags ∙ c.loop-ends.invariant.count;
      same = λ n. ap (λ l. get_or l n false) c.in_ok-push.ensures.items ∙ flags_longer flags n ∙ c.loop-ends.invariant.same n;
    }
