use Rattle.std.proofs.Common.{◌≡◌, sym, ap, ◌∙◌}
use Rattle.validate_commit.specs.Working.{Working, just_begun}
use Rattle.job_core.proofs.Spares.{spare_more}
use Rattle.job_core.proofs.sessions.keep_spare.Goals as goal

pub returns-then-len-capacity : goal.returns-then-len-capacity
returns-then-len-capacity c =
    let w : Working = c.restart.new.self in
    let is : w ≡ just_begun w.job 0 = c.restart.ensures ∙ ap (λ (v : Working). just_begun v.job 0) (sym c.restart.ensures) in
    spare_more _ _ _ _ w c.push_reserved.ensures.items is c.push_reserved.ensures.capacity
