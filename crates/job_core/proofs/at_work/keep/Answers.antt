use Rattle.std.proofs.Common.{true, ap, sym, subst, refl, ◌∙◌, ◌<◌, ◌+◌, length, set}
use Rattle.job_core.specs.AtWork.{AreKept}
use Rattle.job_core.specs.Common.{Common}
use Rattle.job_core.proofs.AtWork.{kept_alike, kept_more, kept_same}
use Rattle.job_core.proofs.at_work.keep.Goals as goal

pub returns-in-Ok-keep_end-clause-room : goal.returns-in-Ok-keep_end-clause-room
returns-in-Ok-keep_end-clause-room c = λ s h.
    let flags = c.reach.new.ends.items in
    let is = c.number-number.ensures.value in
    let ends = c.args.core.now.ends in
    let alike = kept_alike c.args.ends.now.items flags ends ends s h c.reach.ensures.count c.reach.ensures.same refl in
    let more = kept_more flags ends c.args.job s alike (subst (λ n. n < length flags) is c.in-Ok.ensures.reached) (c.reach.ensures.same c.args.job ∙ c.requires) in
    subst (λ n. AreKept (set flags n true) c.keep_end.new.self.ends s) (sym is)
    (kept_same (set flags c.args.job true) (ends + 1) c.keep_end.new.self.ends s s more (ap (λ (k : Common). k.ends) c.in-Ok-keep_end.ensures.kept) refl)
