use Rattle.std.proofs.Common.{refl, sym, ◌∙◌}
use Rattle.loading.proofs.Sets.{set_ok}
use Rattle.loading.proofs.settings.set.Goals as goal

pub returns-then-is_done-clause-ok : goal.returns-then-is_done-clause-ok
returns-then-is_done-clause-ok c =
    let answered = sym c.is_answer-is_done.ensures ∙ c.if-is_done.true in
    set_ok _ _ _ (c.args.key, c.args.value) _ _ c.loading_job.ensures refl answered c.requires c.step-reply.ensures.machine c.step-reply.ensures.exact
