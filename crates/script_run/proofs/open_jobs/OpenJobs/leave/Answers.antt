use Rattle.std.proofs.Common.{◌≡◌, true, ap, sym, ◌∙◌, rules, arith}
use Rattle.std.proofs.lemmas.Fn.{filter_same}
use Rattle.script_run.specs.OpenJobs.{is_open, without_job}
use Rattle.script_run.proofs.Flags.{flagged_less, without_none}
use Rattle.script_run.proofs.open_jobs.OpenJobs.leave.Goals as goal

pub returns-then-is_open : goal.returns-then-is_open
returns-then-is_open c = filter_same _ _ _ (λ x b f' k. search rules) _ _ c.retain.ensures.filtered ∙ ap (without_job c.args.job) c.self.view_is

pub returns-else-is_open : goal.returns-else-is_open
returns-else-is_open c = sym (without_none c.args.job c.args.self.now (sym c.is_open.ensures ∙ c.if-is_open.false))

pub invariant_of-self : goal.invariant_of-self
invariant_of-self c =
    let opened : is_open c.args.job c.self.inside.order.items ≡ true = ap (is_open c.args.job) c.self.view_is ∙ sym c.is_open.ensures ∙ c.if-is_open.true in
    let retained = c.retain.ensures in
    let left : c.retain.new.self.items ≡ without_job c.args.job c.self.inside.order.items = filter_same _ _ _ (λ x b f' k. search rules) _ _ retained.filtered in
    rw (left, retained.capacity, c.number.ensures.value) (flagged_less _ _ _ c.args.job c.self.invariant (omega (arith, c.number.ensures.value, c.number.ensures.high)) opened)
