use Rattle.std.proofs.Common.{Bool, ◌||◌, ◌∙◌, ap}
use Rattle.script_run.specs.laws.Outcomes.{outcome_is}
use Rattle.script_run.proofs.outcome.Outcome.with.Goals as goal

pub returns : goal.returns
returns c = outcome_is _ _ (c.either.ensures ∙ ap (λ (b : Bool). c.args.self.refused || b) c.is_refusal.ensures) (c.either-2.ensures ∙ ap (λ (b : Bool). c.args.self.wanting || b) c.is_wanting.ensures)
