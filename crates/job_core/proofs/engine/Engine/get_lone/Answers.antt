use Rattle.std.proofs.Common.{List, ℕ, refl, ap, subst, length, ◌∙◌, inl, inr}
use Rattle.std.specs.Prelude.{Some, None}
use Rattle.command.specs.declared.access.DataCommand.TheVariants.{Look}
use Rattle.command.specs.declared.access.Look.TheVariants.{Get}
use Rattle.command.specs.declared.access.Answer.TheVariants.{Value}
use Rattle.journal.specs.History.{initial, after}
use Rattle.journal.specs.Kept.{Claim}
use Rattle.command.specs.declared.request.Command.TheVariants.{Access}
use Rattle.command.specs.declared.request.Reply.TheVariants.{Answered}
use Rattle.job_core.specs.Joined.{IsStep}
use Rattle.job_core.specs.Lent.{value_at, HasGot}
use Rattle.job_core.specs.Sessions.{machine_of}
use Rattle.job_core.specs.Common.{Common}
use Rattle.job_core.proofs.Joined.{cut_at}
use Rattle.job_core.proofs.DataCommands.{answered_outside, refused_outside}
use Rattle.job_core.proofs.ByReference.{get_never_early, unchanged_same}
use Rattle.job_core.proofs.Inside.{value_outside, just_got_outside}
use Rattle.job_core.proofs.engine.Engine.get_lone.Goals as goal

pub returns-in-Ok-clause-step : goal.returns-in-Ok-clause-step
returns-in-Ok-clause-step c =
    subst (λ (v : List ℕ). IsStep c.args.job (Access (Look (Get c.args.key.now None))) (Answered (Value v)) c.args.self.now (record c.args.self.now { core = c.get_lone.new.self })) (value_outside c.args.self.now.core.units c.args.self.now.sessions c.args.job c.args.key.now c.requires.none)
    (answered_outside c.args.job (Look (Get c.args.key.now None)) c.args.self.now c.requires.whole (Value (value_at c.args.key.now (after c.args.self.now.core.units initial).map)) c.in-Ok._receipt c.oldest-oldest.result c.get_lone.new.self c.requires.none refl refl c.in-Ok.ensures.added
    c.oldest-oldest.ensures)

pub returns-in-Err-clause-step : goal.returns-in-Err-clause-step
returns-in-Err-clause-step c = refused_outside c.args.job (Look (Get c.args.key.now None)) c.args.self.now c.requires.whole {A = Claim} c.in-Err.refusal c.get_lone.new.self c.requires.none c.in-Err.ensures.cause (unchanged_same c.args.self.now.core c.get_lone.new.self c.in-Err.ensures.refused) c.in-Err.ensures.agreed
    (get_never_early c.args.key.now c.in-Err.refusal)

pub returns-in-Ok-clause-left : goal.returns-in-Ok-clause-left
returns-in-Ok-clause-left c = inr (cut_at _ c.args.self.now.core c.get_lone.new.self _ _ c.oldest-oldest.result c.in-Ok.ensures.added c.oldest-oldest.ensures)

pub returns-in-Err-clause-left : goal.returns-in-Err-clause-left
returns-in-Err-clause-left c = inl (ap (λ (k : Common). k.units) c.in-Err.ensures.refused)

pub returns-in-Ok-clause-got : goal.returns-in-Ok-clause-got
returns-in-Ok-clause-got c =
    let new = c.get_lone.new.self in
    let sessions = c.args.self.now.sessions in
    subst (λ (v : List ℕ). HasGot c.args.job v new.base (machine_of new.units sessions)) (value_outside c.args.self.now.core.units sessions c.args.job c.args.key.now c.requires.none)
    (just_got_outside new.units sessions c.args.job new.base _ c.requires.none c.in-Ok.ensures.got)

pub returns-in-Ok-clause-size : goal.returns-in-Ok-clause-size
returns-in-Ok-clause-size c = c.in-Ok.ensures.size ∙ ap length (value_outside c.args.self.now.core.units c.args.self.now.sessions c.args.job c.args.key.now c.requires.none)
