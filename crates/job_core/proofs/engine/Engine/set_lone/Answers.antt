use Rattle.std.proofs.Common.{refl, ap, inl, inr}
use Rattle.std.specs.Prelude.{Some, None}
use Rattle.command.specs.declared.access.DataCommand.TheVariants.{Set}
use Rattle.command.specs.declared.access.Answer.TheVariants.{Done}
use Rattle.journal.specs.Kept.{Claim}
use Rattle.job_core.specs.Common.{Common}
use Rattle.job_core.proofs.Joined.{cut_at}
use Rattle.job_core.proofs.DataCommands.{answered_outside, refused_outside}
use Rattle.job_core.proofs.ByReference.{set_never_early}
use Rattle.job_core.proofs.engine.Engine.set_lone.Goals as goal

pub returns-in-Ok-clause-step : goal.returns-in-Ok-clause-step
returns-in-Ok-clause-step c = answered_outside c.args.job (Set c.args.key.now c.args.value.now) c.args.self.now c.requires.whole Done c.in-Ok._receipt c.oldest-oldest.result c.set_lone.new.self c.requires.none refl refl c.in-Ok.ensures.added
    c.oldest-oldest.ensures

pub returns-in-Err-clause-step : goal.returns-in-Err-clause-step
returns-in-Err-clause-step c = refused_outside c.args.job (Set c.args.key.now c.args.value.now) c.args.self.now c.requires.whole {A = Claim} c.in-Err.refusal c.set_lone.new.self c.requires.none c.in-Err.ensures.cause c.in-Err.ensures.refused c.in-Err.ensures.agreed
    (set_never_early c.args.key.now c.args.value.now c.in-Err.refusal)

pub returns-in-Ok-clause-left : goal.returns-in-Ok-clause-left
returns-in-Ok-clause-left c = inr (cut_at _ c.args.self.now.core c.set_lone.new.self _ _ c.oldest-oldest.result c.in-Ok.ensures.added c.oldest-oldest.ensures)

pub returns-in-Err-clause-left : goal.returns-in-Err-clause-left
returns-in-Err-clause-left c = inl c.in-Err.ensures.refused.units
