use Rattle.std.proofs.Common.{ℕ, refl}
use Rattle.collation.specs.Answers.{is_forward, order_of}
use Rattle.command.specs.declared.access.DataCommand.TheVariants.{Look}
use Rattle.command.specs.declared.access.Look.TheVariants.{Order}
use Rattle.command.specs.declared.access.Answer.TheVariants.{Value}
use Rattle.journal.specs.History.{initial, after}
use Rattle.journal.specs.Kept.{Claim}
use Rattle.job_core.proofs.DataCommands.{answered_outside, refused_outside}
use Rattle.job_core.proofs.ByReference.{unchanged_same}
use Rattle.job_core.proofs.Inside.{just_got_outside}
use Rattle.job_core.proofs.engine.Engine.order_lone.Goals as goal

pub returns-in-Ok-clause-step : goal.returns-in-Ok-clause-step
returns-in-Ok-clause-step c = answered_outside c.args.job (Look (Order c.args.place.now c.args.direction)) c.args.self.now c.requires.whole (Value (order_of (is_forward c.args.direction) c.args.place.now (after c.args.self.now.core.units initial).map)) c.in-Ok.told.1 c.oldest-oldest.result c.order_lone.new.self c.requires.none refl c.in-Ok.ensures.accepted c.in-Ok.ensures.added
    c.oldest-oldest.ensures

pub returns-in-Err-clause-step : goal.returns-in-Err-clause-step
returns-in-Err-clause-step c = refused_outside c.args.job (Look (Order c.args.place.now c.args.direction)) c.args.self.now c.requires.whole {A = ℕ × Claim} c.in-Err.refusal c.order_lone.new.self c.requires.none c.in-Err.ensures.cause (unchanged_same c.args.self.now.core c.order_lone.new.self c.in-Err.ensures.refused) c.in-Err.ensures.agreed
    c.in-Err.ensures.early

pub returns-in-Ok-clause-got : goal.returns-in-Ok-clause-got
returns-in-Ok-clause-got c = just_got_outside c.order_lone.new.self.units c.args.self.now.sessions c.args.job c.order_lone.new.self.base _ c.requires.none c.in-Ok.ensures.got
