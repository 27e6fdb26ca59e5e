use Rattle.std.proofs.Common.{[], refl, ap, subst, ◌∙◌}
use Rattle.command.specs.declared.request.Command.TheVariants.{Halt}
use Rattle.command.specs.declared.request.Reply.{Reply}
use Rattle.journal.specs.Story.{told}
use Rattle.serial.specs.Machine.{IsReply}
use Rattle.live_server.proofs.Steps.{Ran-none, Ran-so-far, Ran-halted}
use Rattle.live_server.proofs.run.halt_one.Goals as goal

pub returns-in_default : goal.returns-in_default
returns-in_default c = λ text. Ran-so-far [] _ _ text text (Ran-none _ _ text refl refl refl refl refl)

pub returns-then-not-is_finished : goal.returns-then-not-is_finished
returns-then-not-is_finished c = λ text. Ran-so-far [] _ _ text text (Ran-none _ _ text (c.step-reply.ensures.machine ∙ c.is_finished.ensures.kept c.if-not-is_finished.true _ _) refl refl refl refl)

pub returns : goal.returns
returns c = let fin = c.is_finished.ensures.finished c.if-not-is_finished.false in λ text. Ran-halted _ _ _ text (subst (λ (r : Reply). IsReply c.in-Some.job Halt r c.args.live.now.script.core.machine) fin c.step-reply.ensures.exact) (c.step-reply.ensures.machine ∙ ap (λ (r : Reply). told c.in-Some.job Halt r c.args.live.now.script.core.machine) fin) refl c.note_line.ensures refl refl (rw c.as_slice.ensures at c.in-Some.ensures.among) c.in-Some.ensures.idle
