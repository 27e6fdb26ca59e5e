use Rattle.std.proofs.Common.{refl, sym, subst, ℕ, ◌∙◌}
use Rattle.std.specs.Prelude.{Option}
use Rattle.std.proofs.lemmas.Result.{on_ok_weaker, on_err_weaker}
use Rattle.live_server.proofs.Steps.{Ran-from, Lacked-from}
use Rattle.live_server.specs.Runs.{IsIdle}
use Rattle.live_server.proofs.live.take_other.Goals as goal

pub take_command-requires-clause-asked : goal.take_command-requires-clause-asked
take_command-requires-clause-asked g c = c.in-Ok.ensures.command _ c.requires.asked

pub returns-in-Ok-clause-ran : goal.returns-in-Ok-clause-ran
returns-in-Ok-clause-ran g c = on_ok_weaker c.take_command.result (λ h text. Ran-from _ _ _ _ text text refl refl refl refl refl (h text)) c.take_command.ensures.ran

pub returns-in-Ok-clause-err : goal.returns-in-Ok-clause-err
returns-in-Ok-clause-err g c = on_err_weaker c.take_command.result (λ h. Lacked-from _ _ _ _ refl refl refl refl refl h) c.take_command.ensures.err

pub gather_refusal-requires-clause-fault : goal.gather_refusal-requires-clause-fault
gather_refusal-requires-clause-fault g c = c.in-Err.ensures.command _ c.requires.asked

pub gather_refusal-requires-clause-idle : goal.gather_refusal-requires-clause-idle
gather_refusal-requires-clause-idle g c = subst (λ (o : Option ℕ). IsIdle o c.args.live.now.desks) (sym ((c.in-Err.ensures.command _ c.requires.asked).1 ∙ c.requires.asked.owner)) c.requires.idle

pub returns-in-Err-clause-ran : goal.returns-in-Err-clause-ran
returns-in-Err-clause-ran g c = on_ok_weaker c.gather_refusal.result (λ h text. Ran-from _ _ _ _ text text refl refl refl refl refl (h text)) c.gather_refusal.ensures.ran

pub returns-in-Err-clause-err : goal.returns-in-Err-clause-err
returns-in-Err-clause-err g c = on_err_weaker c.gather_refusal.result (λ h. Lacked-from _ _ _ _ refl refl refl refl refl h) c.gather_refusal.ensures.err
