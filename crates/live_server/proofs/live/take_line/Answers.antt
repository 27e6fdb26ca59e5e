use Rattle.std.proofs.Common.{refl}
use Rattle.std.proofs.lemmas.Result.{on_ok_weaker, on_err_weaker}
use Rattle.live_server.proofs.Steps.{Ran-from, Lacked-from}
use Rattle.live_server.proofs.live.take_line.Goals as goal

pub returns-in-Ok-clause-ran : goal.returns-in-Ok-clause-ran
returns-in-Ok-clause-ran g c = on_ok_weaker c.take_asked.result (λ h text. Ran-from _ _ _ _ text text refl refl refl refl refl (h text)) c.take_asked.ensures.ran

pub returns-in-Ok-clause-err : goal.returns-in-Ok-clause-err
returns-in-Ok-clause-err g c = on_err_weaker c.take_asked.result (λ h. Lacked-from _ _ _ _ refl refl refl refl refl h) c.take_asked.ensures.err

pub returns-in-Err-clause-ran : goal.returns-in-Err-clause-ran
returns-in-Err-clause-ran g c = on_ok_weaker c.take_unread.result (λ h text. Ran-from _ _ _ _ text text refl refl refl refl refl (h text)) c.take_unread.ensures.ran

pub returns-in-Err-clause-err : goal.returns-in-Err-clause-err
returns-in-Err-clause-err g c = on_err_weaker c.take_unread.result (λ h. Lacked-from _ _ _ _ refl refl refl refl refl h) c.take_unread.ensures.err
