use Rattle.std.proofs.Common.{refl, sym, subst, List}
use Rattle.std.specs.Prelude.{Some}
use Rattle.listing.specs.laws.Bytes.{on_err}
use Rattle.std.proofs.lemmas.Result.{on_ok_weaker, on_err_weaker}
use Rattle.live_server.specs.Runs.{IsIdle}
use Rattle.live_server.proofs.Steps.{Ran-pushed, Ran-from, Lacked-from, Ran-and-none, Lacked-and-none}
use Rattle.live_server.specs.Desks.{DeskShown}
use Rattle.live_server.proofs.live.take_lock.Goals as goal

pub returns-in_ok-do_first-in-Ok-clause-ran : goal.returns-in_ok-do_first-in-Ok-clause-ran
returns-in_ok-do_first-in-Ok-clause-ran g c = λ text. Ran-and-none _ _ _ _ text text text (Ran-pushed _ _ _ _ text c.in-Ok.ensures.pushed c.requires.asks.asks.1 refl refl refl refl) (c.in_ok-do_first-in-Ok.ensures.ran text)

pub returns-in_err-do_first-in-Ok-clause-err : goal.returns-in_err-do_first-in-Ok-clause-err
returns-in_err-do_first-in-Ok-clause-err g c = on_err _ _ (Lacked-and-none _ _ _ _ (λ text. Ran-pushed _ _ _ _ text c.in-Ok.ensures.pushed c.requires.asks.asks.1 refl refl refl refl) refl c.in_err-do_first-in-Ok.ensures.err)

pub gather_wanting-requires-clause-idle : goal.gather_wanting-requires-clause-idle
gather_wanting-requires-clause-idle g c = subst (λ (d : List DeskShown). IsIdle (Some c.args.job) d) (sym c.in-Err.ensures.kept) c.requires.idle

pub returns-in-Err-clause-ran : goal.returns-in-Err-clause-ran
returns-in-Err-clause-ran g c = on_ok_weaker c.gather_wanting.result (λ h text. Ran-from _ _ _ _ text text refl refl refl refl c.in-Err.ensures.kept (h text)) c.gather_wanting.ensures.ran

pub returns-in-Err-clause-err : goal.returns-in-Err-clause-err
returns-in-Err-clause-err g c = on_err_weaker c.gather_wanting.result (λ h. Lacked-from _ _ _ _ refl refl refl refl c.in-Err.ensures.kept h) c.gather_wanting.ensures.err
