use Rattle.std.proofs.Common.{refl, sym, ◌∙◌}
use Rattle.listing.specs.laws.Bytes.{on_err}
use Rattle.live_server.proofs.Steps.{Ran-pushed, Lacked-before}
use Rattle.live_server.proofs.live.take_unread.Goals as goal

pub push-requires : goal.push-requires
push-requires g c = sym c.requires.1 ∙ c.in-Some.ensures

pub returns-in_ok-push-in-Some-clause-ran : goal.returns-in_ok-push-in-Some-clause-ran
returns-in_ok-push-in-Some-clause-ran g c = λ text. Ran-pushed _ _ _ _ text c.in_ok-push-in-Some.ensures.pushed (sym c.requires.1 ∙ c.in-Some.ensures) refl refl refl refl

pub returns-in_err-push-in-Some-clause-err : goal.returns-in_err-push-in-Some-clause-err
returns-in_err-push-in-Some-clause-err g c = on_err _ _ (Lacked-before _ _ _ refl)
