use Rattle.std.proofs.Common.{refl}
use Rattle.listing.specs.laws.Bytes.{on_err}
use Rattle.live_server.proofs.Steps.{Ran-pushed, Lacked-before}
use Rattle.live_server.proofs.live.take_asked.Goals as goal

pub returns-then-has_lines-clause-ran : goal.returns-then-has_lines-clause-ran
returns-then-has_lines-clause-ran g c = λ text. Ran-pushed _ _ _ _ text c.in_ok-push.ensures.pushed c.requires.asked.owner refl refl refl refl

pub returns-in_err-push-clause-err : goal.returns-in_err-push-clause-err
returns-in_err-push-clause-err g c = on_err _ _ (Lacked-before _ _ _ refl)

pub take_data-requires-clause-idle : goal.take_data-requires-clause-idle
take_data-requires-clause-idle g c = c.has_lines.ensures.none c.if-has_lines.false

pub take_other-requires-clause-idle : goal.take_other-requires-clause-idle
take_other-requires-clause-idle g c = c.has_lines.ensures.none c.if-has_lines.false
