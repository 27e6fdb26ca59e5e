use Rattle.listing.specs.laws.Bytes.{on_err}
use Rattle.live_server.proofs.Steps.{Ran-and-none, Broke-and-none}
use Rattle.live_server.proofs.run.take_some.Goals as goal

pub returns-in_err-take_or_end-clause-err : goal.returns-in_err-take_or_end-clause-err
returns-in_err-take_or_end-clause-err g c = on_err _ _ c.in_err-take_or_end.ensures.err

pub returns-in_err-note_done-clause-err : goal.returns-in_err-note_done-clause-err
returns-in_err-note_done-clause-err g c = on_err _ _ (Broke-and-none _ _ _ _ _ _ c.in_ok-take_or_end.ensures.ran c.in_err-note_done.ensures.err)

pub returns-in_err-try_all-clause-err : goal.returns-in_err-try_all-clause-err
returns-in_err-try_all-clause-err g c = on_err _ _ (Broke-and-none _ _ _ _ _ _ (Ran-and-none _ _ _ _ _ _ _ c.in_ok-take_or_end.ensures.ran c.in_ok-note_done.ensures.ran) c.in_err-try_all.ensures.err)

pub returns-then-live-clause-ran : goal.returns-then-live-clause-ran
returns-then-live-clause-ran g c = Ran-and-none _ _ _ _ _ _ _ (Ran-and-none _ _ _ _ _ _ _ c.in_ok-take_or_end.ensures.ran c.in_ok-note_done.ensures.ran) c.in_ok-try_all.ensures.ran

pub returns-clause-ran : goal.returns-clause-ran
returns-clause-ran g c = Ran-and-none _ _ _ _ _ _ _ c.in_ok-take_or_end.ensures.ran c.in_ok-note_done.ensures.ran
