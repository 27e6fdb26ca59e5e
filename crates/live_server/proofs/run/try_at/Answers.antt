use Rattle.std.proofs.Common.{refl}
use Rattle.listing.specs.laws.Bytes.{on_err}
use Rattle.live_server.proofs.Steps.{Ran-none, Ran-and-none, Broke-and-none}
use Rattle.live_server.proofs.run.try_at.Goals as goal

pub returns-then-not-is_done-clause-ran : goal.returns-then-not-is_done-clause-ran
returns-then-not-is_done-clause-ran g c = c.in_ok-is_done.ensures.ran

pub returns-in_err-is_done-clause-err : goal.returns-in_err-is_done-clause-err
returns-in_err-is_done-clause-err g c = on_err _ _ c.in_err-is_done.ensures.err

pub returns-in_err-note_done-clause-err : goal.returns-in_err-note_done-clause-err
returns-in_err-note_done-clause-err g c = on_err _ _ (Broke-and-none _ _ _ _ _ _ (Ran-and-none _ _ _ _ _ _ _ c.in_ok-is_done.ensures.ran (Ran-none _ _ _ refl refl refl refl c.forget.ensures)) c.in_err-note_done.ensures.err)

pub returns-in_err-do_lines-clause-err : goal.returns-in_err-do_lines-clause-err
returns-in_err-do_lines-clause-err g c = on_err _ _ (Broke-and-none _ _ _ _ _ _ (Ran-and-none _ _ _ _ _ _ _ (Ran-and-none _ _ _ _ _ _ _ c.in_ok-is_done.ensures.ran (Ran-none _ _ _ refl refl refl refl c.forget.ensures)) c.in_ok-note_done.ensures.ran) c.in_err-do_lines.ensures.err)

pub returns-clause-ran : goal.returns-clause-ran
returns-clause-ran g c = Ran-and-none _ _ _ _ _ _ _ (Ran-and-none _ _ _ _ _ _ _ (Ran-and-none _ _ _ _ _ _ _ c.in_ok-is_done.ensures.ran (Ran-none _ _ _ refl refl refl refl c.forget.ensures)) c.in_ok-note_done.ensures.ran) c.in_ok-do_lines.ensures.ran
