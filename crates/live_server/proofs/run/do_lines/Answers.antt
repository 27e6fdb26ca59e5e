use Rattle.std.proofs.Common.{refl}
use Rattle.listing.specs.laws.Bytes.{on_err}
use Rattle.live_server.proofs.Steps.{nothing_begun, Ran-none, Ran-and-none, Broke-and-none, Broke-after}
use Rattle.live_server.proofs.run.do_lines.Goals as goal

pub lines-init : goal.lines-init
lines-init g c = Ran-none _ _ _ refl refl refl refl refl

pub lines-preserved : goal.lines-preserved
lines-preserved g c = Ran-and-none _ _ _ _ _ _ _ (Ran-and-none _ _ _ _ _ _ _ c.lines.invariant c.in_ok-is_done.ensures.ran) c.in_ok-note_done.ensures.ran

pub returns-then-not-is_done-clause-ran : goal.returns-then-not-is_done-clause-ran
returns-then-not-is_done-clause-ran g c = Ran-and-none _ _ _ _ _ _ _ c.lines.invariant c.in_ok-is_done.ensures.ran

pub returns-in_err-is_done-clause-err : goal.returns-in_err-is_done-clause-err
returns-in_err-is_done-clause-err g c = on_err _ _ (Broke-and-none _ _ _ _ _ _ c.lines.invariant c.in_err-is_done.ensures.err)

pub returns-in_err-note_done-clause-err : goal.returns-in_err-note_done-clause-err
returns-in_err-note_done-clause-err g c = on_err _ _ (Broke-and-none _ _ _ _ _ _ (Ran-and-none _ _ _ _ _ _ _ c.lines.invariant c.in_ok-is_done.ensures.ran) c.in_err-note_done.ensures.err)

pub returns-clause-err : goal.returns-clause-err
returns-clause-err g c = Broke-after _ _ _ _ _ _ c.lines.invariant (nothing_begun _ _)
