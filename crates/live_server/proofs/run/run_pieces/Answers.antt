use Rattle.std.proofs.Common.{refl, ◌∙◌}
use Rattle.listing.specs.laws.Bytes.{on_err}
use Rattle.live_server.proofs.Ends.{first_front, next_front, next_broken, begun_front, begun_end, BrokeFront-after, wrote}
use Rattle.script_run.specs.Lines.{has_no_end}
use Rattle.std.proofs.Common.{ap}
use Rattle.live_server.proofs.Answered.{stood_read, settled_answered, passed_on}
use Rattle.live_server.proofs.run.run_pieces.Goals as goal

pub pieces-init : goal.pieces-init
pieces-init g c = record { ran = first_front _ _ _ _ c.requires.none c.new-begun.ensures.items; whole = ap has_no_end c.new-begun.ensures.items; empty = c.requires.new.out; origin = refl }

pub pieces-preserved : goal.pieces-preserved
pieces-preserved g c = record { ran = next_front _ _ _ _ _ _ _ _ _ _ c.pieces.invariant.ran c.in_ok-is_over.ensures.ran; whole = c.in_ok-is_over.ensures.ran.whole; empty = c.in_ok-is_over.ensures.empty; origin = c.in_ok-is_over.ensures.origin ∙ c.pieces.invariant.origin }

pub returns-in_err-is_over-clause-begun : goal.returns-in_err-is_over-clause-begun
returns-in_err-is_over-clause-begun g c = on_err _ _ (begun_front _ _ _ _ _ c.requires.new (next_broken _ _ _ _ _ _ _ _ c.pieces.invariant.ran c.in_err-is_over.ensures.err))

pub returns-in_err-finish-clause-begun : goal.returns-in_err-finish-clause-begun
returns-in_err-finish-clause-begun g c = on_err _ _ (begun_end _ _ _ _ _ _ _ _ c.requires.new (next_front _ _ _ _ _ _ _ _ _ _ c.pieces.invariant.ran c.in_ok-is_over.ensures.ran) c.in_ok-is_over.ensures.ran.whole (rw c.deref.ensures.value at c.in_err-finish.ensures.err))

pub returns-then-is_over-clause-output : goal.returns-then-is_over-clause-output
returns-then-is_over-clause-output g c = wrote _ _ _ _ _ _ _ _ _ c.requires.new (next_front _ _ _ _ _ _ _ _ _ _ c.pieces.invariant.ran c.in_ok-is_over.ensures.ran) c.in_ok-is_over.ensures.ran.whole (rw c.deref.ensures.value at c.in_ok-finish.ensures.ran)

pub returns-clause-begun : goal.returns-clause-begun
returns-clause-begun g c = begun_front _ _ _ _ _ c.requires.new (BrokeFront-after _ _ _ _ _ _ c.pieces.invariant.ran)

pub returns-in_err-is_over-clause-read : goal.returns-in_err-is_over-clause-read
returns-in_err-is_over-clause-read g c = λ k. stood_read _ _ _ _ _ _ _ _ _ _ c.requires.new c.pieces.invariant.ran c.pieces.invariant.whole c.pieces.invariant.empty (c.in_err-is_over.ensures.read (passed_on _ _ _ c.from_residual.ensures.1 k))

pub returns-in_err-finish-clause-stuck : goal.returns-in_err-finish-clause-stuck
returns-in_err-finish-clause-stuck g c = λ k. settled_answered _ _ _ _ _ _ _ _ c.requires.new (next_front _ _ _ _ _ _ _ _ _ _ c.pieces.invariant.ran c.in_ok-is_over.ensures.ran) c.in_ok-is_over.ensures.ran.whole (rw c.deref.ensures.value at c.in_err-finish.ensures.stuck (passed_on _ _ _ c.from_residual-in_err-finish.ensures.1 k))
