use Rattle.std.proofs.Common.{◌≡◌}
use Rattle.pin_board.specs.Views.{IsDesk, desk_in}
use Rattle.pin_board.proofs.DrawLemmas.{IsDrawing}
use Rattle.pin_board.proofs.words.Words.draw.Given as goal

abbrev pub invariant-loop-place : goal.invariant-loop-place
invariant-loop-place l = (l.seat.table_id ≡ l.fn.seat.table_id) × IsDesk l.seat.me × IsDrawing (desk_in l.fn.seat.me.0) (desk_in l.seat.me.0) l.place l.horizon
