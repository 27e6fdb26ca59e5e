use Rattle.std.proofs.Common.{rules, arith, ap, ◌∙◌}
use Rattle.pin_board.specs.Views.{SeatState, nowhere}
use Rattle.pin_board.proofs.SeatLemmas.{clashes_at, never_at}
use Rattle.pin_board.proofs.words.Words.clash.Goals as goal

pub join_seat-requires : goal.join_seat-requires
join_seat-requires c = (search rules, search rules, search rules, omega arith, clashes_at _ _ _ _ _ c.requires.pins.0 c.requires.pins.1 c.requires.place)

pub load-requires : goal.load-requires
load-requires c = (search rules, omega arith, never_at _ _ _ _ (c.join_seat.ensures.2 ∙ ap (λ t. (nowhere, t)) (ap (λ (m : SeatState). m.1) c.requires.pins.0)))
