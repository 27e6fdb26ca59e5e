use Rattle.std.proofs.Common.{◌+◌, ◌++◌, ap, ◌∙◌}
use Rattle.pin_board.specs.Tally.{tallied, tally_of}
use Rattle.pin_board.proofs.board.Board.return_slip.Goals as goal

-- the desk is the same, one slip more came back, with what is on it
pub returns-clause-knows : goal.returns-clause-knows
returns-clause-knows c =
    ap (λ m. tally_of m.0) c.return_slip.ensures.view
    ∙ (λ i. tallied (c.tally.view_is i).knows.units (c.tally.view_is i).knows.given ((c.tally.view_is i).knows.returned + 1) ((c.tally.view_is i).knows.back ++ (c.slip.view_is i).knows.mine) ((c.tally.view_is i).knows.known ++ (c.slip.view_is i).knows.known))
