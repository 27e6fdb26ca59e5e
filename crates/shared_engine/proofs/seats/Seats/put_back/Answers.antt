use Rattle.std.proofs.Common.{◌+◌, List, ap, ◌∙◌}
use Rattle.std.specs.Prelude.{Option}
use Rattle.pin_board.specs.Named.{FreeAt}
use Rattle.shared_engine.specs.Engines.{has_session, sessions_in}
use Rattle.shared_engine.proofs.Lending.{seat_back}
use Rattle.shared_engine.proofs.seats.Seats.put_back.Goals as goal

pub returns-clause-one_fewer : goal.returns-clause-one_fewer
returns-clause-one_fewer c =
    seat_back c.self.inside.places.items c.args.place c.args.seat (ap (λ (seats : List (Option FreeAt)). has_session seats (c.args.place + 1)) c.self.view_is ∙ c.requires.lent) ∙ ap sessions_in c.self.view_is
