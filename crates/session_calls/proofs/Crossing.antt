-- A seat may go to another thread, part by part.
use denote.Param.Send.{IsSend, sendable, struct_send}
use denote.Struct.Declared.{shape}
use Rattle.std.proofs.Crossing as heap
use Rattle.collation.proofs.text.Text.TheSendSync as text
use Rattle.key_codec.proofs.key.Key.TheSendSync as key
use Rattle.hub.proofs.Crossing.{hub_send, hub_sync, session_send}
use Rattle.session_calls.specs.contracts.seat.Seat as Seat

pub seat_send : IsSend Seat.the_row
seat_send =
    let c = struct_send (shape Seat.the_type)
    (search (heap.crosses, hub_send, hub_sync, sendable) depth 60 fits 20000, (search (session_send, sendable) depth 60 fits 20000, (search (key.the_send, text.the_send, sendable) depth 60 fits 20000, tt))) in
    record { owned = λ d vs. c.owned (Seat.the_type.to d) vs; leaving = λ k d w. c.leaving k (Seat.the_type.to d) w }
