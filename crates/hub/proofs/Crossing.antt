-- What crosses threads, part by part.
use denote.Param.Send.{IsSend, IsSync, sendable, struct_send, struct_sync}
use denote.Struct.Declared.{shape}
use Rattle.std.proofs.Crossing as heap
use Rattle.shared_engine.proofs.Crossing.{inner_send, locked_send, locked_sync}
use Rattle.pin_board.proofs.board.Board.TheSendSync as board
use Rattle.pin_board.proofs.desk.Desk.TheSendSync as desk
use Rattle.pin_board.specs.contracts.board.Board as Board
use Rattle.gate.proofs.ArcGate.TheSendSync as gate
use Rattle.hub.specs.contracts.inside.InsideFits.TheImpl as fits
use Rattle.hub.specs.contracts.inside.Inside as Inside
use Rattle.hub.specs.contracts.hub.Hub as Hub
use Rattle.hub.specs.contracts.session.HubSession as HubSession
use Rattle.hub.specs.contracts.session.HubSession.TheInside as SessionInside
use Rattle.hub.specs.contracts.moments.HubShare as HubShare
use Rattle.hub.specs.contracts.moments.HubShare.TheInside as ShareInside

pub inside_send : IsSend Inside.the_row
inside_send =
    let c = struct_send (shape Inside.the_type) (locked_send, (desk.the_send, tt)) in
    record { owned = λ d vs. c.owned (Inside.the_type.to d) vs; leaving = λ k d w. c.leaving k (Inside.the_type.to d) w }

pub inside_sync : IsSync Inside.the_row
inside_sync =
    let c = struct_sync (shape Inside.the_type) (locked_sync, (desk.the_sync, tt)) in
    record { shared = λ d b o κ. c.shared (Inside.the_type.to d) b o κ }

pub hub_send : IsSend Hub.the_row
hub_send =
    let c = struct_send (shape Hub.the_type) (board.the_send, (gate.the_field_send Inside.the_row Board.the_row fits.ghosts inside_send inside_sync, tt)) in
    record { owned = λ d vs. c.owned (Hub.the_type.to d) vs; leaving = λ k d w. c.leaving k (Hub.the_type.to d) w }

pub hub_sync : IsSync Hub.the_row
hub_sync =
    let c = struct_sync (shape Hub.the_type) (board.the_sync, (gate.the_field_sync Inside.the_row Board.the_row fits.ghosts inside_send inside_sync, tt)) in
    record { shared = λ d b o κ. c.shared (Hub.the_type.to d) b o κ }

pub session_send : IsSend HubSession.the_row
session_send =
    let c = struct_send (shape SessionInside.the_type)
    (search (heap.crosses, hub_send, hub_sync, sendable) depth 60 fits 20000, (inner_send, (search (heap.crosses, inside_send, inside_sync, sendable) depth 60 fits 20000, tt))) in
    record { owned = λ d vs x. (c.owned (SessionInside.the_type.to x.0) vs, tt); leaving = λ k d w. tt }

pub share_send : IsSend HubShare.the_row
share_send =
    let c = struct_send (shape ShareInside.the_type) (search (heap.crosses, inside_send, inside_sync, sendable) depth 60 fits 20000, (search sendable, tt)) in
    record { owned = λ d vs x. (c.owned (ShareInside.the_type.to x.0) vs, tt); leaving = λ k d w. tt }
