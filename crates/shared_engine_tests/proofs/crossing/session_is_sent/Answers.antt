use denote.Param.{param}
use denote.Param.Send.{IsSend, param_send}
use Rattle.shared_engine.proofs.Crossing.{session_send}
use Rattle.shared_engine_tests.proofs.crossing.session_is_sent.Lts as lts
use Rattle.shared_engine_tests.proofs.crossing.session_is_sent.Goals as goal

pub is_sent-requires-send-T : goal.is_sent-requires-send-T
is_sent-requires-send-T g c κs within =
    let s = session_send (param 0 g.row.B) g.B.BoardName in
    let a : IsSend (lts.arg-0-0 g.row.B g.B.laws g.B.BoardName g.B.BoardName-dict κs) = record { owned = s.owned; leaving = λ k. s.leaving k } in
    param_send 0 _ a
