use denote.Param.Send.{IsSend, param_send}
use Rattle.hub.proofs.Crossing.{session_send}
use Rattle.hub_tests.proofs.crossing.hub_session_is_sent.Lts as lts
use Rattle.hub_tests.proofs.crossing.hub_session_is_sent.Goals as goal

pub is_sent-requires-send-T : goal.is_sent-requires-send-T
is_sent-requires-send-T c κs = let a : IsSend (lts.arg-0-0 κs) = record { owned = session_send.owned; leaving = λ k. session_send.leaving k } in param_send 0 _ a
