use denote.Param.Send.{IsSend, param_send}
use Rattle.hub.proofs.Crossing.{share_send}
use Rattle.hub_tests.proofs.crossing.hub_share_is_sent.Lts as lts
use Rattle.hub_tests.proofs.crossing.hub_share_is_sent.Goals as goal

pub is_sent-requires-send-T : goal.is_sent-requires-send-T
is_sent-requires-send-T c κs = let a : IsSend (lts.arg-0-0 κs) = record { owned = share_send.owned; leaving = λ k. share_send.leaving k } in param_send 0 _ a
