use Rattle.std.proofs.Common.{arith}
use Rattle.embedded.proofs.Walked.{stops_full}
use Rattle.embedded.proofs.looked.push_fitting.Goals as goal

pub returns-then-len-room : goal.returns-then-len-room
returns-then-len-room g c =
    stops_full _ _ _ _ _ _ _ _ _ _ _ _ c.len-before.result c.nodes.invariant.goes c.in-Some.ensures.steps c.in_ok-push_record.ensures (omega (arith, c.len.ensures, c.if-len-room.true)) (omega (arith, c.len-before.ensures)) c.truncate.ensures.items
