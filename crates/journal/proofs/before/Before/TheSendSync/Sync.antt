use denote.RattleType.{RattleType}
use denote.Param.Send.{IsSend, IsSync, part_keyless}
use Rattle.journal.specs.contracts.before.Before.{the_row}

pub sync : (T : RattleType) → IsSync (the_row T)
sync T =
    let s : IsSend (the_row T) = record { owned = λ d vs. ((λ vss. (tt, ((λ uss. (tt, tt)), tt))), tt); leaving = λ k f vs. tt } in
    record { shared = λ d b o κ q. part_keyless (the_row T) s q d b o }
