use Rattle.std.proofs.Common.{refl, arith}
use Rattle.live_server.proofs.Ends.{Ran-empty}
use Rattle.live_server.proofs.run.take_counted.Goals as goal

pub returns-in-empty-clause-ran : goal.returns-in-empty-clause-ran
returns-in-empty-clause-ran g c = Ran-empty _ _ _ _ (omega (arith, c.in-empty.len_below)) refl refl refl refl refl
