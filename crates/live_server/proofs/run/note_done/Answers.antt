use Rattle.std.proofs.Common.{refl}
use Rattle.listing.specs.laws.Bytes.{on_err}
use Rattle.live_server.proofs.Steps.{Ran-passed-on}
use Rattle.live_server.proofs.Ends.{Broke-writing}
use Rattle.live_server.proofs.run.note_done.Goals as goal

pub returns-clause-ran : goal.returns-clause-ran
returns-clause-ran g c = Ran-passed-on _ _ _ _ c.keep_up.ensures.machine refl refl refl c.in_ok-write_full.ensures.ok

pub returns-in_err-write_full-clause-err : goal.returns-in_err-write_full-clause-err
returns-in_err-write_full-clause-err g c = on_err _ _ (Broke-writing _ _ _ c.in_err-write_full.ensures.err)
