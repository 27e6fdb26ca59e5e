use Rattle.std.proofs.Common.{refl}
use Rattle.listing.specs.laws.Bytes.{on_err}
use Rattle.script_run.proofs.Runs.{BrokeFront-after, RanFront-written}
use Rattle.script_run.proofs.run.take_piece.Goals as goal

pub returns-in_err-write_gathered-clause-err : goal.returns-in_err-write_gathered-clause-err
returns-in_err-write_gathered-clause-err g c = on_err _ _ (BrokeFront-after _ _ _ _ _ _ _ c.in_ok-run_piece.ensures.ran c.in_err-write_gathered.ensures.err)

pub returns-clause-ran : goal.returns-clause-ran
returns-clause-ran g c = RanFront-written _ _ _ _ _ _ _ _ c.in_ok-run_piece.ensures.ran c.in_ok-write_gathered.ensures.ok refl refl refl c.in_ok-write_gathered.ensures.empty
