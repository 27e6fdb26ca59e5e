use Rattle.std.proofs.Common.{◌≡◌, arith}
use Rattle.std.specs.Prelude.{vec_len}
use Rattle.pin_board.specs.Tally.{tallied}
use Rattle.shared_engine.proofs.ending.gather_inner.Goals as goal

-- none is left, so all passes are counted
pub returns-clause-tally : goal.returns-clause-tally
returns-clause-tally c =
    let i = c.loop-pass.invariant in
    let count : c.loop-pass.tally.knows.returned ≡ vec_len c.args.passes = omega (arith, i.count, c.in_default.ensures.cases.0, c.loop-pass.passes.ok.0, c.args.passes.ok.0) in
    λ k. tallied (i.units k) (i.given k) (count k) c.loop-pass.tally.knows.back c.loop-pass.tally.knows.known
