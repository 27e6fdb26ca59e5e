use Rattle.std.proofs.Common.{◌++◌, ap, arith}
use Rattle.listing.specs.laws.Bytes.{on_err}
use Rattle.script_run.specs.Lines.{has_no_end}
use Rattle.live_server.proofs.Ends.{RanFront-none, next_in_range, front_ran, front_broke, BrokeFront-writing, rest_begun, rest_front}
use Rattle.live_server.proofs.run.take_piece.Goals as goal

pub lines-init : goal.lines-init
lines-init g c = record { in_range = omega arith; whole = c.requires; ran = RanFront-none _ _ _ }

pub lines-preserved : goal.lines-preserved
lines-preserved g c =
    let so_far = c.lines.invariant in
    record {
      in_range = next_in_range c.args.piece.now c.lines.at c.in-Some.end so_far.in_range c.in-Some.ensures;
      whole = ap has_no_end c.in_ok-end_line.ensures.begun;
      ran = front_ran (c.args.begun.now.items ++ c.args.piece.now) c.lines.begun.items _ c.args.piece.now _ c.lines.at c.in-Some.end _ _ _ _ _ _ so_far.whole c.in-Some.ensures c.split_at.ensures.front c.in_ok-end_line.ensures.begun so_far.ran c.in_ok-end_line.ensures.ran;
    }

pub returns-in_err-end_line-clause-err : goal.returns-in_err-end_line-clause-err
returns-in_err-end_line-clause-err g c =
    let so_far = c.lines.invariant in
    on_err _ _ (front_broke (c.args.begun.now.items ++ c.args.piece.now) c.lines.begun.items c.args.piece.now _ c.lines.at c.in-Some.end _ _ _ _ _ so_far.whole c.in-Some.ensures c.split_at.ensures.front so_far.ran c.in_err-end_line.ensures.err)

pub returns-in-Err-clause-err : goal.returns-in-Err-clause-err
returns-in-Err-clause-err g c = BrokeFront-writing _ _ _ _ _ _ _ c.lines.invariant.ran c.write_before_end.ensures

pub returns-in-Ok-clause-ran : goal.returns-in-Ok-clause-ran
returns-in-Ok-clause-ran g c = rest_front (c.args.begun.now.items ++ c.args.piece.now) c.lines.begun.items c.args.piece.now _ c.lines.at _ _ _ _ c.in-Ok.ensures c.lines.invariant.ran

pub returns-in-Ok-clause-begun : goal.returns-in-Ok-clause-begun
returns-in-Ok-clause-begun g c = rest_begun c.lines.begun.items c.args.piece.now _ c.lines.at c.lines.invariant.whole c.in_default.ensures c.in-Ok.ensures
