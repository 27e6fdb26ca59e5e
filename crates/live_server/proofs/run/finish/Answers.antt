use Rattle.listing.specs.laws.Bytes.{on_err}
use Rattle.live_server.proofs.Ends.{all_done, ended, broke_ending, broke_in_line, broke_in_wait}
use Rattle.live_server.proofs.Answered.{passed_on}
use Rattle.live_server.proofs.run.finish.Goals as goal

pub returns-in_err-take_counted-clause-err : goal.returns-in_err-take_counted-clause-err
returns-in_err-take_counted-clause-err g c = on_err _ _ (broke_in_line _ _ _ _ _ c.in_err-take_counted.ensures.err)

pub returns-in_err-settle-clause-err : goal.returns-in_err-settle-clause-err
returns-in_err-settle-clause-err g c = on_err _ _ (broke_in_wait _ _ _ _ _ _ _ c.in_ok-take_counted.ensures.ran c.in_err-settle.ensures.err)

pub returns-in_err-write_ending-clause-err : goal.returns-in_err-write_ending-clause-err
returns-in_err-write_ending-clause-err g c = on_err _ _ (broke_ending _ _ _ _ _ _ _ _ (all_done _ _ _ _ _ _ _ c.in_ok-take_counted.ensures.ran c.in_ok-settle.ensures.ran) c.in_ok-settle.ensures.empty (rw c.as_slice.ensures at c.halt_open.ensures.nodes) c.in_err-write_ending.ensures.err)

pub returns-clause-ran : goal.returns-clause-ran
returns-clause-ran g c = ended _ _ _ _ _ _ _ _ _ (all_done _ _ _ _ _ _ _ c.in_ok-take_counted.ensures.ran c.in_ok-settle.ensures.ran) c.in_ok-settle.ensures.empty (rw c.as_slice.ensures at c.halt_open.ensures.nodes) c.in_ok-write_ending.ensures.ok c.in_ok-write_ending.ensures.outcome

pub returns-in_err-settle-clause-stuck : goal.returns-in_err-settle-clause-stuck
returns-in_err-settle-clause-stuck g c = λ k.
    let s = c.in_err-settle.ensures.stuck (passed_on _ _ _ c.from_residual-in_err-settle.ensures.1 k) in
    record { ran = all_done _ _ _ _ _ _ _ c.in_ok-take_counted.ensures.ran s.ran; empty = s.empty }
