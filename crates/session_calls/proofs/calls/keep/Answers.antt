use Rattle.std.proofs.Common.{ap, refl, rules}
use Rattle.std.specs.Prelude.{Some}
use Rattle.session_calls.proofs.Looked.{same_seat, left_waiting}
use Rattle.session_calls.proofs.calls.keep.Goals as goal

pub returns : goal.returns
returns c =
    record {
      old = c.in-Some.session;
      new = c.step.new.session;
      was = search rules;
      is = refl;
      table = c.step.ensures.table;
      hub = refl;
      done = record { last = record { job = Some c.job-job.result; reply = c.in_ok-reply.reply }; is_kept = refl; by = ap Some c.job-job.ensures; done = c.in_ok-reply.ensures.done };
    }

pub returns-in_err-reply : goal.returns-in_err-reply
returns-in_err-reply c =
    left_waiting _ _ _ _ _ c.from_residual.ensures.1 (record { session = c.in-Some.session; there = search rules; turn = c.in_err-reply.ensures.turn; left = same_seat _ _ _ (search rules) c.in_err-reply.ensures.busy })
