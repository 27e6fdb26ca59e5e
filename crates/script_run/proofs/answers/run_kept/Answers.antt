use Rattle.listing.specs.laws.Bytes.{on_err}
use Rattle.script_run.proofs.Runs.{Ran-and-none, Broke-after, few_left}
use Rattle.script_run.proofs.answers.run_kept.Goals as goal

pub returns-in_err-tell_done-clause-err : goal.returns-in_err-tell_done-clause-err
returns-in_err-tell_done-clause-err g c = on_err _ _ (Broke-after _ _ _ _ _ _ c.in_ok-run_counted.ensures.ran c.in_err-tell_done.ensures.err)

pub returns-clause-ran : goal.returns-clause-ran
returns-clause-ran g c = Ran-and-none _ _ _ _ _ _ _ c.in_ok-run_counted.ensures.ran c.in_ok-tell_done.ensures.ran

pub returns-clause-few : goal.returns-clause-few
returns-clause-few g c = λ few. few_left _ _ _ (c.in_ok-run_counted.ensures.few few) c.in_ok-tell_done.ensures.left
