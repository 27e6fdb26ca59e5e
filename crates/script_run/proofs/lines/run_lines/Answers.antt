use Rattle.std.proofs.Common.{◌∙◌, ap, refl, arith}
use Rattle.std.specs.Io.BufRead.{strip_last}
use Rattle.std.specs.Prelude.{List, ℕ}
use Rattle.listing.specs.laws.Bytes.{on_err}
use Rattle.script_run.proofs.Runs.{RanFront-none, more_lines, broke_lines, no_more_lines}
use Rattle.script_run.proofs.Stopped.{passed_on, stopped_lines}
use Rattle.script_run.proofs.lines.run_lines.Goals as goal

pub lines-init : goal.lines-init
lines-init g c = record { in_range = omega arith; ran = RanFront-none _ _ _ _ refl refl refl refl; few = λ few. few; kept = refl }

pub lines-preserved : goal.lines-preserved
lines-preserved g c =
    let so_far = c.lines.invariant in
    let line-is = c.strip_return.ensures ∙ ap (λ (t : List ℕ). strip_last 13 t) c.split_at.ensures.front in
    let more = more_lines c.args.text.now c.strip_return.result.now c.lines.at c.in-Some.end _ _ _ _ _ _ so_far.in_range so_far.ran c.in-Some.ensures line-is c.in_ok-run_kept.ensures.ran in
    record { in_range = more.0; ran = more.1; few = λ few. c.in_ok-run_kept.ensures.few (so_far.few few); kept = c.in_ok-run_kept.ensures.counts ∙ so_far.kept }

pub returns-in_err-run_kept-clause-err : goal.returns-in_err-run_kept-clause-err
returns-in_err-run_kept-clause-err g c =
    let so_far = c.lines.invariant in
    let line-is = c.strip_return.ensures ∙ ap (λ (t : List ℕ). strip_last 13 t) c.split_at.ensures.front in
    on_err _ _ (broke_lines c.args.text.now c.strip_return.result.now c.lines.at c.in-Some.end _ _ _ _ _ so_far.in_range so_far.ran c.in-Some.ensures line-is c.in_err-run_kept.ensures.err)

pub returns-clause-begun : goal.returns-clause-begun
returns-clause-begun g c = no_more_lines c.args.text.now c.lines.at c.lines.invariant.in_range c.in_default.ensures

pub returns-in_err-run_kept-clause-stopped : goal.returns-in_err-run_kept-clause-stopped
returns-in_err-run_kept-clause-stopped g c =
    let so_far = c.lines.invariant in
    let line-is = c.strip_return.ensures ∙ ap (λ (t : List ℕ). strip_last 13 t) c.split_at.ensures.front in
    λ memory. stopped_lines c.args.text.now c.strip_return.result.now c.lines.at c.in-Some.end _ _ _ _ _ _ so_far.in_range so_far.ran c.in-Some.ensures line-is (c.in_err-run_kept.ensures.stopped (passed_on _ _ c.from_residual.ensures.1 memory))

pub returns-clause-few : goal.returns-clause-few
returns-clause-few g c = λ few. c.lines.invariant.few few
