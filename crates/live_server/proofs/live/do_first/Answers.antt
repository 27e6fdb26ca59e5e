use Rattle.std.proofs.Common.{◌≡◌, ℕ, List, refl, sym, ap, subst, ◌∙◌}
use Rattle.std.specs.Prelude.{Some}
use Rattle.listing.specs.laws.Bytes.{on_err}
use Rattle.script.specs.Line.{job_of_line}
use Rattle.live_server.proofs.Steps.{came_done, came_off, Ran-none, Ran-first, Lacked-first, Ran-kept-off, Lacked-kept-off}
use Rattle.live_server.proofs.live.do_first.Goals as goal

pub returns-in_default-clause-ran : goal.returns-in_default-clause-ran
returns-in_default-clause-ran g c = λ text. Ran-none _ _ text refl refl refl refl refl

pub returns-then-is_done-clause-ran : goal.returns-then-is_done-clause-ran
returns-then-is_done-clause-ran g c = let owner = subst (λ (l : List ℕ). job_of_line l ≡ Some c.args.job) (sym c.text-text.ensures) c.in-Some.ensures.1 in let first = c.in-Some.ensures.0 ∙ ap (λ (l : List ℕ). Some l) (sym c.text-text.ensures) in λ text. Ran-first _ _ _ _ text (came_done _ _ _ _ _ _ _ c.if-is_done.true c.in_ok-is_done.ensures.done) c.pass.ensures owner first

pub returns-in_err-is_done-clause-err : goal.returns-in_err-is_done-clause-err
returns-in_err-is_done-clause-err g c = let owner = subst (λ (l : List ℕ). job_of_line l ≡ Some c.args.job) (sym c.text-text.ensures) c.in-Some.ensures.1 in let first = c.in-Some.ensures.0 ∙ ap (λ (l : List ℕ). Some l) (sym c.text-text.ensures) in on_err _ _ (Lacked-first _ _ _ _ c.in_err-is_done.ensures.err owner first)

pub returns-clause-ran : goal.returns-clause-ran
returns-clause-ran g c = let owner = subst (λ (l : List ℕ). job_of_line l ≡ Some c.args.job) (sym c.text-text.ensures) c.in-Some.ensures.1 in let first = c.in-Some.ensures.0 ∙ ap (λ (l : List ℕ). Some l) (sym c.text-text.ensures) in λ text. Ran-kept-off _ _ _ _ text (came_off _ _ _ _ _ _ _ c.if-is_done.false c.in_ok-is_done.ensures.done) c.in_ok-wait.ensures owner first c.in-Some.ensures.2

pub returns-in_err-wait-clause-err : goal.returns-in_err-wait-clause-err
returns-in_err-wait-clause-err g c = let owner = subst (λ (l : List ℕ). job_of_line l ≡ Some c.args.job) (sym c.text-text.ensures) c.in-Some.ensures.1 in let first = c.in-Some.ensures.0 ∙ ap (λ (l : List ℕ). Some l) (sym c.text-text.ensures) in on_err _ _ (Lacked-kept-off _ _ _ _ (came_off _ _ _ _ _ _ _ c.if-is_done.false c.in_ok-is_done.ensures.done) owner first c.in-Some.ensures.2)
