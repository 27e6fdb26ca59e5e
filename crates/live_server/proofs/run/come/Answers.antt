use Rattle.std.proofs.Common.{◌≡◌, refl, ◌∙◌, arith}
use Rattle.std.proofs.lemmas.Bool.Decides.{nat_tests}
use Rattle.listing.specs.laws.Bytes.{on_err}
use Rattle.live_server.proofs.Steps.{Ran-none, Ran-and-none, Broke-and-none, Broke-before}
use Rattle.live_server.proofs.Ends.{none_came, none_taken, broke_taken, taken_in, broken_in, Broke-writing, Ran-written, RanFront-and-none, BrokeFront-writing}
use Rattle.live_server.proofs.run.come.Goals as goal

pub returns-in_err-try_all-clause-err : goal.returns-in_err-try_all-clause-err
returns-in_err-try_all-clause-err g c = on_err _ _ (broke_taken _ _ _ _ _ _ c.wait.ensures.taken c.in_err-try_all.ensures.err)

pub returns-in_err-write_gathered-clause-err : goal.returns-in_err-write_gathered-clause-err
returns-in_err-write_gathered-clause-err g c = on_err _ _ (broke_taken _ _ _ _ _ _ c.wait.ensures.taken (Broke-and-none _ _ _ _ _ _ c.in_ok-try_all.ensures.ran (Broke-writing _ _ _ c.in_err-write_gathered.ensures.err)))

pub returns-then-not-wait-clause-ran : goal.returns-then-not-wait-clause-ran
returns-then-not-wait-clause-ran g c = none_taken _ _ _ _ _ _ _ c.requires.whole c.wait.ensures.taken (Ran-and-none _ _ _ _ _ _ _ c.in_ok-try_all.ensures.ran (Ran-written _ _ _ _ c.in_ok-write_gathered.ensures.ok c.in_ok-write_gathered.ensures.empty refl refl refl refl))

pub returns-in_err-count-clause-err : goal.returns-in_err-count-clause-err
returns-in_err-count-clause-err g c = on_err _ _ (broke_taken _ _ _ _ _ _ (c.in_err-count.ensures.err ∙ c.wait.ensures.taken) (Broke-before _ _ _))

pub returns-in_err-take_piece-clause-err : goal.returns-in_err-take_piece-clause-err
returns-in_err-take_piece-clause-err g c = on_err _ _ (broken_in _ _ _ _ _ _ _ _ c.in_ok-count.ensures.bytes c.wait.ensures.taken c.in_err-take_piece.ensures.err)

pub returns-in_err-write_gathered-2-clause-err : goal.returns-in_err-write_gathered-2-clause-err
returns-in_err-write_gathered-2-clause-err g c = on_err _ _ (broken_in _ _ _ _ _ _ _ _ c.in_ok-count.ensures.bytes c.wait.ensures.taken (BrokeFront-writing _ _ _ _ _ _ _ c.in_ok-take_piece.ensures.ran c.in_err-write_gathered-2.ensures.err))

pub returns-clause-ran : goal.returns-clause-ran
returns-clause-ran g c =
    taken_in _ _ _ _ _ _ _ _ _ _ c.in_ok-count.ensures.bytes c.wait.ensures.taken
    (RanFront-and-none _ _ _ _ _ _ _ _ c.in_ok-take_piece.ensures.ran (Ran-written _ _ _ _ c.in_ok-write_gathered-2.ensures.ok c.in_ok-write_gathered-2.ensures.empty refl refl refl refl)) c.in_ok-take_piece.ensures.begun

pub returns-then-count-eq0-clause-ran : goal.returns-then-count-eq0-clause-ran
returns-then-count-eq0-clause-ran g c =
    let none : c.in_ok-count.count ≡ 0 = grind (arith, nat_tests, c.if-count-eq0.true) in
    none_taken _ _ _ _ _ _ _ c.requires.whole (none_came _ _ _ _ _ c.in_ok-count.ensures.bytes none c.wait.ensures.taken) (Ran-none _ _ _ refl refl refl refl refl)

pub returns-in_err-count-clause-read : goal.returns-in_err-count-clause-read
returns-in_err-count-clause-read g c = λ _. record { taken = c.in_err-count.ensures.err ∙ c.wait.ensures.taken; kept = refl; live = refl; text = refl }
