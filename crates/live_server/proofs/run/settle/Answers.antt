use Rattle.std.proofs.Common.{[], refl}
use Rattle.listing.specs.laws.Bytes.{on_err}
use Rattle.live_server.proofs.Steps.{nothing_begun, Ran-none, Ran-so-far, Broke-so-far, Settled-then, Unsettled-then}
use Rattle.live_server.proofs.Ends.{Broke-writing, Ran-written}
use Rattle.live_server.proofs.Answered.{passed_on}
use Rattle.live_server.proofs.run.settle.Goals as goal

pub rounds-init : goal.rounds-init
rounds-init g c = Ran-so-far [] _ _ _ _ (Ran-none _ _ _ refl refl refl refl refl)

pub rounds-preserved : goal.rounds-preserved
rounds-preserved g c = Settled-then [] _ _ _ _ _ _ (Settled-then [] _ _ _ _ _ _ c.rounds.invariant c.in_ok-go_on.ensures.ran) (Ran-so-far [] _ _ _ _ c.in_ok-try_all.ensures.ran)

pub returns-then-are_empty-clause-empty : goal.returns-then-are_empty-clause-empty
returns-then-are_empty-clause-empty g c = c.are_empty.ensures c.if-are_empty.true

pub returns-then-are_empty-clause-ran : goal.returns-then-are_empty-clause-ran
returns-then-are_empty-clause-ran g c = Settled-then [] _ _ _ _ _ _ c.rounds.invariant (Ran-so-far [] _ _ _ _ (Ran-written _ _ _ _ c.in_ok-write_gathered.ensures.ok c.in_ok-write_gathered.ensures.empty refl refl refl refl))

pub returns-in_err-write_gathered-clause-err : goal.returns-in_err-write_gathered-clause-err
returns-in_err-write_gathered-clause-err g c = on_err _ _ (Unsettled-then [] _ _ _ _ _ c.rounds.invariant (Broke-so-far [] _ _ _ (Broke-writing _ _ _ c.in_err-write_gathered.ensures.err)))

pub returns-in_err-go_on-clause-err : goal.returns-in_err-go_on-clause-err
returns-in_err-go_on-clause-err g c = on_err _ _ (Unsettled-then [] _ _ _ _ _ c.rounds.invariant c.in_err-go_on.ensures.err)

pub returns-in_err-try_all-clause-err : goal.returns-in_err-try_all-clause-err
returns-in_err-try_all-clause-err g c = on_err _ _ (Unsettled-then [] _ _ _ _ _ (Settled-then [] _ _ _ _ _ _ c.rounds.invariant c.in_ok-go_on.ensures.ran) (Broke-so-far [] _ _ _ c.in_err-try_all.ensures.err))

pub returns-clause-err : goal.returns-clause-err
returns-clause-err g c = Unsettled-then [] _ _ _ _ _ c.rounds.invariant (Broke-so-far [] _ _ _ (Broke-writing _ _ _ (nothing_begun _ _)))

pub returns-in_err-go_on-clause-stuck : goal.returns-in_err-go_on-clause-stuck
returns-in_err-go_on-clause-stuck g c = λ k.
    let s = c.in_err-go_on.ensures.stuck (passed_on _ _ _ c.from_residual-in_err-go_on.ensures.1 k) in
    record { ran = Settled-then [] _ _ _ _ _ _ c.rounds.invariant s.ran; empty = s.empty }
