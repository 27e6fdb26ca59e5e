use Rattle.std.proofs.Common.{[], refl}
use Rattle.listing.specs.laws.Bytes.{on_err, WritesBeginning-all}
use Rattle.live_server.proofs.Steps.{Ran-so-far, Broke-so-far, Settled-then, Unsettled-then}
use Rattle.live_server.proofs.Ends.{Broke-writing, Ran-written}
use Rattle.live_server.proofs.run.go_on.Goals as goal

pub returns-then-halt_idle-clause-ran : goal.returns-then-halt_idle-clause-ran
returns-then-halt_idle-clause-ran g c = c.halt_idle.ensures _

pub returns-in_err-write_gathered-clause-err : goal.returns-in_err-write_gathered-clause-err
returns-in_err-write_gathered-clause-err g c = on_err _ _ (Unsettled-then [] _ _ _ _ _ (c.halt_idle.ensures _) (Broke-so-far [] _ _ _ (Broke-writing _ _ _ c.in_err-write_gathered.ensures.err)))

pub returns-in-Some-clause-ran : goal.returns-in-Some-clause-ran
returns-in-Some-clause-ran g c = Settled-then [] _ _ _ _ _ _ (c.halt_idle.ensures _) (Ran-so-far [] _ _ _ _ (Ran-written _ _ _ _ c.in_ok-write_gathered.ensures.ok c.in_ok-write_gathered.ensures.empty refl refl refl refl))

pub returns-in-None-clause-err : goal.returns-in-None-clause-err
returns-in-None-clause-err g c = Unsettled-then [] _ _ _ _ _ (c.halt_idle.ensures _) (Broke-so-far [] _ _ _ (Broke-writing _ _ _ (WritesBeginning-all _ _ _ c.in_ok-write_gathered.ensures.ok)))

pub returns-in-None-clause-stuck : goal.returns-in-None-clause-stuck
returns-in-None-clause-stuck g c = λ _. record {
  ran = Settled-then [] _ _ _ _ _ _ (c.halt_idle.ensures _) (Ran-so-far [] _ _ _ _ (Ran-written _ _ _ _ c.in_ok-write_gathered.ensures.ok c.in_ok-write_gathered.ensures.empty refl refl refl refl));
  empty = c.in_ok-write_gathered.ensures.empty;
}
