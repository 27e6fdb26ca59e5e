use Rattle.std.proofs.Common.{refl, sym}
use Rattle.listing.specs.laws.Bytes.{on_err}
use Rattle.live_server.proofs.Had.{data_other}
use Rattle.live_server.proofs.Steps.{done_of, idle_of, Ran-answered, Lacked-answered, lost_of}
use Rattle.live_server.proofs.live.take_data.Goals as goal

pub returns-clause-ran : goal.returns-clause-ran
returns-clause-ran g c = let g' = c.in_ok-gather_asked.ensures.gathered in λ text. Ran-answered _ _ _ text (done_of _ _ _ _ _ _ g' (λ e. absurd (data_other _ _ _ _ _ _ c.requires.asked g'.answer _ e))) refl (idle_of _ _ _ (sym c.requires.asked.owner) c.requires.idle)

pub returns-in_err-gather_asked-clause-err : goal.returns-in_err-gather_asked-clause-err
returns-in_err-gather_asked-clause-err g c = let l = c.in_err-gather_asked.ensures.lost in on_err _ _ (Lacked-answered _ _ _ (lost_of _ _ _ _ l (λ e. absurd (data_other _ _ _ _ _ _ c.requires.asked l.answer _ e))) (idle_of _ _ _ (sym c.requires.asked.owner) c.requires.idle))
