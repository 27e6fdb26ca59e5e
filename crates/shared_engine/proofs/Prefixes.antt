-- A start that begins what its session has seen.
use Rattle.std.proofs.Common.{◌≡◌, ◌++◌, List, true, false, Some, None, sym, subst}
use Rattle.std.specs.Prelude.{Option}
use Rattle.journal.specs.declared.unit.Unit.{Unit as JournalUnit}
use Rattle.pin_board.specs.declared.view.PinView.{PinView}
use Rattle.pin_board.specs.Slips.{IsBeginning}
use Rattle.shared_engine.specs.Sessions.{start_in, GoesOnFromStart}
use Rattle.shared_engine.specs.laws.Prefixes.{begins_itself, begins_longer, begins_through}
use Rattle.shared_engine.proofs.Starting.{start_settled, start_free}

-- more has been seen
pub start_later : (start : Option (List JournalUnit)) (seen log : List JournalUnit) → IsBeginning log seen → GoesOnFromStart start seen → GoesOnFromStart start log
start_later None seen log on from = tt
start_later (Some base) seen log on from = begins_through log seen base on from

-- and one unit behind it
pub start_longer : (start : Option (List JournalUnit)) (seen log more : List JournalUnit) → IsBeginning log seen → GoesOnFromStart start seen → GoesOnFromStart start (log ++ more)
start_longer start seen log more on from = start_later start seen (log ++ more) (begins_longer log more seen on) from

-- a seat that has just settled has seen its start
pub start_there : (p : PinView) → p.settled ≡ true → p.seen ≡ p.base → GoesOnFromStart (start_in p) p.seen
start_there p is seen = subst (λ (o : Option (List JournalUnit)). GoesOnFromStart o p.seen) (sym (start_settled p is)) (subst (λ (us : List JournalUnit). IsBeginning us p.base) (sym seen) (begins_itself p.base))

-- and one that isn't has none
pub start_none : (p : PinView) → p.settled ≡ false → GoesOnFromStart (start_in p) p.seen
start_none p is = subst (λ (o : Option (List JournalUnit)). GoesOnFromStart o p.seen) (sym (start_free p is)) tt
