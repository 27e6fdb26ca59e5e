-- Beginnings of a journal.
use Rattle.std.proofs.Common.{le_refl, ◌++◌, List, length, length-append, sym, ap, ◌∙◌, arith}
use Rattle.std.specs.Prelude.{take}
use Rattle.std.proofs.lemmas.List.{take_all, take-append-le, take-take}
use Rattle.journal.specs.declared.unit.Unit.{Unit as JournalUnit}
use Rattle.pin_board.specs.Slips.{IsBeginning}

pub begins_itself : (log : List JournalUnit) → IsBeginning log log
begins_itself log = record { within = le_refl (length log); is = sym (take_all (length log) log (le_refl (length log))) }

pub begins_longer : (log more seen : List JournalUnit) → IsBeginning log seen → IsBeginning (log ++ more) seen
begins_longer log more seen b = record { within = omega (arith, b.within, length-append log more); is = b.is ∙ sym (take-append-le (length seen) log more b.within) }

-- a beginning of a beginning
pub begins_through : (log seen base : List JournalUnit) → IsBeginning log seen → IsBeginning seen base → IsBeginning log base
begins_through log seen base a b = record {
  within = omega (arith, a.within, b.within);
  is = b.is ∙ (ap (take (length base)) a.is ∙ take-take (length base) (length seen) log b.within);
}
