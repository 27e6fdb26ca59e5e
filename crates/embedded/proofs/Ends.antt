-- The end of the journal.
use Rattle.std.proofs.Common.{inl, inr, ◌≡◌, ◌≤◌, ◌<◌, ℕ, List, length, take, refl, sym, subst, arith}
use Rattle.std.proofs.Math.Nat.{min-le_right}
use Rattle.std.proofs.lemmas.List.{drop_all, length-take}
use Rattle.refusal.specs.declared.Refusal.TheVariants.{OutOfMemory}
use Rattle.journal.specs.declared.unit.Unit.{Unit as JournalUnit}
use Rattle.journal_lines.specs.Places.{Placed}
use Rattle.embedded.specs.JournalReads.{IsJournalRead, IsNextRead}
use Rattle.embedded.specs.declared.outcome.Outcome.{Outcome}
use Rattle.embedded.specs.declared.outcome.Outcome.TheVariants.{AtEnd, Refused as RefusedCall}

-- where no unit is behind the place nothing is read
pub none_left : (base : ℕ) (units : List JournalUnit) (place : Placed) (bytes : List ℕ) → length units ≤ place.number → IsJournalRead base units place place AtEnd bytes bytes 0
none_left base units place bytes h =
    let few : length (take base units) ≤ place.number = omega (arith, length-take base units, min-le_right base (length units), h) in
    inr (inl (few, subst (λ us. IsNextRead us place place AtEnd bytes bytes 0) (sym (drop_all place.number units h)) (record { left = refl; told = refl; answered = refl }, refl)))

-- where one is, which isn't dropped, memory to read it may be refused
pub none_read : (base : ℕ) (units : List JournalUnit) (place : Placed) (bytes : List ℕ) → length (take base units) ≤ place.number → place.number < length units → IsJournalRead base units place place (RefusedCall OutOfMemory) bytes bytes 0
none_read base units place bytes kept more = inr (inr (kept, more, record { left = refl; told = refl; answered = refl }, refl))
