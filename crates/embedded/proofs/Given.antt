-- How far the lines of units were given.
use Rattle.std.proofs.Common.{◌≡◌, ◌≤◌, ◌-◌, ◌+◌, ℕ, List, [], ◌∷◌, ◌++◌, length, refl, sym, ap, subst, ◌∙◌, inl, inr, arith, append_assoc, length-append}
use Rattle.std.specs.Prelude.{◌⊎◌, Result, Ok, Some}
use Rattle.journal.specs.declared.unit.Unit.{Unit as JournalUnit}
use Rattle.journal.specs.Log.{ReadsFirst}
use Rattle.journal_lines.specs.Places.{Placed, lines_behind, place_past, unit_lines, HasGiven, LacksRoom, IsUnitGiven}
use Rattle.journal_lines.specs.laws.Places.{lines-more, place-more}
use Rattle.embedded.specs.JournalReads.{AreGiven}

-- the lines of the units before those that are left were given, and have room; each of the rest has a number
pub record SoFar (units left : List JournalUnit) (before here : Placed) (old text : List ℕ) (room : ℕ) : Type 0 where
  pub given : AreGiven units left before here old text
  pub fits : length text ≤ room
  pub count : here.number + length left ≤ before.number + length units

-- the unit that was read is the first of those that are left
pub first_read : {E : Type 0} (left rest : List JournalUnit) (u : JournalUnit) (read : Result JournalUnit E) → ReadsFirst left (Some read) rest → read ≡ Ok u → left ≡ u ∷ rest
first_read {E = E} left rest u read h is = subst (λ (r : Result JournalUnit E). ReadsFirst left (Some r) rest) is h

-- one unit more
one_given : (units left rest : List JournalUnit) (u : JournalUnit) (before here after : Placed) (old text new : List ℕ)
    → AreGiven units left before here old text → left ≡ u ∷ rest → new ≡ text ++ unit_lines u here → after ≡ place_past u here → AreGiven units rest before after old new
one_given units left rest u before here after old text new h first lines place =
    record {
      given = h.given ++ u ∷ [];
      all = h.all ∙ ap (λ (us : List JournalUnit). h.given ++ us) first ∙ sym (append_assoc h.given (u ∷ []) rest);
      lines = lines ∙ ap (λ (t : List ℕ). t ++ unit_lines u here) h.lines ∙ append_assoc old (lines_behind h.given before) (unit_lines u here)
          ∙ ap (λ (p : Placed). old ++ (lines_behind h.given before ++ unit_lines u p)) h.place ∙ ap (λ (t : List ℕ). old ++ t) (sym (lines-more h.given u before));
      place = place ∙ ap (place_past u) h.place ∙ sym (place-more h.given u before);
    }

-- a unit was given: it is one more
pub more_given : (units left rest : List JournalUnit) (u : JournalUnit) (before here after : Placed) (old text new : List ℕ) (room size : ℕ)
    → SoFar units left before here old text room → left ≡ u ∷ rest → IsUnitGiven u here after room text new size → size ≤ room - length text → SoFar units rest before after old new room
more_given units left rest u before here after old text new room size h first given low = by_case given.done
  where
    by_case : HasGiven u here after room text new ⊎ LacksRoom u here after room text new → SoFar units rest before after old new room
    by_case (inl (few, lines, place)) = record {
      given = one_given units left rest u before here after old text new h.given first lines place;
      fits = omega (arith, ap length lines, length-append text (unit_lines u here), few, h.fits);
      count = omega (arith, h.count, ap length first, ap (λ (p : Placed). p.number) place);
    }
    by_case (inr (over, _, _)) = absurd (omega (arith, over, low, given.told))
