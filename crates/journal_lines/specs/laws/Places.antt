-- From one place in a journal to the next.
use Rattle.std.proofs.Common.{◌≡◌, ℕ, List, [], ◌∷◌, ◌++◌, refl, sym, ap, ◌∙◌, append_assoc, append-nil}
use Rattle.std.proofs.lemmas.Grind.{flat_map-append}
use Rattle.journal.specs.declared.unit.Unit.{Unit as JournalUnit}
use Rattle.journal_lines.specs.Journals.{lines_of, step_line, steps_from, still_pending, unit_steps}
use Rattle.journal_lines.specs.Places.{Placed, lines_behind, place_behind, place_past, unit_lines}

-- the lines behind a place are those of the next unit, and those behind the place past it
pub lines-next : (u : JournalUnit) (us : List JournalUnit) (p : Placed) → lines_behind (u ∷ us) p ≡ unit_lines u p ++ lines_behind us (place_past u p)
lines-next u us p = flat_map-append step_line (unit_steps u p.pending) (steps_from (still_pending u p.pending) us)

-- of one unit more
pub lines-more : (us : List JournalUnit) (u : JournalUnit) (p : Placed) → lines_behind (us ++ u ∷ []) p ≡ lines_behind us p ++ unit_lines u (place_behind us p)
lines-more [] u p = lines-next u [] p ∙ append-nil (unit_lines u p)
lines-more (v ∷ us) u p =
    lines-next v (us ++ u ∷ []) p
    ∙ ap (λ (t : List ℕ). unit_lines v p ++ t) (lines-more us u (place_past v p))
    ∙ sym (append_assoc (unit_lines v p) (lines_behind us (place_past v p)) (unit_lines u (place_behind us (place_past v p))))
    ∙ ap (λ (t : List ℕ). t ++ unit_lines u (place_behind us (place_past v p))) (sym (lines-next v us p))

-- the place behind one unit more
pub place-more : (us : List JournalUnit) (u : JournalUnit) (p : Placed) → place_behind (us ++ u ∷ []) p ≡ place_past u (place_behind us p)
place-more [] u p = refl
place-more (v ∷ us) u p = place-more us u (place_past v p)
