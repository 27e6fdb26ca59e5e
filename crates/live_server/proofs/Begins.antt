-- Beginnings: before a line, and of a whole run.
use Rattle.std.proofs.Common.{ℕ, Bool, List, [], Option, inl, inr, refl, subst, ◌∙◌}
use Rattle.std.proofs.lemmas.List.{append-nil}
use Rattle.std.specs.Io.KnownBytes.{Appends}
use Rattle.journal.specs.History.{initial, after as after_units}
use Rattle.journal.specs.Story.{Machine}
use Rattle.listing.specs.laws.Bytes.{WritesBeginning-all}
use Rattle.script_run.specs.Lines.{lines_of}
use Rattle.script_run.specs.Output.{ending}
use Rattle.script_run.specs.declared.outcome.Outcome.{Outcome}
use Rattle.live_server.specs.Live.{answered_of, lines_with, left_at_end, Wrote, IsBegun}
use Rattle.live_server.proofs.Steps.{nothing_begun}

-- before a line is done
pub not_begun : (s : Machine) (listed : Bool) (bytes : List ℕ) (p : Option (List ℕ)) → IsBegun s listed bytes p p
not_begun s listed bytes p = record {
  acts = [];
  left = λ who. lines_with who (lines_of bytes);
  behind = [];
  each = tt;
  in_turn = λ who. tt;
  waits = λ who. inl refl;
  last = tt;
  of_lines = λ who. refl;
  front = inl refl;
  written = nothing_begun p _;
}

-- what a whole run wrote is a beginning too
pub begun_whole : (s : Machine) (listed : Bool) (bytes : List ℕ) (o : Outcome) (p q : Option (List ℕ)) → Wrote s listed bytes o p q → IsBegun s listed bytes p q
begun_whole s listed bytes o p q w = record {
  acts = w.output.acts;
  left = λ who. [];
  behind = ending listed (after_units (left_at_end w.output.acts [] s).units initial).map;
  each = w.output.each;
  in_turn = w.output.in_turn;
  waits = λ who. inl (w.output.none_waits who);
  last = w.output.last;
  of_lines = λ who. append-nil (answered_of who w.output.acts) ∙ w.output.of_lines who;
  front = inr ((λ who. refl), refl);
  written = WritesBeginning-all p q _ (subst (Appends p q) w.output.written w.written);
}
