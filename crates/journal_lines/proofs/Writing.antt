-- How far a journal's lines have come.
use Rattle.std.proofs.Common.{◌≡◌, ℕ, List, [], ◌++◌, length, take, drop, Option, Some, Result, Ok, Err, refl, sym, ap, subst, ◌∙◌, append_assoc, append-nil}
use Rattle.std.proofs.lemmas.List.{nil_from_length, take-append-drop}
use Rattle.std.specs.Io.KnownBytes.{Appends}
use Rattle.journal.specs.declared.unit.Unit.{Unit as JournalUnit}
use Rattle.journal.specs.Log.{ReadsFirst}
use Rattle.listing.specs.Bytes.{WritesBeginning, WritesFront}
use Rattle.listing.specs.laws.Bytes.{Appends-nothing, Passes-none, Passes-more, Passes-then, Passes-begun, Passes-Appends, WritesBeginning-all, WritesBeginning-longer}
use Rattle.journal_lines.specs.Journals.{Pending, unit_steps, still_pending, steps_from, lines_of, journal_text, HasLines}
use Rattle.journal_lines.proofs.Gathered.{lines-append}

-- a beginning of the text was written or is gathered, and with the lines of the units that are left it is the whole
pub record Writing (old now : Option (List ℕ)) (text : List ℕ) (pending : Pending) (left : List JournalUnit) (out : List ℕ) : Type 0 where
  pub done : List ℕ
  pub passes : WritesFront old now done out
  pub whole : done ++ lines_of (steps_from pending left) ≡ text

pub writing_first : (old : Option (List ℕ)) (pending : Pending) (units : List JournalUnit) (out : List ℕ) → Writing old old (out ++ lines_of (steps_from pending units)) pending units out
writing_first old pending units out = record { done = out; passes = Passes-none old out; whole = refl }

-- one unit more is gathered
writing_more : {E : Type 0} (old now : Option (List ℕ)) (text : List ℕ) (pending still : Pending) (left rest : List JournalUnit) (out more : List ℕ) (read : Result JournalUnit E) →
    Writing old now text pending left out → ReadsFirst left (Some read) rest → HasLines read pending still out more → Writing old now text still rest more
writing_more old now text pending still left rest out more (Ok u) h first lines =
    let line : List ℕ = lines_of (unit_steps u pending) in
    record {
      done = h.done ++ line;
      passes = subst (WritesFront old now (h.done ++ line)) (sym lines.1) (Passes-more old now h.done out line h.passes);
      whole = ap (λ (p : Pending). (h.done ++ line) ++ lines_of (steps_from p rest)) lines.0
          ∙ append_assoc h.done line (lines_of (steps_from (still_pending u pending) rest))
          ∙ ap (λ (t : List ℕ). h.done ++ t) (sym (lines-append (unit_steps u pending) (steps_from (still_pending u pending) rest)) ∙ ap (λ (us : List JournalUnit). lines_of (steps_from pending us)) (sym first))
          ∙ h.whole;
    }
writing_more old now text pending still left rest out more (Err e) h first lines = absurd lines

-- one unit more, and what was gathered may have been written
pub writing_next : {E : Type 0} (old now next : Option (List ℕ)) (text : List ℕ) (pending still : Pending) (left rest : List JournalUnit) (out more kept : List ℕ) (read : Result JournalUnit E) →
    Writing old now text pending left out → ReadsFirst left (Some read) rest → HasLines read pending still out more → WritesFront now next more kept → Writing old next text still rest kept
writing_next old now next text pending still left rest out more kept read h first lines passes =
    let g = writing_more old now text pending still left rest out more read h first lines in
    record { done = g.done; passes = Passes-then old now next g.done more kept g.passes passes; whole = g.whole }

-- what was written is a beginning of the text
pub writing_begun : (old now : Option (List ℕ)) (text : List ℕ) (pending : Pending) (left : List JournalUnit) (out : List ℕ) → Writing old now text pending left out → WritesBeginning old now text
writing_begun old now text pending left out h =
    subst (WritesBeginning old now)
    (sym (append_assoc h.passes.written out (lines_of (steps_from pending left))) ∙ ap (λ (t : List ℕ). t ++ lines_of (steps_from pending left)) (sym h.passes.rest) ∙ h.whole)
    (WritesBeginning-longer old now h.passes.written (out ++ lines_of (steps_from pending left)) (WritesBeginning-all old now h.passes.written h.passes.appended))

-- and so is it with a beginning of what is gathered
pub writing_broken : {E : Type 0} (old now last : Option (List ℕ)) (text : List ℕ) (pending still : Pending) (left rest : List JournalUnit) (out more : List ℕ) (read : Result JournalUnit E) →
    Writing old now text pending left out → ReadsFirst left (Some read) rest → HasLines read pending still out more → WritesBeginning now last more → WritesBeginning old last text
writing_broken old now last text pending still left rest out more read h first lines begun =
    let g = writing_more old now text pending still left rest out more read h first lines in
    subst (WritesBeginning old last) g.whole (WritesBeginning-longer old last g.done (lines_of (steps_from still rest)) (Passes-begun old now last g.done more g.passes begun))

-- no unit is left
pub writing_last : (old now : Option (List ℕ)) (text : List ℕ) (pending : Pending) (left : List JournalUnit) (out : List ℕ) → Writing old now text pending left out → left ≡ [] → WritesFront old now text out
writing_last old now text pending left out h none =
    subst (λ (t : List ℕ). WritesFront old now t out) (sym (append-nil h.done) ∙ ap (λ (us : List JournalUnit). h.done ++ lines_of (steps_from pending us)) (sym none) ∙ h.whole) h.passes

-- a whole journal

-- of units of which none is dropped all are read
same_text : (base : ℕ) (units : List JournalUnit) → length (take base units) ≡ 0 → journal_text (drop base units) ≡ journal_text units
same_text base units e = ap journal_text (ap (λ (us : List JournalUnit). us ++ drop base units) (sym (nil_from_length (take base units) e)) ∙ take-append-drop base units)

pub nothing_begun : (a : Option (List ℕ)) (text : List ℕ) → WritesBeginning a a text
nothing_begun a text = WritesBeginning-longer a a [] text (WritesBeginning-all a a [] (Appends-nothing a))

pub all_written : (a b c : Option (List ℕ)) (base : ℕ) (units : List JournalUnit) (out : List ℕ) → length (take base units) ≡ 0 → WritesFront a b (journal_text (drop base units)) out → Appends b c out → Appends a c (journal_text units)
all_written a b c base units out e h k = subst (Appends a c) (same_text base units e) (Passes-Appends a b c (journal_text (drop base units)) out h k)

pub units_begun : (a b : Option (List ℕ)) (base : ℕ) (units : List JournalUnit) → length (take base units) ≡ 0 → WritesBeginning a b (journal_text (drop base units)) → WritesBeginning a b (journal_text units)
units_begun a b base units e h = subst (WritesBeginning a b) (same_text base units e) h

pub gathered_begun : (a b c : Option (List ℕ)) (base : ℕ) (units : List JournalUnit) (out : List ℕ) → length (take base units) ≡ 0 → WritesFront a b (journal_text (drop base units)) out → WritesBeginning b c out → WritesBeginning a c (journal_text units)
gathered_begun a b c base units out e h k = units_begun a c base units e (Passes-begun a b c (journal_text (drop base units)) out h k)
