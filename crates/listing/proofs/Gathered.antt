-- How far a listing has come.
use Rattle.std.proofs.Common.{◌≡◌, ℕ, List, [], ◌∷◌, ◌++◌, Option, refl, sym, ap, subst, ◌∙◌, append_assoc, append-nil}
use Rattle.std.proofs.lemmas.Grind.{flat_map-append}
use Rattle.std.specs.Prelude.{filter, not}
use Rattle.std.specs.List.{flat_map}
use Rattle.globals.specs.Cuts.{stands_before}
use Rattle.globals.specs.declared.cut.Cut.TheVariants.{Start}
use Rattle.std.specs.Io.KnownBytes.{Appends}
use Rattle.collation.specs.Reference.{Reference}
use Rattle.listing.specs.Bytes.{WritesBeginning, WritesFront}
use Rattle.listing.specs.laws.Bytes.{Appends-nothing, Appends-more, Passes-then, WritesBeginning-all, WritesBeginning-longer, WritesBeginning-then}
use Rattle.std.specs.FinMap as finmap
use Rattle.collation.specs.Database.{Database}
use Rattle.listing.specs.Listing.{node_text, HasListed}

abbrev pub Entry : Type 0
Entry = Reference × List ℕ

abbrev pub lines_of : List Entry → List ℕ
lines_of es = flat_map node_text es

-- a text and the lines of some entries were written or are gathered, and the others are left
pub record Stands (old now : Option (List ℕ)) (front : List ℕ) (all done left : List Entry) (out : List ℕ) : Type 0 where
  pub parts : done ++ left ≡ all
  pub passes : WritesFront old now (front ++ lines_of done) out

pub stands_first : (old : Option (List ℕ)) (front : List ℕ) (all left : List Entry) → left ≡ all → Stands old old front all [] left front
stands_first old front all left e = record { parts = e; passes = record { written = []; appended = Appends-nothing old; rest = append-nil front } }

lines-more : (done : List Entry) (e : Entry) → lines_of (done ++ e ∷ []) ≡ lines_of done ++ node_text e
lines-more done e = flat_map-append node_text done (e ∷ []) ∙ ap (λ (t : List ℕ). lines_of done ++ t) (append-nil (node_text e))

one-more : (front : List ℕ) (done : List Entry) (e : Entry) → front ++ lines_of (done ++ e ∷ []) ≡ (front ++ lines_of done) ++ node_text e
one-more front done e = ap (λ (t : List ℕ). front ++ t) (lines-more done e) ∙ sym (append_assoc front (lines_of done) (node_text e))

-- one node more is gathered
gathered_more : (old now : Option (List ℕ)) (front : List ℕ) (all done left : List Entry) (e : Entry) (out more : List ℕ) (nodes : List Entry) → Stands old now front all done nodes out → nodes ≡ e ∷ left
    → more ≡ out ++ node_text e → Stands old now front all (done ++ e ∷ []) left more
gathered_more old now front all done left e out more nodes h f m = record {
  parts = append_assoc done (e ∷ []) left ∙ ap (λ (es : List Entry). done ++ es) (sym f) ∙ h.parts;
  passes = record {
    written = h.passes.written;
    appended = h.passes.appended;
    rest = one-more front done e ∙ ap (λ (t : List ℕ). t ++ node_text e) h.passes.rest ∙ append_assoc h.passes.written out (node_text e) ∙ ap (λ (t : List ℕ). h.passes.written ++ t) (sym m);
  };
}

-- one node more, and what was gathered may have been written
pub stands_next : (old now next : Option (List ℕ)) (front : List ℕ) (all done left : List Entry) (e : Entry) (out more kept : List ℕ) (nodes : List Entry) → Stands old now front all done nodes out → nodes ≡ e ∷ left
    → more ≡ out ++ node_text e → WritesFront now next more kept → Stands old next front all (done ++ e ∷ []) left kept
stands_next old now next front all done left e out more kept nodes h f m p =
    let g = gathered_more old now front all done left e out more nodes h f m in
    record { parts = g.parts; passes = Passes-then old now next (front ++ lines_of (done ++ e ∷ [])) more kept g.passes p }

-- the whole text, by what was written, what is gathered and what is left
whole : (old now : Option (List ℕ)) (front : List ℕ) (all done left : List Entry) (out : List ℕ) (h : Stands old now front all done left out) → front ++ lines_of all ≡ h.passes.written ++ (out ++ lines_of left)
whole old now front all done left out h =
    ap (λ (es : List Entry). front ++ lines_of es) (sym h.parts) ∙ ap (λ (t : List ℕ). front ++ t) (flat_map-append node_text done left) ∙ sym (append_assoc front (lines_of done) (lines_of left))
    ∙ ap (λ (t : List ℕ). t ++ lines_of left) h.passes.rest ∙ append_assoc h.passes.written out (lines_of left)

pub begun : (old now : Option (List ℕ)) (front : List ℕ) (all done left : List Entry) (out : List ℕ) → Stands old now front all done left out → WritesBeginning old now (front ++ lines_of all)
begun old now front all done left out h =
    subst (WritesBeginning old now) (sym (whole old now front all done left out h)) (WritesBeginning-longer old now h.passes.written (out ++ lines_of left) (WritesBeginning-all old now h.passes.written h.passes.appended))

-- and no more of it is gathered
pub listed_so_far : (old now : Option (List ℕ)) (front : List ℕ) (m : Database) (done left : List Entry) (out same : List ℕ) → Stands old now front (finmap.entries m) done left out → same ≡ out → HasListed old now front m same
listed_so_far old now front m done left out same h e = record {
  text = lines_of done;
  listed = record { done = done; left = left; parts = h.parts; lines = refl };
  passes = subst (WritesFront old now (front ++ lines_of done)) (sym e) h.passes;
}

-- a beginning of what was gathered was written
pub begun_out : (old now last : Option (List ℕ)) (front : List ℕ) (all done left : List Entry) (out : List ℕ) → Stands old now front all done left out → WritesBeginning now last out → WritesBeginning old last (front ++ lines_of all)
begun_out old now last front all done left out h w =
    subst (WritesBeginning old last) (sym (whole old now front all done left out h)) (WritesBeginning-then old now last h.passes.written (out ++ lines_of left) h.passes.appended (WritesBeginning-longer now last out (lines_of left) w))

-- the same with one node more gathered
pub begun_more : (old now last : Option (List ℕ)) (front : List ℕ) (all done left nodes : List Entry) (e : Entry) (out more : List ℕ) → Stands old now front all done nodes out → nodes ≡ e ∷ left → more ≡ out ++ node_text e
    → WritesBeginning now last more → WritesBeginning old last (front ++ lines_of all)
begun_more old now last front all done left nodes e out more h f m w =
    begun_out old now last front all (done ++ e ∷ []) left more (gathered_more old now front all done left e out more nodes h f m) w

-- nothing is left, and what was gathered was written
pub wrote_all : (old now last : Option (List ℕ)) (front : List ℕ) (all done left : List Entry) (out : List ℕ) → Stands old now front all done left out → left ≡ [] → Appends now last out → Appends old last (front ++ lines_of all)
wrote_all old now last front all done left out h none w =
    subst (Appends old last)
    (ap (λ (t : List ℕ). h.passes.written ++ t) (sym (append-nil out) ∙ ap (λ (es : List Entry). out ++ lines_of es) (sym none)) ∙ sym (whole old now front all done left out h))
    (Appends-more old now last h.passes.written out h.passes.appended w)

-- from the start all entries are left
pub from_start : (es : List Entry) → filter (λ e. not (stands_before Start e.0)) es ≡ es
from_start [] = refl
from_start (e ∷ es) = ap (λ (l : List Entry). e ∷ l) (from_start es)
