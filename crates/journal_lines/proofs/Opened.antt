-- A written reference, and the same with an empty subscript after its own.
use Rattle.std.proofs.Common.{◌≡◌, ℕ, Bool, true, false, cond, List, [], ◌∷◌, ◌++◌, length, Result, Ok, Err, OnOk, sym, ap, ◌∙◌, append_assoc}
use Rattle.std.proofs.lemmas.Grind.{flat_map-append}
use Rattle.std.specs.Prelude.{codes, is_ok, nat_lt}
use Rattle.std.specs.List.{flat_map}
use Rattle.collation.specs.Reference.{Reference}
use Rattle.key_codec.specs.Grown.{GoesOnFrom}
use Rattle.key_codec.specs.laws.Grown.{goes_on_none, goes_on_more, goes_on_then}
use Rattle.m_text.specs.Written.{parted, literal_text, reference_text}
use Rattle.journal_lines.specs.Steps.{opened}

-- all of a reference but its last ')'
abbrev pub unclosed : Reference → List ℕ
unclosed r = 94 ∷ (r.name ++ (40 ∷ parted 44 literal_text r.subscripts))

closed : (name : List ℕ) (s : List ℕ) (ss : List (List ℕ)) → reference_text (record { name = name; subscripts = s ∷ ss }) ≡ unclosed (record { name = name; subscripts = s ∷ ss }) ++ 41 ∷ []
closed name s ss = ap (λ (u : List ℕ). 94 ∷ u) (sym (append_assoc name (40 ∷ parted 44 literal_text (s ∷ ss)) (41 ∷ [])))

more_parted : (s : List ℕ) (ss : List (List ℕ)) → parted 44 literal_text (s ∷ (ss ++ [] ∷ [])) ≡ parted 44 literal_text (s ∷ ss) ++ codes ",\"\""
more_parted s ss = ap (λ (u : List ℕ). literal_text s ++ u) (flat_map-append (λ (t : List ℕ). 44 ∷ literal_text t) ss ([] ∷ [])) ∙ sym (append_assoc (literal_text s) (flat_map (λ (t : List ℕ). 44 ∷ literal_text t) ss) (codes ",\"\""))

open_text : (name : List ℕ) (s : List ℕ) (ss : List (List ℕ)) → reference_text (opened (record { name = name; subscripts = s ∷ ss })) ≡ unclosed (record { name = name; subscripts = s ∷ ss }) ++ codes ",\"\")"
open_text name s ss =
    let all : List ℕ = parted 44 literal_text (s ∷ ss) in
    ap (λ (u : List ℕ). 94 ∷ (name ++ (40 ∷ (u ++ 41 ∷ [])))) (more_parted s ss)
    ∙ ap (λ (u : List ℕ). 94 ∷ (name ++ (40 ∷ u))) (append_assoc all (codes ",\"\"") (41 ∷ []))
    ∙ ap (λ (u : List ℕ). 94 ∷ u) (sym (append_assoc name (40 ∷ all) (codes ",\"\")")))

-- what a written reference is without its last byte
record IsUnclosed (r : Reference) : Type 0 where
  with_end : reference_text r ≡ unclosed r ++ 41 ∷ []
  with_more : reference_text (opened r) ≡ unclosed r ++ codes ",\"\")"

is_unclosed : (r : Reference) → nat_lt 0 (length r.subscripts) ≡ true → IsUnclosed r
is_unclosed r some = at r.name r.subscripts some
  where
    at : (name : List ℕ) (ss : List (List ℕ)) → nat_lt 0 (length ss) ≡ true → IsUnclosed (record { name = name; subscripts = ss })
    at name [] some = absurd cc
    at name (s ∷ ss) some = record { with_end = closed name s ss; with_more = open_text name s ss }

-- the last byte was taken away
abbrev pub IsCut : List ℕ → List ℕ → Type 0
IsCut written cut = (front : List ℕ) (last : ℕ) → written ≡ front ++ last ∷ [] → cut ≡ front

cut_is : (old written cut : List ℕ) (r : Reference) → IsUnclosed r → written ≡ old ++ reference_text r → IsCut written cut → cut ≡ old ++ unclosed r
cut_is old written cut r h e last = last (old ++ unclosed r) 41 (e ∙ ap (λ (u : List ℕ). old ++ u) h.with_end ∙ sym (append_assoc old (unclosed r) (41 ∷ [])))

pub reopened : {T E : Type 0} (result : Result T E) (old written cut new : List ℕ) (r : Reference) → nat_lt 0 (length r.subscripts) ≡ true → written ≡ old ++ reference_text r → IsCut written cut
    → new ≡ cond (is_ok result) (cut ++ codes ",\"\")") cut → OnOk result (new ≡ old ++ reference_text (opened r))
reopened (Ok x) old written cut new r some e last is =
    let h = is_unclosed r some in
    is ∙ ap (λ (u : List ℕ). u ++ codes ",\"\")") (cut_is old written cut r h e last) ∙ append_assoc old (unclosed r) (codes ",\"\")") ∙ ap (λ (u : List ℕ). old ++ u) (sym h.with_more)
reopened (Err x) old written cut new r some e last is = tt

extended : (ok : Bool) (old new more : List ℕ) → new ≡ cond ok (old ++ more) old → GoesOnFrom old new
extended true old new more e = goes_on_more old new more e
extended false old new more e = goes_on_none old new e

pub reopened_kept : (ok : Bool) (old written cut new more : List ℕ) (r : Reference) → nat_lt 0 (length r.subscripts) ≡ true → written ≡ old ++ reference_text r → IsCut written cut
    → new ≡ cond ok (cut ++ more) cut → GoesOnFrom old new
reopened_kept ok old written cut new more r some e last is =
    goes_on_then old cut new (goes_on_more old cut (unclosed r) (cut_is old written cut r (is_unclosed r some) e last)) (extended ok cut new more is)
