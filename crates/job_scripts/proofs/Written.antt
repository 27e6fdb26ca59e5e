-- What was written of a text, seen from its end: with what is left it will be the whole.
use Rattle.std.proofs.Common.{◌≡◌, List, [], ◌∷◌, ◌++◌, ℕ, Option, subst}
use Rattle.std.specs.Io.KnownBytes.{Appends}
use Rattle.listing.specs.Bytes.{WritesBeginning}
use Rattle.job_scripts.specs.Reports.{Answers, report_text, reports_text}
use Rattle.listing.specs.laws.Bytes.{Appends-nothing, Appends-more, WritesBeginning-longer, WritesBeginning-then}

-- who writes what is left, or a beginning of it, has written the whole, or a beginning of it
abbrev pub Leads : Option (List ℕ) → Option (List ℕ) → List ℕ → List ℕ → Type 0
Leads start now left whole = ((end : Option (List ℕ)) → Appends now end left → Appends start end whole) × ((end : Option (List ℕ)) → WritesBeginning now end left → WritesBeginning start end whole)

pub leads_first : (a : Option (List ℕ)) (x : List ℕ) → Leads a a x x
leads_first a x = ((λ end w. w), (λ end w. w))

pub leads_next : (a b c : Option (List ℕ)) (x y whole : List ℕ) → Leads a b (x ++ y) whole → Appends b c x → Leads a c y whole
leads_next a b c x y whole h k = ((λ end w. h.0 end (Appends-more b c end x y k w)), (λ end w. h.1 end (WritesBeginning-then b c end x y k w)))

pub leads_end : (a b : Option (List ℕ)) (whole : List ℕ) → Leads a b [] whole → Appends a b whole
leads_end a b whole h = h.0 b (Appends-nothing b)

pub leads_begun : (a b c : Option (List ℕ)) (x y whole : List ℕ) → Leads a b (x ++ y) whole → WritesBeginning b c x → WritesBeginning a c whole
leads_begun a b c x y whole h w = h.1 c (WritesBeginning-longer b c x y w)

pub leads_report : (a b c : Option (List ℕ)) (reports rest : List Answers) (r : Answers) (text whole : List ℕ) → Leads a b (reports_text reports) whole → reports ≡ r ∷ rest → text ≡ report_text r → Appends b c text → Leads a c (reports_text rest) whole
leads_report a b c reports rest r text whole h e t w =
    leads_next a b c (report_text r) (reports_text rest) whole (subst (λ (rs : List Answers). Leads a b (reports_text rs) whole) e h) (subst (Appends b c) t w)
