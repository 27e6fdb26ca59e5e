-- Desks whose lines are of their jobs.
use Rattle.std.proofs.Common.{◌≡◌, ℕ, zero, suc, List, [], ◌∷◌, ◌++◌, length, get_or, ◌+◌, ◌<◌, ◌≤◌, Bool, true, false, arith, Option, Some, refl, sym, ap, subst}
use Rattle.std.specs.Prelude.{unwrap_or, nat_lt}
use Rattle.std.proofs.lemmas.Bool.{ltb-true, ltb-false}
use Rattle.std.specs.List.{All}
use Rattle.std.proofs.lemmas.List.Elements.{All-nil, All-head}
use Rattle.script.specs.Line.{job_of_line}
use Rattle.live_server.specs.Desks.{DeskShown, no_lines, desk_of, first_of, AreDesks}

-- one more without lines
pub more_none : (desks : List DeskShown) → ((job : ℕ) → desk_of desks job ≡ no_lines) → (job : ℕ) → desk_of (desks ++ no_lines ∷ []) job ≡ no_lines
more_none [] h zero = refl
more_none [] h (suc n) = refl
more_none (d ∷ desks) h zero = h 0
more_none (d ∷ desks) h (suc n) = more_none desks (λ m. h (suc m)) n

-- desks without lines
pub new_desks : (desks : List DeskShown) → length desks ≡ 4097 → ((job : ℕ) → desk_of desks job ≡ no_lines) → AreDesks desks
new_desks desks count none = record {
  count = count;
  own = λ job. subst (λ (d : DeskShown). All (λ (line : List ℕ). job_of_line line ≡ Some job) d.lines) (sym (none job)) (All-nil (λ (line : List ℕ). job_of_line line ≡ Some job));
}

first_own : (job : ℕ) (lines : List (List ℕ)) (line : List ℕ) → All (λ (l : List ℕ). job_of_line l ≡ Some job) lines → first_of lines ≡ Some line → job_of_line line ≡ Some job
first_own job [] line h e = absurd cc
first_own job (l ∷ lines) line h e = subst (λ (x : List ℕ). job_of_line x ≡ Some job) (ap (unwrap_or_line l) e) (All-head (λ (x : List ℕ). job_of_line x ≡ Some job) l lines h)
  where
    unwrap_or_line : List ℕ → Option (List ℕ) → List ℕ
    unwrap_or_line x o = unwrap_or o x

-- the first line of a desk is of its job
pub own_first : (desks : List DeskShown) (job : ℕ) (line : List ℕ) → AreDesks desks → first_of (desk_of desks job).lines ≡ Some line → job_of_line line ≡ Some job
own_first desks job line h e = first_own job (desk_of desks job).lines line (h.own job) e

-- the desks before this one have no lines
abbrev pub AreEmptyBefore : ℕ → List DeskShown → Type 0
AreEmptyBefore at desks = (job : ℕ) → job < at → (desk_of desks job).lines ≡ []

pub none_before : (desks : List DeskShown) → AreEmptyBefore 0 desks
none_before desks job lt = absurd (omega (arith, lt))

pub one_more_empty : (at : ℕ) (desks : List DeskShown) → AreEmptyBefore at desks → (desk_of desks at).lines ≡ [] → AreEmptyBefore (at + 1) desks
one_more_empty at desks h e job lt = by (nat_lt job at) refl
  where
    by : (b : Bool) → nat_lt job at ≡ b → (desk_of desks job).lines ≡ []
    by true less = h job (ltb-true job at less)
    by false not_less = let le = ltb-false job at not_less in let same : at ≡ job = omega (arith, lt, le) in subst (λ (n : ℕ). (desk_of desks n).lines ≡ []) same e

past_lines : (desks : List DeskShown) (job : ℕ) → length desks ≤ job → (desk_of desks job).lines ≡ []
past_lines [] job le = ap (λ (d : DeskShown). d.lines) (none_at job)
  where
    none_at : (n : ℕ) → get_or [] n no_lines ≡ no_lines
    none_at zero = refl
    none_at (suc n) = refl
past_lines (d ∷ desks) zero le = absurd (omega (arith, le))
past_lines (d ∷ desks) (suc n) le = past_lines desks n (omega (arith, le))

pub all_empty : (at : ℕ) (desks : List DeskShown) → AreDesks desks → 4097 ≤ at → AreEmptyBefore at desks → (job : ℕ) → (desk_of desks job).lines ≡ []
all_empty at desks are le h job = by (nat_lt job at) refl
  where
    by : (b : Bool) → nat_lt job at ≡ b → (desk_of desks job).lines ≡ []
    by true less = h job (ltb-true job at less)
    by false not_less = let past = ltb-false job at not_less in past_lines desks job (omega (arith, are.count, le, past))
