-- No two scripts of a text are of one job.
use Rattle.std.proofs.Common.{◌≡◌, ℕ, ◌==◌, Bool, true, false, not, List, [], ◌∷◌, map, refl, sym, ap, ◌∙◌, subst, eq-eqb, true≢false}
use Rattle.std.specs.Prelude.{⊤, Option, Some, None, IfSome, unwrap_or, cond}
use Rattle.std.specs.List.{filter}
use Rattle.job_scripts.specs.Groups.{Group, group_of, groups_in, lines_in, firsts, numbers_in}
use Rattle.job_scripts.specs.laws.Numbered.{numbers_group}
use Rattle.job_server.specs.Served.{IsNoJobOf, AreApart}

-- ---- numbers that are all different

abbrev IsNotIn : ℕ → List ℕ → Type 0
IsNotIn n [] = ⊤
IsNotIn n (m ∷ ms) = (m ≡ n → ⊥) × IsNotIn n ms

abbrev AreDifferent : List ℕ → Type 0
AreDifferent [] = ⊤
AreDifferent (n ∷ ns) = IsNotIn n ns × AreDifferent ns

not_in_filter : (p : ℕ → Bool) (n : ℕ) (ms : List ℕ) → IsNotIn n ms → IsNotIn n (filter p ms)
not_in_filter p n [] none = tt
not_in_filter p n (m ∷ ms) none = by_test (p m) (not_in_filter p n ms none.1)
  where
    by_test : (b : Bool) → IsNotIn n (filter p ms) → IsNotIn n (cond b (m ∷ filter p ms) (filter p ms))
    by_test true later = (none.0, later)
    by_test false later = later

filter_different : (p : ℕ → Bool) (ms : List ℕ) → AreDifferent ms → AreDifferent (filter p ms)
filter_different p [] all = tt
filter_different p (m ∷ ms) all = by_test (p m) (filter_different p ms all.1)
  where
    by_test : (b : Bool) → AreDifferent (filter p ms) → AreDifferent (cond b (m ∷ filter p ms) (filter p ms))
    by_test true later = (not_in_filter p m ms all.0, later)
    by_test false later = later

left_out : (n : ℕ) (ms : List ℕ) → IsNotIn n (filter (λ m. not (m == n)) ms)
left_out n [] = tt
left_out n (m ∷ ms) = by_test (m == n) refl (left_out n ms)
  where
    by_test : (b : Bool) → (m == n) ≡ b → IsNotIn n (filter (λ k. not (k == n)) ms) → IsNotIn n (cond (not b) (m ∷ filter (λ k. not (k == n)) ms) (filter (λ k. not (k == n)) ms))
    by_test true e later = later
    by_test false e later = ((λ same. true≢false (sym (eq-eqb m n same) ∙ e)), later)

firsts_different : (ns : List ℕ) → AreDifferent (firsts ns)
firsts_different [] = tt
firsts_different (n ∷ ns) = (left_out n (firsts ns), filter_different (λ m. not (m == n)) (firsts ns) (firsts_different ns))

-- ---- scripts

no_job : (job : ℕ) (ws : List Group) → IsNotIn job (numbers_in ws) → IsNoJobOf job ws
no_job job [] none = tt
no_job job (w ∷ ws) none = ((λ is. none.0 (ap (λ (o : Option ℕ). unwrap_or o 0) is)), no_job job ws none.1)

apart_by : (ws : List Group) → AreDifferent (numbers_in ws) → AreApart ws
apart_by [] all = tt
apart_by (w ∷ ws) all = (by_job w.job refl, apart_by ws all.1)
  where
    by_job : (o : Option ℕ) → w.job ≡ o → IfSome o (λ job. IsNoJobOf job ws)
    by_job None is = tt
    by_job (Some job) is = no_job job ws (subst (λ (n : ℕ). IsNotIn n (numbers_in ws)) (ap (λ (o : Option ℕ). unwrap_or o 0) is) all.0)

pub apart_of : (text : List ℕ) → AreApart (groups_in text)
apart_of text =
    let lines = lines_in text in
    apart_by (groups_in text) (subst AreDifferent (sym (numbers_group lines (firsts (map group_of lines)))) (firsts_different (map group_of lines)))
