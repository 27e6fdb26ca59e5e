-- The flags of open jobs.
use Rattle.std.proofs.Common.{◌≡◌, ℕ, zero, suc, ◌+◌, ◌<◌, ◌≤◌, Bool, true, false, not, ◌||◌, eqb, cond, List, [], ◌∷◌, ◌++◌, length, get_or, set, replicate, refl, sym, ap, ◌∙◌, arith, length-append}
use Rattle.std.specs.Prelude.{◌==◌, ◌≢◌}
use Rattle.std.proofs.lemmas.List.Folds.{list_any-append}
use Rattle.std.proofs.lemmas.List.{get_or-set_same, get_or-set_other, length-set, length-replicate, get_or-replicate}
use Rattle.std.proofs.Math.Bool.{or-false}
use Rattle.std.proofs.lemmas.Bool.{eqb-true, or_right}
use Rattle.script_run.specs.OpenJobs.{is_open, without_job, tally, AreFlagged}

-- no more flags are set than there are
pub tally-le : (flags : List Bool) → tally flags ≤ length flags
tally-le [] = omega arith
tally-le (true ∷ flags) = let h = tally-le flags in omega (arith, h)
tally-le (false ∷ flags) = let h = tally-le flags in omega (arith, h)

tally-none : (n : ℕ) → tally (replicate n false) ≡ 0
tally-none zero = refl
tally-none (suc n) = tally-none n

-- one flag more, or less
tally-more : (flags : List Bool) (n : ℕ) → n < length flags → get_or flags n false ≡ false → tally (set flags n true) ≡ tally flags + 1
tally-more [] n lt e = absurd (omega (arith, lt))
tally-more (true ∷ flags) zero lt e = absurd cc
tally-more (false ∷ flags) zero lt e = omega arith
tally-more (true ∷ flags) (suc n) lt e = let h = tally-more flags n (omega (arith, lt)) e in omega (arith, h)
tally-more (false ∷ flags) (suc n) lt e = tally-more flags n (omega (arith, lt)) e

tally-less : (flags : List Bool) (n : ℕ) → n < length flags → get_or flags n false ≡ true → tally (set flags n false) + 1 ≡ tally flags
tally-less [] n lt e = absurd (omega (arith, lt))
tally-less (true ∷ flags) zero lt e = omega arith
tally-less (false ∷ flags) zero lt e = absurd cc
tally-less (true ∷ flags) (suc n) lt e = let h = tally-less flags n (omega (arith, lt)) e in omega (arith, h)
tally-less (false ∷ flags) (suc n) lt e = tally-less flags n (omega (arith, lt)) e

-- none is open
pub flagged_none : (flags : List Bool) (n room : ℕ) → n ≡ 4097 → flags ≡ replicate n false → n ≤ room → AreFlagged [] flags room
flagged_none flags n room k e r = record {
  numbers = ap length e ∙ length-replicate n false ∙ k;
  each = λ m lt. ap (λ (f : List Bool). get_or f m false) e ∙ get_or-replicate n m false false (omega (arith, lt, k));
  counted = omega arith;
  roomy = omega (arith, r, k);
}

open_more : (m job : ℕ) (jobs : List ℕ) → is_open m (jobs ++ job ∷ []) ≡ (is_open m jobs || (job == m))
open_more m job jobs = list_any-append (λ j. j == m) jobs (job ∷ []) ∙ ap (λ (b : Bool). is_open m jobs || b) (or-false (job == m))

-- one job more is open
pub flagged_more : (jobs : List ℕ) (flags : List Bool) (room job : ℕ) → AreFlagged jobs flags room → job < 4097 → is_open job jobs ≡ false → AreFlagged (jobs ++ job ∷ []) (set flags job true) room
flagged_more jobs flags room job h lt closed = record {
  numbers = length-set flags job true ∙ h.numbers;
  each = λ m in_range. at m in_range (eqb job m) refl;
  counted =
      let more = tally-more flags job (omega (arith, lt, h.numbers)) (h.each job lt ∙ closed) in
      omega (arith, more, h.counted, length-append jobs (job ∷ []));
  roomy = h.roomy;
}
  where
    at : (m : ℕ) → m < 4097 → (t : Bool) → eqb job m ≡ t → get_or (set flags job true) m false ≡ is_open m (jobs ++ job ∷ [])
    at m lt' true e =
        let same : job ≡ m = eqb-true job m e in
        let flag : get_or (set flags job true) m false ≡ true = ap (λ (k : ℕ). get_or (set flags job true) k false) (sym same) ∙ get_or-set_same flags job true false (omega (arith, lt, h.numbers)) in
        flag ∙ sym (open_more m job jobs ∙ or_right (is_open m jobs) (job == m) e)
    at m lt' false e =
        let other : m ≢ job = λ p. grind (arith, e, p) in
        get_or-set_other flags job m true false other ∙ h.each m lt' ∙ sym (open_more m job jobs ∙ ap (λ (b : Bool). is_open m jobs || b) e ∙ or-false (is_open m jobs))

-- a job that isn't open is left out anyhow
pub without_none : (job : ℕ) (jobs : List ℕ) → is_open job jobs ≡ false → without_job job jobs ≡ jobs
without_none job [] h = refl
without_none job (j ∷ jobs) h = at (eqb j job) h (without_none job jobs)
  where
    at : (t : Bool) → (t || is_open job jobs) ≡ false → (is_open job jobs ≡ false → without_job job jobs ≡ jobs) → cond (not t) (j ∷ without_job job jobs) (without_job job jobs) ≡ j ∷ jobs
    at true k ih = absurd cc
    at false k ih = ap (λ (l : List ℕ). j ∷ l) (ih k)

-- whether another is open
open_others : (m job : ℕ) (jobs : List ℕ) → (eqb job m ≡ false) → is_open m (without_job job jobs) ≡ is_open m jobs
open_others m job [] e = refl
open_others m job (j ∷ jobs) e = at (eqb j job) refl (open_others m job jobs e)
  where
    at : (t : Bool) → eqb j job ≡ t → is_open m (without_job job jobs) ≡ is_open m jobs → is_open m (cond (not t) (j ∷ without_job job jobs) (without_job job jobs)) ≡ (eqb j m || is_open m jobs)
    at true f ih =
        let closed : eqb j m ≡ false = ap (λ (k : ℕ). eqb k m) (eqb-true j job f) ∙ e in
        ih ∙ ap (λ (b : Bool). b || is_open m jobs) (sym closed)
    at false f ih = ap (λ (b : Bool). eqb j m || b) ih

open_no_more : (job : ℕ) (jobs : List ℕ) → is_open job (without_job job jobs) ≡ false
open_no_more job [] = refl
open_no_more job (j ∷ jobs) = at (eqb j job) refl (open_no_more job jobs)
  where
    at : (t : Bool) → eqb j job ≡ t → is_open job (without_job job jobs) ≡ false → is_open job (cond (not t) (j ∷ without_job job jobs) (without_job job jobs)) ≡ false
    at true f ih = ih
    at false f ih = ap (λ (b : Bool). b || is_open job (without_job job jobs)) f ∙ ih

without-le : (job : ℕ) (jobs : List ℕ) → length (without_job job jobs) ≤ length jobs
without-le job [] = omega arith
without-le job (j ∷ jobs) = at (eqb j job) (without-le job jobs)
  where
    at : (t : Bool) → length (without_job job jobs) ≤ length jobs → length (cond (not t) (j ∷ without_job job jobs) (without_job job jobs)) ≤ suc (length jobs)
    at true h = omega (arith, h)
    at false h = omega (arith, h)

fewer : (job : ℕ) (jobs : List ℕ) → is_open job jobs ≡ true → length (without_job job jobs) + 1 ≤ length jobs
fewer job [] h = absurd cc
fewer job (j ∷ jobs) h = at (eqb j job) h (fewer job jobs) (without-le job jobs)
  where
    at : (t : Bool) → (t || is_open job jobs) ≡ true → (is_open job jobs ≡ true → length (without_job job jobs) + 1 ≤ length jobs) → length (without_job job jobs) ≤ length jobs → length (cond (not t) (j ∷ without_job job jobs) (without_job job jobs)) + 1 ≤ suc (length jobs)
    at true k ih le = omega (arith, le)
    at false k ih le = let few = ih k in omega (arith, few)

-- one job less is open
pub flagged_less : (jobs : List ℕ) (flags : List Bool) (room job : ℕ) → AreFlagged jobs flags room → job < 4097 → is_open job jobs ≡ true → AreFlagged (without_job job jobs) (set flags job false) room
flagged_less jobs flags room job h lt opened = record {
  numbers = length-set flags job false ∙ h.numbers;
  each = λ m in_range. at m in_range (eqb job m) refl;
  counted =
      let less = tally-less flags job (omega (arith, lt, h.numbers)) (h.each job lt ∙ opened) in
      let few = fewer job jobs opened in
      omega (arith, less, few, h.counted);
  roomy = h.roomy;
}
  where
    at : (m : ℕ) → m < 4097 → (t : Bool) → eqb job m ≡ t → get_or (set flags job false) m false ≡ is_open m (without_job job jobs)
    at m lt' true e =
        let same : job ≡ m = eqb-true job m e in
        ap (λ (k : ℕ). get_or (set flags job false) k false) (sym same) ∙ get_or-set_same flags job false false (omega (arith, lt, h.numbers)) ∙ sym (open_no_more job jobs) ∙ ap (λ (k : ℕ). is_open k (without_job job jobs)) same
    at m lt' false e =
        let other : m ≢ job = λ p. grind (arith, e, p) in
        get_or-set_other flags job m false false other ∙ h.each m lt' ∙ sym (open_others m job jobs e)

-- there is room for a job that isn't open
pub room_left : (jobs : List ℕ) (flags : List Bool) (room job : ℕ) → AreFlagged jobs flags room → job < 4097 → is_open job jobs ≡ false → length jobs < room
room_left jobs flags room job h lt closed =
    let more = tally-more flags job (omega (arith, lt, h.numbers)) (h.each job lt ∙ closed) in
    let all = tally-le (set flags job true) in
    omega (arith, more, all, h.counted, h.roomy, h.numbers, length-set flags job true)
