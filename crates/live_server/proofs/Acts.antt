-- Acts, one after the other.
use Rattle.std.proofs.Common.{◌≡◌, ℕ, Bool, true, false, List, [], ◌∷◌, ◌++◌, map, Option, None, Some, refl, sym, ap, subst, ◌∙◌, append_assoc}
use Rattle.std.proofs.lemmas.List.{map-append}
use Rattle.std.proofs.lemmas.List.Elements.{filter-append}
use Rattle.std.proofs.lemmas.Bool.{eqb-true}
use Rattle.std.proofs.lemmas.Grind.{flat_map-append}
use Rattle.journal.specs.Story.{Machine}
use Rattle.script.specs.Line.{job_of_line}
use Rattle.script_run.specs.Output.{Answer, text_of}
use Rattle.live_server.specs.Live.{Act, answered, kept_off, over, left_by, all_left_by, AreActs, is_same, lines_with, answers_with, answers_in, answered_of, waiting_after, waiting_in, AreInTurn, open_past, open_by, AreLast}
use Rattle.live_server.specs.Runs.{none_over}

pub left-append : (xs ys : List Act) (s : Machine) → all_left_by (xs ++ ys) s ≡ all_left_by ys (all_left_by xs s)
left-append [] ys s = refl
left-append (x ∷ xs) ys s = left-append xs ys (left_by x s)

pub acts-append : (s t : Machine) (xs ys : List Act) → AreActs s xs → t ≡ all_left_by xs s → AreActs t ys → AreActs s (xs ++ ys)
acts-append s t [] ys h e k = subst (λ (m : Machine). AreActs m ys) e k
acts-append s t (x ∷ xs) ys h e k = (h.0, acts-append (left_by x s) t xs ys h.1 e k)

pub answers-append : (xs ys : List Act) → answers_in (xs ++ ys) ≡ answers_in xs ++ answers_in ys
answers-append [] ys = refl
answers-append (answered line reply ∷ xs) ys = ap (λ (more : List Answer). (line, reply) ∷ more) (answers-append xs ys)
answers-append (kept_off line ∷ xs) ys = answers-append xs ys
answers-append (over job ∷ xs) ys = answers-append xs ys

pub answered-append : (who : Option ℕ) (xs ys : List Act) → answered_of who (xs ++ ys) ≡ answered_of who xs ++ answered_of who ys
answered-append who xs ys =
    ap (λ (answers : List Answer). map (λ (a : Answer). a.0) (answers_with who answers)) (answers-append xs ys)
    ∙ ap (map (λ (a : Answer). a.0)) (filter-append (λ (a : Answer). is_same who (job_of_line a.0)) (answers_in xs) (answers_in ys))
    ∙ map-append (λ (a : Answer). a.0) (answers_with who (answers_in xs)) (answers_with who (answers_in ys))

pub lines-append : (who : Option ℕ) (xs ys : List (List ℕ)) → lines_with who (xs ++ ys) ≡ lines_with who xs ++ lines_with who ys
lines-append who xs ys = filter-append (λ (line : List ℕ). is_same who (job_of_line line)) xs ys

pub text-append : (out : List ℕ) (xs ys : List Act) → (out ++ text_of (answers_in xs)) ++ text_of (answers_in ys) ≡ out ++ text_of (answers_in (xs ++ ys))
text-append out xs ys =
    append_assoc out (text_of (answers_in xs)) (text_of (answers_in ys))
    ∙ ap (λ (t : List ℕ). out ++ t) (sym (flat_map-append _ (answers_in xs) (answers_in ys)) ∙ ap text_of (sym (answers-append xs ys)))

pub waiting-append : (who : Option ℕ) (w : Option (List ℕ)) (xs ys : List Act) → waiting_in who w (xs ++ ys) ≡ waiting_in who (waiting_in who w xs) ys
waiting-append who w [] ys = refl
waiting-append who w (x ∷ xs) ys = waiting-append who (waiting_after who w x) xs ys

pub turns-append : (who : Option ℕ) (w : Option (List ℕ)) (xs ys : List Act) → AreInTurn who w xs → AreInTurn who (waiting_in who w xs) ys → AreInTurn who w (xs ++ ys)
turns-append who w [] ys h k = k
turns-append who w (x ∷ xs) ys h k = (h.0, turns-append who (waiting_after who w x) xs ys h.1 k)

pub open-append : (xs ys : List Act) (jobs : List ℕ) → open_by (xs ++ ys) jobs ≡ open_by ys (open_by xs jobs)
open-append [] ys jobs = refl
open-append (x ∷ xs) ys jobs = open-append xs ys (open_past x jobs)

-- ---- HALTs

pub none_over-append : (xs ys : List Act) → none_over xs ≡ true → none_over ys ≡ true → none_over (xs ++ ys) ≡ true
none_over-append [] ys h k = k
none_over-append (answered line reply ∷ xs) ys h k = none_over-append xs ys h k
none_over-append (kept_off line ∷ xs) ys h k = none_over-append xs ys h k
none_over-append (over job ∷ xs) ys h k = absurd cc

-- none, and then such
pub last-behind : (left : Option ℕ → List (List ℕ)) (jobs : List ℕ) (xs ys : List Act) → none_over xs ≡ true → AreLast left (open_by xs jobs) ys → AreLast left jobs (xs ++ ys)
last-behind left jobs [] ys h k = k
last-behind left jobs (answered line reply ∷ xs) ys h k = (tt, last-behind left (open_past (answered line reply) jobs) xs ys h k)
last-behind left jobs (kept_off line ∷ xs) ys h k = (tt, last-behind left (open_past (kept_off line) jobs) xs ys h k)
last-behind left jobs (over job ∷ xs) ys h k = absurd cc

pub last-none : (left : Option ℕ → List (List ℕ)) (jobs : List ℕ) (xs : List Act) → none_over xs ≡ true → AreLast left jobs xs
last-none left jobs [] h = tt
last-none left jobs (answered line reply ∷ xs) h = (tt, last-none left (open_past (answered line reply) jobs) xs h)
last-none left jobs (kept_off line ∷ xs) h = (tt, last-none left (open_past (kept_off line) jobs) xs h)
last-none left jobs (over job ∷ xs) h = absurd cc

-- such, and then others of the lines that were left
pub last-append : (left mid : Option ℕ → List (List ℕ)) (jobs : List ℕ) (xs ys : List Act) → ((job : ℕ) → answered_of (Some job) ys ++ left (Some job) ≡ mid (Some job)) → AreLast mid jobs xs → AreLast left (open_by xs jobs) ys → AreLast left jobs (xs ++ ys)
last-append left mid jobs [] ys e h k = k
last-append left mid jobs (answered line reply ∷ xs) ys e h k = (tt, last-append left mid (open_past (answered line reply) jobs) xs ys e h.1 k)
last-append left mid jobs (kept_off line ∷ xs) ys e h k = (tt, last-append left mid (open_past (kept_off line) jobs) xs ys e h.1 k)
last-append left mid jobs (over job ∷ xs) ys e h k =
    let a = answered_of (Some job) xs in
    let b = answered_of (Some job) ys in
    let c = left (Some job) in
    let none : answered_of (Some job) (xs ++ ys) ++ c ≡ [] = ap (λ (l : List (List ℕ)). l ++ c) (answered-append (Some job) xs ys) ∙ append_assoc a b c ∙ ap (λ (l : List (List ℕ)). a ++ l) (e job) ∙ h.0.1 in
    ((h.0.0, none), last-append left mid (open_past (over job) jobs) xs ys e h.1 k)

-- where the same is left
pub last-same : (left mid : Option ℕ → List (List ℕ)) (jobs : List ℕ) (xs : List Act) → ((job : ℕ) → left (Some job) ≡ mid (Some job)) → AreLast mid jobs xs → AreLast left jobs xs
last-same left mid jobs [] e h = tt
last-same left mid jobs (answered line reply ∷ xs) e h = (tt, last-same left mid (open_past (answered line reply) jobs) xs e h.1)
last-same left mid jobs (kept_off line ∷ xs) e h = (tt, last-same left mid (open_past (kept_off line) jobs) xs e h.1)
last-same left mid jobs (over job ∷ xs) e h = ((h.0.0, ap (λ (l : List (List ℕ)). answered_of (Some job) xs ++ l) (e job) ∙ h.0.1), last-same left mid (open_past (over job) jobs) xs e h.1)

-- whose a line is
pub same_is : (who job : Option ℕ) → is_same who job ≡ true → who ≡ job
same_is None None h = refl
same_is None (Some job) h = absurd cc
same_is (Some who) None h = absurd cc
same_is (Some who) (Some job) h = ap (λ (n : ℕ). Some n) (eqb-true who job h)
