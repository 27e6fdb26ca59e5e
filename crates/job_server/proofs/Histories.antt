-- What a job's sessions did is a history of the machine, by the laws of shared_engine.
use Rattle.std.proofs.Common.{◌≡◌, inl, inr, ℕ, ◌^◌, ◌≤◌, ◌<◌, List, [], ◌∷◌, ◌++◌, length, refl, sym, ap, ◌∙◌, subst, arith, append_assoc, append-nil}
use Rattle.std.specs.Prelude.{Option, Some, None}
use Rattle.std.specs.List.{All}
use Rattle.std.specs.Ordering.{nat_cmp}
use Rattle.std.specs.FinMap as finmap
use Rattle.std.proofs.lemmas.List.Elements.{All-nil, All-cons, All-head, All-tail}
use Rattle.journal.specs.declared.unit.Unit.{Unit as JournalUnit}
use Rattle.serial.specs.Interleaving.{Told, IsWritten, upto_of}
use Rattle.job_core.specs.Sessions.{idle}
use Rattle.shared_engine.specs.Receipts.{Book}
use Rattle.shared_engine.specs.Sessions.{Held, held, halted}
use Rattle.shared_engine.specs.Engines.{HasSeenOf}
use Rattle.shared_engine.specs.Steps.{StepsAreExact}
use Rattle.shared_engine.specs.Histories.{IsToldOn, GoesOnFromAll, Wrote, HasHistory, HasClosed, HistoriesKnow, HistoriesGoOn, HistoriesEnd, WroteAll}
use Rattle.job_server.specs.Steps.{Past, past, SessionsSoFar, sessions_so_far, none_since, AreBefore, IsBetween, IsBetweenIn, IsStepIn, AreSteps}
use Rattle.job_server.proofs.Stepping.{before_more, steps_then}

-- the laws
pub record Laws : Type 0 where
  pub exact : StepsAreExact
  pub know : HistoriesKnow
  pub go_on : HistoriesGoOn
  pub end : HistoriesEnd

-- ---- books

abbrev seen_of : List Book → List (List JournalUnit)
seen_of [] = []
seen_of (b ∷ bs) = b.seen ∷ seen_of bs

all_known : (log : List JournalUnit) (books : List Book) → All (HasSeenOf log) books → GoesOnFromAll log (seen_of books)
all_known log [] all = tt
all_known log (b ∷ bs) all = (All-head (HasSeenOf log) b bs all, all_known log bs (All-tail (HasSeenOf log) b bs all))

known_all : (log : List JournalUnit) (books : List Book) → GoesOnFromAll log (seen_of books) → All (HasSeenOf log) books
known_all log [] known = All-nil (HasSeenOf log)
known_all log (b ∷ bs) known = All-cons (HasSeenOf log) b bs known.0 (known_all log bs known.1)

front_all : (log : List JournalUnit) (books : List Book) (b : Book) → All (HasSeenOf log) (books ++ b ∷ []) → All (HasSeenOf log) books × HasSeenOf log b
front_all log [] b all = (All-nil (HasSeenOf log), All-head (HasSeenOf log) b [] all)
front_all log (x ∷ xs) b all =
    let rest = front_all log xs b (All-tail (HasSeenOf log) x (xs ++ b ∷ []) all) in (All-cons (HasSeenOf log) x xs (All-head (HasSeenOf log) x (xs ++ b ∷ []) all) rest.0, rest.1)

last_before : (n : ℕ) (books : List Book) (b : Book) → AreBefore n (books ++ b ∷ []) → length b.seen ≤ n
last_before n [] b before = before.0
last_before n (x ∷ xs) b before = last_before n xs b before.1

written_more : (k : ℕ) (xs ys : List Told) → IsWritten k xs → IsWritten k (xs ++ ys)
written_more k [] ys h = absurd h
written_more k (x ∷ xs) ys (inl is) = inl is
written_more k (x ∷ xs) ys (inr later) = inr (written_more k xs ys later)

pub wrote_more : (xs ys : List Told) (books : List Book) → WroteAll xs books → WroteAll (xs ++ ys) books
wrote_more xs ys [] wrote = tt
wrote_more xs ys (b ∷ bs) wrote = ((λ k claimed. written_more k xs ys (wrote.0 k claimed)), wrote_more xs ys bs wrote.1)

wrote_push : (xs : List Told) (books : List Book) (b : Book) → WroteAll xs books → Wrote xs b → WroteAll xs (books ++ b ∷ [])
wrote_push xs [] b wrote last = (last, tt)
wrote_push xs (x ∷ bs) b wrote last = (wrote.0, wrote_push xs bs b wrote.1 last)

-- ---- what a job was told

-- its sessions are over
pub record IsToldAll (job : ℕ) (books : List Book) (xs : List Told) : Type 0 where
  pub told : (log : List JournalUnit) → All (HasSeenOf log) books → length log < 2 ^ 64 → IsToldOn log xs job None
  pub upto : (n : ℕ) → AreBefore n books → upto_of 0 xs ≤ n
  pub wrote : WroteAll xs books

-- one is there
record IsToldSoFar (job : ℕ) (books : List Book) (h : Held) (xs : List Told) : Type 0 where
  pub whose : h.state.work.job ≡ job
  pub history : HasHistory (seen_of books) xs h
  pub wrote : WroteAll xs books

abbrev HoldsIn : ℕ → Past → Option Held → List Told → Type 0
HoldsIn job p None xs = IsToldAll job p.books xs
HoldsIn job p (Some h) xs = IsToldSoFar job p.books h xs

abbrev Holds : ℕ → SessionsSoFar → List Told → Type 0
Holds job now xs = HoldsIn job now.past now.session xs

none_told : (job : ℕ) → IsToldAll job [] []
none_told job = record { told = λ log all few. record { history = tt; transaction = finmap.get-empty nat_cmp job }; upto = λ n before. omega arith; wrote = tt }

-- a session begins behind the others
opened_holds : (job : ℕ) (books : List Book) (units : List JournalUnit) (xs : List Told) → AreBefore (length units) books → IsToldAll job books xs → IsToldSoFar job books (held (idle job) None [] [] units) xs
opened_holds job books units xs before h = record {
  whose = refl;
  history = record {
    told = λ log goes few. h.told log (known_all log books goes.1) few;
    upto = h.upto (length units) before;
    standing = record { outside = λ none. refl; inside = λ deep. absurd (omega (arith, deep)) };
    written = λ k claimed. absurd claimed;
  };
  wrote = h.wrote;
}

module _ (laws : Laws) where
  between_in : (job : ℕ) (p : Past) (old new : Option Held) (xs : List Told) → IsBetweenIn job p old new → HoldsIn job p old xs → HoldsIn job p new xs
  between_in job p None None xs between h = h
  between_in job p None (Some new) xs between h = subst (λ (x : Held). IsToldSoFar job p.books x xs) (sym between.2) (opened_holds job p.books between.0 xs between.1.1 h)
  between_in job p (Some old) None xs between h = absurd between
  between_in job p (Some old) (Some new) xs between h =
      subst (λ (x : Held). IsToldSoFar job p.books x xs) (sym between.2) (record { whose = h.whose; history = laws.know (seen_of p.books) xs between.0 old h.history between.1; wrote = h.wrote })

  between_holds : (job : ℕ) (old new : SessionsSoFar) (xs : List Told) → IsBetween job old new → Holds job old xs → Holds job new xs
  between_holds job old new xs between h = subst (λ (p : Past). HoldsIn job p new.session xs) (sym between.0) (between_in job old.past old.session new.session xs between.1 h)

  step_in : (job : ℕ) (x : Told) (p : Past) (old : Option Held) (more : Past) (new : Option Held) (xs : List Told) → IsStepIn x p old more new → HoldsIn job p old xs → HoldsIn job more new (xs ++ x ∷ [])
  step_in job x p None more new xs step h = absurd step
  step_in job x p (Some old) more None xs step h =
      let closed : HasClosed (seen_of p.books) (xs ++ x ∷ []) (halted step.0 old) = subst (λ (y : Told). HasClosed (seen_of p.books) (xs ++ y ∷ []) (halted step.0 old)) (sym step.2) (laws.end (seen_of p.books) xs step.0 old h.history step.1) in
      subst (λ (q : Past). IsToldAll job q.books (xs ++ x ∷ [])) (sym step.3) (record {
        told = λ log all few.
            let both = front_all log p.books (halted step.0 old) all in subst (λ (j : ℕ). IsToldOn log (xs ++ x ∷ []) j None) h.whose (closed.told log (both.1, all_known log p.books both.0) few);
        upto = λ n before. omega (arith, closed.upto, last_before n p.books (halted step.0 old) before);
        wrote = wrote_push (xs ++ x ∷ []) p.books (halted step.0 old) (wrote_more xs (x ∷ []) p.books h.wrote) closed.written;
      })
  step_in job x p (Some old) more (Some new) xs step h =
      let did = step.0 in
      let done = did.done h.history.standing in
      let exact = laws.exact did.units x.command x.reply old new done h.history.standing did.goes_on in
      subst (λ (q : Past). IsToldSoFar job q.books new (xs ++ x ∷ [])) (sym step.1) (record {
        whose = exact.job ∙ h.whose;
        history = subst (λ (y : Told). HasHistory (seen_of p.books) (xs ++ y ∷ []) new) (sym did.at) (laws.go_on (seen_of p.books) xs did.units x.command x.reply old new h.history done did.goes_on);
        wrote = wrote_more xs (x ∷ []) p.books h.wrote;
      })

  steps_hold : (job : ℕ) (xs ys : List Told) (old new : SessionsSoFar) → AreSteps job ys old new → Holds job old xs → Holds job new (xs ++ ys)
  steps_hold job xs [] old new steps h = subst (λ (zs : List Told). Holds job new zs) (sym (append-nil xs)) (between_holds job old new xs steps h)
  steps_hold job xs (y ∷ ys) old new steps h =
      let before : Holds job steps.0 xs = between_holds job old steps.0 xs steps.2 h in
      let after : Holds job steps.1 (xs ++ y ∷ []) = step_in job y steps.0.past steps.0.session steps.1.past steps.1.session xs steps.3 before in
      subst (λ (zs : List Told). Holds job new zs) (append_assoc xs (y ∷ []) ys) (steps_hold job (xs ++ y ∷ []) ys steps.1 new steps.4 after)

  pub all_told : (job since : ℕ) (books : List Book) (xs : List Told) → AreSteps job xs (none_since since) (sessions_so_far (past since books) None) → IsToldAll job books xs
  all_told job since books xs steps = steps_hold job [] xs (none_since since) (sessions_so_far (past since books) None) steps (none_told job)

-- ---- behind a load

-- the same sessions, behind others
abbrev behind : List Book → SessionsSoFar → SessionsSoFar
behind front now = sessions_so_far (past 0 (front ++ now.past.books)) now.session

before_both : (n : ℕ) (front back : List Book) → AreBefore n front → AreBefore n back → AreBefore n (front ++ back)
before_both n [] back first second = second
before_both n (b ∷ bs) back first second = (first.0, before_both n bs back first.1 second)

between_behind : (job : ℕ) (front : List Book) (p : Past) (old new : Option Held) → AreBefore p.since front → IsBetweenIn job p old new → IsBetweenIn job (past 0 (front ++ p.books)) old new
between_behind job front p None None before between = between
between_behind job front p None (Some h) before between = (between.0, (omega arith, before_both (length between.0) front p.books (before_more p.since (length between.0) front between.1.0 before) between.1.1), between.2)
between_behind job front p (Some h) None before between = between
between_behind job front p (Some h) (Some new) before between = between

step_behind : (x : Told) (front : List Book) (p : Past) (old : Option Held) (more : Past) (new : Option Held) → IsStepIn x p old more new → IsStepIn x (past 0 (front ++ p.books)) old (past 0 (front ++ more.books)) new
step_behind x front p None more new step = step
step_behind x front p (Some h) more None step =
    (step.0, step.1, step.2, ap (λ (q : Past). past 0 (front ++ q.books)) step.3 ∙ ap (λ (bs : List Book). past 0 bs) (sym (append_assoc front p.books (halted step.0 h ∷ []))))
step_behind x front p (Some h) more (Some new) step = (step.0, ap (λ (q : Past). past 0 (front ++ q.books)) step.1)

since_on : (x : Told) (front : List Book) (p : Past) (old : Option Held) (more : Past) (new : Option Held) → IsStepIn x p old more new → AreBefore p.since front → AreBefore more.since front
since_on x front p None more new step before = absurd step
since_on x front p (Some h) more None step before = subst (λ (q : Past). AreBefore q.since front) (sym step.3) before
since_on x front p (Some h) more (Some new) step before = subst (λ (q : Past). AreBefore q.since front) (sym step.1) before

-- steps of sessions that began when those in front were over
pub steps_behind_load : (job : ℕ) (front : List Book) (xs : List Told) (old new : SessionsSoFar) → AreBefore old.past.since front → AreSteps job xs old new → AreSteps job xs (behind front old) (behind front new)
steps_behind_load job front [] old new before steps = (ap (λ (q : Past). past 0 (front ++ q.books)) steps.0, between_behind job front old.past old.session new.session before steps.1)
steps_behind_load job front (x ∷ xs) old new before steps =
    let first : AreBefore steps.0.past.since front = subst (λ (q : Past). AreBefore q.since front) (sym steps.2.0) before in (
      behind front steps.0,
      behind front steps.1,
      (ap (λ (q : Past). past 0 (front ++ q.books)) steps.2.0, between_behind job front old.past old.session steps.0.session before steps.2.1),
      step_behind x front steps.0.past steps.0.session steps.1.past steps.1.session steps.3,
      steps_behind_load job front xs steps.1 new (since_on x front steps.0.past steps.0.session steps.1.past steps.1.session steps.3 first) steps.4,
    )

-- a load's steps, and a job's behind them
pub joined_steps : (job since : ℕ) (front own : List Book) (load xs : List Told) → AreBefore since front → AreSteps job load (none_since 0) (sessions_so_far (past 0 front) None) → AreSteps job xs (none_since since) (sessions_so_far (past since own) None)
    → AreSteps job (load ++ xs) (none_since 0) (sessions_so_far (past 0 (front ++ own)) None)
joined_steps job since front own load xs before first second =
    let later = steps_behind_load job front xs (none_since since) (sessions_so_far (past since own) None) before second in
    steps_then job load xs (none_since 0) (sessions_so_far (past 0 front) None) (sessions_so_far (past 0 (front ++ own)) None) first
    (subst (λ (bs : List Book). AreSteps job xs (sessions_so_far (past 0 bs) None) (sessions_so_far (past 0 (front ++ own)) None)) (append-nil front) later)
