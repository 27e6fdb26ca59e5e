-- Histories of sessions go on step by step, and those of all jobs are one run.
use Rattle.std.proofs.Common.{◌≡◌, ◌⊎◌, inl, inr, ℕ, ◌+◌, ◌==◌, Bool, true, false, List, [], ◌∷◌, ◌++◌, length, append_assoc, append-nil, refl, sym, ap, ◌∙◌, subst, arith, eq-eqb, eqb-true}
use Rattle.std.specs.Prelude.{⊤, if◌then◌else◌}
use Rattle.std.specs.List.{sum_by}
use Rattle.std.proofs.lemmas.List.Sums.{sum_by-append, sum_by-cons}
use Rattle.std.specs.Ordering.{nat_cmp}
use Rattle.std.specs.FinMap as finmap
use Rattle.command.specs.declared.request.Command.{Command}
use Rattle.command.specs.declared.request.Command.TheVariants.{Halt}
use Rattle.command.specs.declared.request.Reply.{Reply}
use Rattle.command.specs.declared.request.Reply.TheVariants.{Finished}
use Rattle.journal.specs.declared.unit.Unit.{Unit as JournalUnit}
use Rattle.journal.specs.Kept.{Claim}
use Rattle.journal.specs.Story.{Machine, nothing_done, transaction_of}
use Rattle.serial.specs.Interleaving.{Told, of_job, after_told, IsHistory, IsWritten, AreWritten, AreAllClaims, IsClaimed, upto_of, after_all_told}
use Rattle.serial.specs.laws.ByJob.{same_or_not}
use Rattle.serial.specs.laws.Claims.{each_is_claimed}
use Rattle.serial.specs.laws.Growing.{histories_grow}
use Rattle.serial.specs.laws.Merging.{one_interleaving}
use Rattle.pin_board.specs.Slips.{IsBeginning, weigh}
use Rattle.shared_engine.specs.Receipts.{Book}
use Rattle.shared_engine.specs.Sessions.{Held, halted}
use Rattle.shared_engine.specs.Engines.{AreAllUnits, units_weigh}
use Rattle.shared_engine.specs.Blocks.{HasDone}
use Rattle.shared_engine.specs.Steps.{transaction_in, step_at}
use Rattle.shared_engine.specs.Histories.{IsToldOn, HasHistory, HistoriesBegin, HistoriesBeginAgain, HistoriesKnow, HistoriesGoOn, AreStepsOf, HistoriesGoOnByBlocks, HistoriesEnd, JobTold, books_of, IsNoneOf, WroteAll, AreToldOf, HasStepsOf, SessionsAreOneRun}
use Rattle.shared_engine.specs.laws.Prefixes.{begins_itself, begins_through}
use Rattle.shared_engine.specs.laws.Seen.{done_seen}
use Rattle.shared_engine.proofs.Stepping.{open_later, steps_exact, halts_exact}

-- ---- one step more

after_push : (log : List JournalUnit) (s : Machine) (xs : List Told) (x : Told) → after_all_told log s (xs ++ x ∷ []) ≡ after_told log (after_all_told log s xs) x
after_push log s [] x = refl
after_push log s (y ∷ ys) x = after_push log (after_told log s y) ys x

upto_push : (n : ℕ) (xs : List Told) (x : Told) → upto_of n (xs ++ x ∷ []) ≡ x.upto
upto_push n [] x = refl
upto_push n (y ∷ ys) x = upto_push y.upto ys x

written_front : (k : ℕ) (xs ys : List Told) → IsWritten k xs → IsWritten k (xs ++ ys)
written_front k [] ys h = absurd h
written_front k (x ∷ xs) ys (inl is) = inl is
written_front k (x ∷ xs) ys (inr later) = inr (written_front k xs ys later)

written_back : (k : ℕ) (xs ys : List Told) → IsWritten k ys → IsWritten k (xs ++ ys)
written_back k [] ys h = h
written_back k (x ∷ xs) ys h = inr (written_back k xs ys h)

written_next : (k : ℕ) (xs : List Told) (x : Told) (old new : List Claim) → (IsClaimed (k + 1) old → IsWritten k xs) → IsClaimed (k + 1) old ⊎ ((x.at ≡ k) × (x.upto ≡ k + 1)) → IsWritten k (xs ++ x ∷ [])
written_next k xs x old new before (inl there) = written_front k xs (x ∷ []) (before there)
written_next k xs x old new before (inr here) = written_back k xs (x ∷ []) (inl here)

pub begin : HistoriesBegin
begin job units = record {
  told = λ log goes few. record { history = tt; transaction = finmap.get-empty nat_cmp job };
  upto = omega arith;
  standing = record { outside = λ _. refl; inside = λ deep. absurd (omega (arith, deep)) };
  written = λ k there. absurd there;
}

pub begin_again : HistoriesBeginAgain
begin_again known xs b units h upto = record {
  told = λ log goes few. h.told log goes.1 few;
  upto = upto;
  standing = record { outside = λ _. refl; inside = λ deep. absurd (omega (arith, deep)) };
  written = λ k there. absurd there;
}

pub know : HistoriesKnow
know known xs units s h on = record {
  told = λ log goes few. h.told log (begins_through log units s.seen goes.0 on, goes.1) few;
  upto = omega (arith, h.upto, on.within);
  standing = (let st = h.standing in record { outside = st.outside; inside = λ deep. open_later s.start s.state.work.start s.seen units on (st.inside deep) });
  written = h.written;
}

pub go_on : HistoriesGoOn
go_on known xs units command reply old new h done on =
    let job : ℕ = old.state.work.job in
    let x : Told = step_at job command reply units (length new.seen) in
    let step = steps_exact units command reply old new done h.standing on in record {
      told = λ log goes few.
          let before = h.told log (begins_through log new.seen old.seen goes.0 step.goes_on, goes.1) few in
          let at = step.exact log (upto_of 0 xs) (after_all_told log nothing_done xs) h.upto before.transaction goes.0 few in
          let grown = histories_grow log job 0 nothing_done xs in
          subst (λ (j : ℕ). IsToldOn log (xs ++ x ∷ []) j (transaction_in new)) (sym step.job)
          (record { history = grown.push x before.history refl at.0; transaction = ap (transaction_of job) (after_push log nothing_done xs x) ∙ at.1 });
      upto = omega (arith, upto_push 0 xs x);
      standing = step.standing;
      written = λ k there. written_next k xs x (old.receipts ++ old.others) (new.receipts ++ new.others) (h.written k) (step.written k there);
    }

pub end : HistoriesEnd
end known xs units s h on =
    let job : ℕ = s.state.work.job in
    let pass : Book = halted units s in
    let x : Told = step_at job Halt Finished units (length pass.seen) in
    let step = halts_exact units s on in record {
      told = λ log goes few.
          let before = h.told log (begins_through log pass.seen s.seen goes.0 step.goes_on, goes.1) few in
          let at = step.exact log (upto_of 0 xs) (after_all_told log nothing_done xs) h.upto before.transaction goes.0 few in
          let grown = histories_grow log job 0 nothing_done xs in
          record { history = grown.push x before.history refl at.0; transaction = ap (transaction_of job) (after_push log nothing_done xs x) ∙ at.1 };
      upto = omega (arith, upto_push 0 xs x);
      written = λ k there. written_next k xs x (s.receipts ++ s.others) (pass.receipts ++ pass.others) (h.written k) (step.written k there);
    }

pub go_on_by : HistoriesGoOnByBlocks
go_on_by known xs [] [] units old new h done seen = ([], record { commands_are = refl; replies_are = refl }, subst (λ (zs : List Told). HasHistory known zs new) (sym (append-nil xs)) (subst (HasHistory known xs) (sym done.1) h))
go_on_by known xs [] (reply ∷ replies) units old new h done seen = absurd done
go_on_by known xs (command ∷ commands) [] units old new h done seen = absurd done
go_on_by known xs (command ∷ commands) (reply ∷ replies) units old new h done seen =
    let between : List JournalUnit = done.0 in
    let middle : Held = done.1 in
    let now : middle.seen ≡ between = done_seen command reply units between old middle done.2 seen in
    let first : HasDone command reply units middle.seen old middle = subst (λ (us : List JournalUnit). HasDone command reply units us old middle) (sym now) done.2 in
    let on : IsBeginning units old.seen = subst (λ (us : List JournalUnit). IsBeginning us old.seen) seen (begins_itself old.seen) in
    let x : Told = step_at old.state.work.job command reply units (length middle.seen) in
    let step = steps_exact units command reply old middle (inl first) h.standing on in
    let rest = go_on_by known (xs ++ x ∷ []) commands replies between middle new (go_on known xs units command reply old middle h (inl first) on) done.3 now in
    let theirs = subst (λ (j : ℕ). AreStepsOf j commands replies rest.0) step.job rest.1 in (
      x ∷ rest.0,
      record { commands_are = ap (λ (cs : List (ℕ × Command)). (old.state.work.job, command) ∷ cs) theirs.commands_are; replies_are = ap (λ (rs : List Reply). reply ∷ rs) theirs.replies_are },
      subst (λ (zs : List Told). HasHistory known zs new) (append_assoc xs (x ∷ []) rest.0) rest.2,
    )

-- ---- the steps of all jobs

abbrev steps_of : List JobTold → List Told
steps_of [] = []
steps_of (t ∷ ts) = t.steps ++ steps_of ts

of_append : (job : ℕ) (xs ys : List Told) → of_job job (xs ++ ys) ≡ of_job job xs ++ of_job job ys
of_append job [] ys = refl
of_append job (x ∷ xs) ys = by_test (x.job == job) (of_append job xs ys)
  where
    by_test : (b : Bool) → of_job job (xs ++ ys) ≡ of_job job xs ++ of_job job ys → (if b then x ∷ of_job job (xs ++ ys) else of_job job (xs ++ ys)) ≡ (if b then x ∷ of_job job xs else of_job job xs) ++ of_job job ys
    by_test true later = ap (λ (zs : List Told). x ∷ zs) later
    by_test false later = later

-- of a history all are the job's
own_all : (log : List JournalUnit) (job n : ℕ) (s : Machine) (xs : List Told) → IsHistory log job n s xs → of_job job xs ≡ xs
own_all log job n s [] h = refl
own_all log job n s (x ∷ xs) h = ap (λ (b : Bool). if b then x ∷ of_job job xs else of_job job xs) (eq-eqb x.job job h.0) ∙ ap (λ (zs : List Told). x ∷ zs) (own_all log job x.upto (after_told log s x) xs h.2)

-- and none another's
other_none : (log : List JournalUnit) (job other n : ℕ) (s : Machine) (xs : List Told) → IsHistory log job n s xs → (job ≡ other → ⊥) → of_job other xs ≡ []
other_none log job other n s [] h apart = refl
other_none log job other n s (x ∷ xs) h apart = by_test (x.job == other) refl (other_none log job other x.upto (after_told log s x) xs h.2 apart)
  where
    by_test : (b : Bool) → (x.job == other) ≡ b → of_job other xs ≡ [] → (if b then x ∷ of_job other xs else of_job other xs) ≡ []
    by_test true e later = absurd (apart (sym h.0 ∙ eqb-true x.job other e))
    by_test false e later = later

none_of : (log : List JournalUnit) (job : ℕ) (ts : List JobTold) → IsNoneOf job ts → AreToldOf log ts → of_job job (steps_of ts) ≡ []
none_of log job [] none told = refl
none_of log job (t ∷ ts) none told =
    of_append job t.steps (steps_of ts) ∙ ((λ i. other_none log t.job job 0 nothing_done t.steps told.0.0 none.0 i ++ of_job job (steps_of ts)) ∙ none_of log job ts none.1 told.1.1)

-- each job's steps are a history
all_history : (log : List JournalUnit) (job : ℕ) (ts : List JobTold) → AreToldOf log ts → IsHistory log job 0 nothing_done (of_job job (steps_of ts))
all_history log job [] told = tt
all_history log job (t ∷ ts) told = by_job (same_or_not job t.job) (all_history log job ts told.1.1)
  where
    by_job : (t.job ≡ job) ⊎ (job ≡ t.job → ⊥) → IsHistory log job 0 nothing_done (of_job job (steps_of ts)) → IsHistory log job 0 nothing_done (of_job job (t.steps ++ steps_of ts))
    by_job (inl same) later =
        let mine : of_job t.job (t.steps ++ steps_of ts) ≡ t.steps =
        of_append t.job t.steps (steps_of ts) ∙ ((λ i. own_all log t.job 0 nothing_done t.steps told.0.0 i ++ none_of log t.job ts told.1.0 told.1.1 i) ∙ append-nil t.steps) in
        subst (λ (j : ℕ). IsHistory log j 0 nothing_done (of_job j (t.steps ++ steps_of ts))) same (subst (IsHistory log t.job 0 nothing_done) (sym mine) told.0.0)
    by_job (inr apart) later =
        let others : of_job job (t.steps ++ steps_of ts) ≡ of_job job (steps_of ts) =
        of_append job t.steps (steps_of ts) ∙ ap (λ (zs : List Told). zs ++ of_job job (steps_of ts)) (other_none log t.job job 0 nothing_done t.steps told.0.0 (λ e. apart (sym e))) in
        subst (IsHistory log job 0 nothing_done) (sym others) later

-- no step in front is one of these jobs'
abbrev AreNone : List Told → List JobTold → Type 0
AreNone front [] = ⊤
AreNone front (t ∷ ts) = (of_job t.job front ≡ []) × AreNone front ts

none_further : (log : List JournalUnit) (front : List Told) (t : JobTold) (ts : List JobTold) → AreNone front ts → IsNoneOf t.job ts → IsHistory log t.job 0 nothing_done t.steps → AreNone (front ++ t.steps) ts
none_further log front t [] none apart h = tt
none_further log front t (u ∷ ts) none apart h = (
  of_append u.job front t.steps ∙ ((λ i. none.0 i ++ other_none log t.job u.job 0 nothing_done t.steps h (λ e. apart.0 (sym e)) i)),
  none_further log front t ts none.1 apart.1 h,
)

has_steps : (log : List JournalUnit) (front : List Told) (ts : List JobTold) → AreNone front ts → AreToldOf log ts → HasStepsOf (front ++ steps_of ts) ts
has_steps log front [] none told = tt
has_steps log front (t ∷ ts) none told = (
  of_append t.job front (t.steps ++ steps_of ts)
      ∙ ((λ i. none.0 i ++ of_job t.job (t.steps ++ steps_of ts))
      ∙ (of_append t.job t.steps (steps_of ts) ∙ ((λ i. own_all log t.job 0 nothing_done t.steps told.0.0 i ++ none_of log t.job ts told.1.0 told.1.1 i) ∙ append-nil t.steps))),
  subst (λ (zs : List Told). HasStepsOf zs ts) (append_assoc front t.steps (steps_of ts)) (has_steps log (front ++ t.steps) ts (none_further log front t ts none.1 told.1.0 told.0.0) told.1.1),
)

none_before : (ts : List JobTold) → AreNone [] ts
none_before [] = tt
none_before (t ∷ ts) = (refl, none_before ts)

-- the same of a list in which each job has the same steps
steps_in : (xs ys : List Told) (ts : List JobTold) → ((job : ℕ) → of_job job ys ≡ of_job job xs) → HasStepsOf xs ts → HasStepsOf ys ts
steps_in xs ys [] same h = tt
steps_in xs ys (t ∷ ts) same h = (same t.job ∙ h.0, steps_in xs ys ts same h.1)

-- ---- each unit was written by one of them

abbrev claims_in : List Book → List Claim
claims_in [] = []
claims_in (b ∷ bs) = (b.receipts ++ b.others) ++ claims_in bs

claimed_either : (n : ℕ) (xs ys : List Claim) → IsClaimed n (xs ++ ys) → IsClaimed n xs ⊎ IsClaimed n ys
claimed_either n [] ys h = inr h
claimed_either n (x ∷ xs) ys (inl is) = inl (inl is)
claimed_either n (x ∷ xs) ys (inr there) = behind (claimed_either n xs ys there)
  where
    behind : IsClaimed n xs ⊎ IsClaimed n ys → IsClaimed n (x ∷ xs) ⊎ IsClaimed n ys
    behind (inl a) = inl (inr a)
    behind (inr b) = inr b

claims_append : (bs cs : List Book) → claims_in (bs ++ cs) ≡ claims_in bs ++ claims_in cs
claims_append [] cs = refl
claims_append (b ∷ bs) cs = ap (λ (zs : List Claim). (b.receipts ++ b.others) ++ zs) (claims_append bs cs) ∙ sym (append_assoc (b.receipts ++ b.others) (claims_in bs) (claims_in cs))

wrote_one : (k : ℕ) (xs : List Told) (bs : List Book) → WroteAll xs bs → IsClaimed (k + 1) (claims_in bs) → IsWritten k xs
wrote_one k xs [] wrote there = absurd there
wrote_one k xs (b ∷ bs) wrote there = by_book (claimed_either (k + 1) (b.receipts ++ b.others) (claims_in bs) there) (wrote_one k xs bs wrote.1)
  where
    by_book : IsClaimed (k + 1) (b.receipts ++ b.others) ⊎ IsClaimed (k + 1) (claims_in bs) → (IsClaimed (k + 1) (claims_in bs) → IsWritten k xs) → IsWritten k xs
    by_book (inl here) later = wrote.0 k here
    by_book (inr behind) later = later behind

all_wrote : (log : List JournalUnit) (k : ℕ) (ts : List JobTold) → AreToldOf log ts → IsClaimed (k + 1) (claims_in (books_of ts)) → IsWritten k (steps_of ts)
all_wrote log k [] told there = absurd there
all_wrote log k (t ∷ ts) told there = by_job (claimed_either (k + 1) (claims_in t.books) (claims_in (books_of ts)) (subst (IsClaimed (k + 1)) (claims_append t.books (books_of ts)) there)) (all_wrote log k ts told.1.1)
  where
    by_job : IsClaimed (k + 1) (claims_in t.books) ⊎ IsClaimed (k + 1) (claims_in (books_of ts)) → (IsClaimed (k + 1) (claims_in (books_of ts)) → IsWritten k (steps_of ts)) → IsWritten k (t.steps ++ steps_of ts)
    by_job (inl here) later = written_front k t.steps (steps_of ts) (wrote_one k t.steps t.books told.0.1 here)
    by_job (inr behind) later = written_back k t.steps (steps_of ts) (later behind)

weigh_books : (h : Claim → ℕ) (bs : List Book) → sum_by h (claims_in bs) ≡ units_weigh h bs
weigh_books h [] = refl
weigh_books h (b ∷ bs) =
    let all = sum_by-append h (b.receipts ++ b.others) (claims_in bs) in
    let own = sum_by-append h b.receipts b.others in
    let step = sum_by-cons (λ (p : Book). weigh h p.receipts + weigh h p.others) b bs in
    all ∙ ((λ i. own i + weigh_books h bs i) ∙ sym step)

all_claims : (log : List JournalUnit) (bs : List Book) → AreAllUnits log bs → AreAllClaims log (claims_in bs)
all_claims log bs all h = weigh_books h bs ∙ sym (all h)

pub one_run : SessionsAreOneRun
one_run log all told units =
    let xs : List Told = steps_of all in
    let written : AreWritten log 0 xs = λ k from less. all_wrote log k all told (each_is_claimed log (claims_in (books_of all)) (all_claims log (books_of all) units) k less) in
    let run = one_interleaving log xs (λ job. all_history log job all told) written in
    (run.0, steps_in xs run.0 all run.1 (has_steps log [] all (none_before all) told), run.2)
