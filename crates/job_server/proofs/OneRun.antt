-- What all jobs did is one run of the exact machine, by the law of serial.
use Rattle.std.proofs.Common.{◌≡◌, ◌⊎◌, inl, inr, ℕ, ◌+◌, ◌^◌, ◌<◌, ◌==◌, Bool, true, false, List, [], ◌∷◌, ◌++◌, length, refl, sym, ap, ◌∙◌, subst, append-nil, eq-eqb, eqb-true}
use Rattle.std.specs.Prelude.{Option, Some, None, IfSome, if◌then◌else◌}
use Rattle.std.specs.List.{All, sum_by}
use Rattle.std.proofs.lemmas.List.Elements.{All-nil, All-cons, All-head, All-tail, All-append}
use Rattle.std.proofs.lemmas.List.Sums.{sum_by-append, sum_by-cons}
use Rattle.journal.specs.declared.unit.Unit.{Unit as JournalUnit}
use Rattle.journal.specs.Kept.{Claim}
use Rattle.journal.specs.Story.{Machine, nothing_done}
use Rattle.serial.specs.Interleaving.{Told, of_job, after_told, IsHistory, IsWritten, AreWritten, AreAllClaims, IsClaimed}
use Rattle.serial.specs.laws.ByJob.{same_or_not}
use Rattle.serial.specs.laws.Claims.{each_is_claimed}
use Rattle.serial.specs.laws.Merging.{one_interleaving}
use Rattle.pin_board.specs.Slips.{weigh}
use Rattle.shared_engine.specs.Receipts.{Book}
use Rattle.shared_engine.specs.Engines.{AreAllUnits, HasSeenOf, units_weigh}
use Rattle.shared_engine.specs.Histories.{WroteAll}
use Rattle.job_scripts.specs.Reports.{Answers}
use Rattle.loading.specs.Settings.{Setting}
use Rattle.job_server.specs.Steps.{past, sessions_so_far, none_since, AreBefore, AreSteps, HasRunScript}
use Rattle.job_server.specs.Loads.{load_books, HasRunLoad}
use Rattle.job_scripts.specs.Groups.{Group}
use Rattle.job_server.specs.Served.{AreOfJob, IsLoadedBy, IsShownAs, IsReport, AreShownAll, IsRun, IsNoJobOf, AreApart, HasRunAs, HaveRun, all_of}
use Rattle.job_server.proofs.Histories.{Laws, all_told, joined_steps, wrote_more}

-- ---- the steps of a job among others

of_append : (job : ℕ) (xs ys : List Told) → of_job job (xs ++ ys) ≡ of_job job xs ++ of_job job ys
of_append job [] ys = refl
of_append job (x ∷ xs) ys = by_test (x.job == job) (of_append job xs ys)
  where
    by_test : (b : Bool) → of_job job (xs ++ ys) ≡ of_job job xs ++ of_job job ys → (if b then x ∷ of_job job (xs ++ ys) else of_job job (xs ++ ys)) ≡ (if b then x ∷ of_job job xs else of_job job xs) ++ of_job job ys
    by_test true later = ap (λ (zs : List Told). x ∷ zs) later
    by_test false later = later

of_history : (log : List JournalUnit) (job n : ℕ) (s : Machine) (xs : List Told) → IsHistory log job n s xs → AreOfJob job xs
of_history log job n s [] h = All-nil (λ (x : Told). x.job ≡ job)
of_history log job n s (x ∷ xs) h = All-cons (λ (y : Told). y.job ≡ job) x xs h.0 (of_history log job x.upto (after_told log s x) xs h.2)

own_all : (job : ℕ) (xs : List Told) → AreOfJob job xs → of_job job xs ≡ xs
own_all job [] all = refl
own_all job (x ∷ xs) all =
    ap (λ (b : Bool). if b then x ∷ of_job job xs else of_job job xs) (eq-eqb x.job job (All-head (λ (y : Told). y.job ≡ job) x xs all))
    ∙ ap (λ (zs : List Told). x ∷ zs) (own_all job xs (All-tail (λ (y : Told). y.job ≡ job) x xs all))

other_none : (job other : ℕ) (xs : List Told) → AreOfJob job xs → (job ≡ other → ⊥) → of_job other xs ≡ []
other_none job other [] all apart = refl
other_none job other (x ∷ xs) all apart = by_test (x.job == other) refl (other_none job other xs (All-tail (λ (y : Told). y.job ≡ job) x xs all) apart)
  where
    by_test : (b : Bool) → (x.job == other) ≡ b → of_job other xs ≡ [] → (if b then x ∷ of_job other xs else of_job other xs) ≡ []
    by_test true e later = absurd (apart (sym (All-head (λ (y : Told). y.job ≡ job) x xs all) ∙ eqb-true x.job other e))
    by_test false e later = later

-- ---- each unit was written by one of them

written_behind : (k : ℕ) (xs ys : List Told) → IsWritten k ys → IsWritten k (xs ++ ys)
written_behind k [] ys h = h
written_behind k (x ∷ xs) ys h = inr (written_behind k xs ys h)

wrote_behind : (xs ys : List Told) (books : List Book) → WroteAll ys books → WroteAll (xs ++ ys) books
wrote_behind xs ys [] wrote = tt
wrote_behind xs ys (b ∷ bs) wrote = ((λ k claimed. written_behind k xs ys (wrote.0 k claimed)), wrote_behind xs ys bs wrote.1)

wrote_both : (xs : List Told) (front back : List Book) → WroteAll xs front → WroteAll xs back → WroteAll xs (front ++ back)
wrote_both xs [] back first second = second
wrote_both xs (b ∷ bs) back first second = (first.0, wrote_both xs bs back first.1 second)

wrote_all : (xs ys : List Told) (front back : List Book) → WroteAll xs front → WroteAll ys back → WroteAll (xs ++ ys) (front ++ back)
wrote_all xs ys front back first second = wrote_both (xs ++ ys) front back (wrote_more xs ys front first) (wrote_behind xs ys back second)

abbrev claims_in : List Book → List Claim
claims_in [] = []
claims_in (b ∷ bs) = (b.receipts ++ b.others) ++ claims_in bs

claimed_either : (n : ℕ) (xs ys : List Claim) → IsClaimed n (xs ++ ys) → IsClaimed n xs ⊎ IsClaimed n ys
claimed_either n [] ys h = inr h
claimed_either n (x ∷ xs) ys (inl is) = inl (inl is)
claimed_either n (x ∷ xs) ys (inr there) = behind (claimed_either n xs ys there)
  where
    behind : IsClaimed n xs ⊎ IsClaimed n ys → IsClaimed n (x ∷ xs) ⊎ IsClaimed n ys
    behind (inl a) = inl (inr a)
    behind (inr b) = inr b

wrote_one : (k : ℕ) (xs : List Told) (bs : List Book) → WroteAll xs bs → IsClaimed (k + 1) (claims_in bs) → IsWritten k xs
wrote_one k xs [] wrote there = absurd there
wrote_one k xs (b ∷ bs) wrote there = by_book (claimed_either (k + 1) (b.receipts ++ b.others) (claims_in bs) there) (wrote_one k xs bs wrote.1)
  where
    by_book : IsClaimed (k + 1) (b.receipts ++ b.others) ⊎ IsClaimed (k + 1) (claims_in bs) → (IsClaimed (k + 1) (claims_in bs) → IsWritten k xs) → IsWritten k xs
    by_book (inl here) later = wrote.0 k here
    by_book (inr behind) later = later behind

weigh_books : (h : Claim → ℕ) (bs : List Book) → sum_by h (claims_in bs) ≡ units_weigh h bs
weigh_books h [] = refl
weigh_books h (b ∷ bs) =
    let all = sum_by-append h (b.receipts ++ b.others) (claims_in bs) in
    let own = sum_by-append h b.receipts b.others in
    let step = sum_by-cons (λ (p : Book). weigh h p.receipts + weigh h p.others) b bs in
    all ∙ ((λ i. own i + weigh_books h bs i) ∙ sym step)

all_claims : (log : List JournalUnit) (bs : List Book) → AreAllUnits log bs → AreAllClaims log (claims_in bs)
all_claims log bs all h = weigh_books h bs ∙ sym (all h)

-- ---- the scripts

all_front : (log : List JournalUnit) (front back : List Book) → All (HasSeenOf log) (front ++ back) → All (HasSeenOf log) front × All (HasSeenOf log) back
all_front log [] back all = (All-nil (HasSeenOf log), all)
all_front log (b ∷ bs) back all =
    let rest = all_front log bs back (All-tail (HasSeenOf log) b (bs ++ back) all) in (All-cons (HasSeenOf log) b bs (All-head (HasSeenOf log) b (bs ++ back) all) rest.0, rest.1)

-- a job's steps are a history, from nothing on
told_history : (log : List JournalUnit) (job since : ℕ) (books : List Book) (xs : List Told) → Laws → length log < 2 ^ 64 → All (HasSeenOf log) books → AreSteps job xs (none_since since) (sessions_so_far (past since books) None) → IsHistory log job 0 nothing_done xs
told_history log job since books xs laws few seen steps = ((all_told laws job since books xs steps).told log seen few).history

-- what the scripts' jobs did, behind a load's sessions
record AreGathered (log : List JournalUnit) (since : ℕ) (ws : List Group) (reports : List Answers) (owns : List (List Book)) : Type 0 where
  pub own : List Told
  pub shown : AreShownAll ws reports own
  pub wrote : WroteAll own (all_of owns)
  pub others : (job : ℕ) → IsNoJobOf job ws → of_job job own ≡ []
  pub history : (job : ℕ) (front : List Book) (load : List Told) → All (HasSeenOf log) front → AreBefore since front → AreSteps job load (none_since 0) (sessions_so_far (past 0 front) None) → IsHistory log job 0 nothing_done (load ++ of_job job own)

-- one more script
with_script : (log : List JournalUnit) (since : ℕ) (w : Group) (ws : List Group) (report : Answers) (reports : List Answers) (books : List Book) (owns : List (List Book)) (job : Option ℕ) → Laws → length log < 2 ^ 64 → w.job ≡ job → IfSome job (λ j. IsNoJobOf j ws) → All (HasSeenOf log) books
    → IsReport w report → HasRunAs since w report books → AreGathered log since ws reports owns → AreGathered log since (w ∷ ws) (report ∷ reports) (books ∷ owns)
with_script log since w ws report reports books owns None laws few is apart seen told run rest = record {
  own = rest.own;
  shown = ([], rest.own, refl, told, subst (λ (o : Option ℕ). IsShownAs o w.lines report.replies []) (sym is) (refl, alone.1), rest.shown);
  wrote = subst (λ (bs : List Book). WroteAll rest.own (bs ++ all_of owns)) (sym alone.0) rest.wrote;
  others = λ other none. rest.others other none.1;
  history = rest.history;
}
  where
    alone : HasRunScript since None w.lines report.replies books
    alone = subst (λ (o : Option ℕ). HasRunScript since o w.lines report.replies books) is run
with_script log since w ws report reports books owns (Some job) laws few is apart seen told run rest = record {
  own = xs ++ rest.own;
  shown = (xs, rest.own, refl, told, subst (λ (o : Option ℕ). IsShownAs o w.lines report.replies xs) (sym is) (of_one, did.1), rest.shown);
  wrote = wrote_all xs rest.own books (all_of owns) (all_told laws job since books xs did.2).wrote rest.wrote;
  others = λ other none. of_append other xs rest.own ∙ (λ i. other_none job other xs of_one (λ same. none.0 (is ∙ ap (λ (j : ℕ). Some j) same)) i ++ rest.others other none.1 i);
  history = λ other front load known before steps. by_job other front load known before steps (same_or_not other job);
}
  where
    did : HasRunScript since (Some job) w.lines report.replies books
    did = subst (λ (o : Option ℕ). HasRunScript since o w.lines report.replies books) is run

    xs : List Told
    xs = did.0

    of_one : AreOfJob job xs
    of_one = of_history log job 0 nothing_done xs (told_history log job since books xs laws few seen did.2)

    -- the job's own are all these
    own_here : of_job job (xs ++ rest.own) ≡ xs
    own_here = of_append job xs rest.own ∙ ((λ i. own_all job xs of_one i ++ rest.others job apart i) ∙ append-nil xs)

    by_job : (other : ℕ) (front : List Book) (load : List Told) → All (HasSeenOf log) front → AreBefore since front → AreSteps other load (none_since 0) (sessions_so_far (past 0 front) None) → (job ≡ other) ⊎ (other ≡ job → ⊥) → IsHistory log other 0 nothing_done (load ++ of_job other (xs ++ rest.own))
    by_job other front load known before steps (inl same) =
        subst (λ (j : ℕ). IsHistory log j 0 nothing_done (load ++ of_job j (xs ++ rest.own))) same
        (subst (λ (zs : List Told). IsHistory log job 0 nothing_done (load ++ zs)) (sym own_here)
        (told_history log job 0 (front ++ books) (load ++ xs) laws few (All-append (HasSeenOf log) front books known seen)
        (joined_steps job since front books load xs before (subst (λ (j : ℕ). AreSteps j load (none_since 0) (sessions_so_far (past 0 front) None)) (sym same) steps) did.2)))
    by_job other front load known before steps (inr differs) =
        subst (λ (zs : List Told). IsHistory log other 0 nothing_done (load ++ zs)) (sym (of_append other xs rest.own ∙ ap (λ (zs : List Told). zs ++ of_job other rest.own) (other_none job other xs of_one (λ e. differs (sym e)))))
        (rest.history other front load known before steps)

gathered : (log : List JournalUnit) (since : ℕ) (ws : List Group) (reports : List Answers) (owns : List (List Book)) → Laws → length log < 2 ^ 64 → AreApart ws → All (HasSeenOf log) (all_of owns) → HaveRun since ws reports owns → AreGathered log since ws reports owns
gathered log since [] [] [] laws few apart seen run = record {
  own = [];
  shown = refl;
  wrote = tt;
  others = λ job none. refl;
  history = λ job front load known before steps. subst (IsHistory log job 0 nothing_done) (sym (append-nil load)) (told_history log job 0 front load laws few known steps);
}
gathered log since [] [] (own ∷ owns) laws few apart seen run = absurd run
gathered log since [] (report ∷ reports) owns laws few apart seen run = absurd run
gathered log since (w ∷ ws) [] owns laws few apart seen run = absurd run
gathered log since (w ∷ ws) (report ∷ reports) [] laws few apart seen run = absurd run
gathered log since (w ∷ ws) (report ∷ reports) (own ∷ owns) laws few apart seen run =
    let both = all_front log own (all_of owns) seen in with_script log since w ws report reports own owns w.job laws few refl apart.0 both.0 run.0.0 run.0.1 (gathered log since ws reports owns laws few apart.1 both.1 run.1)

-- ---- behind a load

run_behind : (log : List JournalUnit) (since : ℕ) (settings : List Setting) (front : List Book) (load : List Told) (ws : List Group) (reports : List Answers) (owns : List (List Book)) → Laws → length log < 2 ^ 64 → AreBefore since front → All (HasSeenOf log) front → AreAllUnits log (front ++ all_of owns)
    → AreSteps 1 load (none_since 0) (sessions_so_far (past 0 front) None) → IsLoadedBy settings load → AreGathered log since ws reports owns → IsRun settings ws reports log
run_behind log since settings front load ws reports owns laws few before seen units steps loaded g =
    let one = one_interleaving log (load ++ g.own) (λ job. history job (same_or_not job 1)) written in
    record { load = load; own = g.own; steps = one.0; loaded = loaded; shown = g.shown; in_order = one.1; is_run = one.2 }
  where
    of_first : AreOfJob 1 load
    of_first = of_history log 1 0 nothing_done load (told_history log 1 0 front load laws few seen steps)

    written : AreWritten log 0 (load ++ g.own)
    written = λ k from less.
        wrote_one k (load ++ g.own) (front ++ all_of owns) (wrote_all load g.own front (all_of owns) (all_told laws 1 0 front load steps).wrote g.wrote)
        (each_is_claimed log (claims_in (front ++ all_of owns)) (all_claims log (front ++ all_of owns) units) k less)

    history : (job : ℕ) → (1 ≡ job) ⊎ (job ≡ 1 → ⊥) → IsHistory log job 0 nothing_done (of_job job (load ++ g.own))
    history job (inl same) =
        subst (λ (j : ℕ). IsHistory log j 0 nothing_done (of_job j (load ++ g.own))) same
        (subst (IsHistory log 1 0 nothing_done) (sym (of_append 1 load g.own ∙ ap (λ (zs : List Told). zs ++ of_job 1 g.own) (own_all 1 load of_first))) (g.history 1 front load seen before steps))
    history job (inr differs) =
        subst (IsHistory log job 0 nothing_done) (sym (of_append job load g.own ∙ ap (λ (zs : List Told). zs ++ of_job job g.own) (other_none 1 job load of_first (λ e. differs (sym e)))))
        (g.history job [] [] (All-nil (HasSeenOf log)) tt (refl, tt))

pub is_run : (log ended : List JournalUnit) (since : ℕ) (settings : List Setting) (ws : List Group) (reports : List Answers) (owns : List (List Book)) → Laws → length log < 2 ^ 64 → AreApart ws → AreBefore since (load_books ended settings) → All (HasSeenOf log) (load_books ended settings ++ all_of owns)
    → AreAllUnits log (load_books ended settings ++ all_of owns) → HaveRun since ws reports owns → HasRunLoad settings (load_books ended settings) → IsRun settings ws reports log
is_run log ended since [] ws reports owns laws few apart before seen units run loaded =
    run_behind log since [] [] [] ws reports owns laws few tt (All-nil (HasSeenOf log)) units (refl, tt) refl (gathered log since ws reports owns laws few apart seen run)
is_run log ended since (s ∷ ss) ws reports owns laws few apart before seen units run loaded =
    let front : List Book = load_books ended (s ∷ ss) in
    let both = all_front log front (all_of owns) seen in
    run_behind log since (s ∷ ss) front loaded.0 ws reports owns laws few before both.0 units loaded.2 (of_history log 1 0 nothing_done loaded.0 (told_history log 1 0 front loaded.0 laws few both.0 loaded.2), loaded.1)
    (gathered log since ws reports owns laws few apart both.1 run)
