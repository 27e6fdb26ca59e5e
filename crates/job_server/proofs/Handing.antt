-- Reports and books in order.
use Rattle.std.proofs.Common.{◌≡◌, ℕ, zero, suc, ◌+◌, ◌^◌, ◌<◌, List, [], ◌∷◌, ◌++◌, length, map, take, drop, refl, sym, ap, ◌∙◌, subst, arith, append-nil}
use Rattle.std.specs.Prelude.{Some, slice_get}
use Rattle.std.proofs.Math.Logic.{∥∥₁_map, ∥∥₁_map₂}
use Rattle.std.proofs.lemmas.Grind.{flat_map-append}
use Rattle.std.specs.List.{All}
use Rattle.journal.specs.declared.unit.Unit.{Unit as JournalUnit}
use Rattle.shared_engine.specs.Receipts.{Book}
use Rattle.shared_engine.specs.Engines.{AreAllUnits, HasSeenOf}
use Rattle.job_scripts.specs.Reports.{Answers}
use Rattle.job_scripts.specs.declared.lines.Script.{Script}
use Rattle.loading.specs.Settings.{Setting}
use Rattle.job_server.specs.Steps.{AreBefore}
use Rattle.job_server.specs.Loads.{load_books, BeginsWith, HasRunLoad, IsLoaded}
use Rattle.job_server.proofs.Histories.{Laws}
use Rattle.job_server.proofs.OneRun.{is_run}
use Rattle.job_scripts.specs.Groups.{Group, shown}
use Rattle.job_server.specs.Served.{IsReport, AreReports, HasRunAs, IsReportAt, HaveRun, AreHanded, AreAnswered, AreServed, all_of}

run_more : (since : ℕ) (ws : List Group) (reports : List Answers) (owns : List (List Book)) (w : Group) (report : Answers) (own : List Book) → HaveRun since ws reports owns → IsReport w report × HasRunAs since w report own → HaveRun since (ws ++ w ∷ []) (reports ++ report ∷ []) (owns ++ own ∷ [])
run_more since [] [] [] w report own h is = (is, tt)
run_more since [] [] (o ∷ os) w report own h is = absurd h
run_more since [] (r ∷ rs) os w report own h is = absurd h
run_more since (x ∷ ws) [] os w report own h is = absurd h
run_more since (x ∷ ws) (r ∷ rs) [] w report own h is = absurd h
run_more since (x ∷ ws) (r ∷ rs) (o ∷ os) w report own h is = (h.0, run_more since ws rs os w report own h.1 is)

plus_one : (n : ℕ) → n + 1 ≡ suc n
plus_one n = omega arith

-- one more of the list
take_more : (ws : List Group) (place : ℕ) (w : Group) → slice_get ws place ≡ Some w → take (suc place) ws ≡ take place ws ++ w ∷ []
take_more [] zero w is = absurd (cc)
take_more [] (suc place) w is = absurd (cc)
take_more (x ∷ ws) zero w is = ap (λ (v : Group). v ∷ []) (some_same is)
  where
    some_same : {v : Group} → Some x ≡ Some v → x ≡ v
    some_same e = cc
take_more (x ∷ ws) (suc place) w is = ap (λ (l : List Group). x ∷ l) (take_more ws place w is)

one_more_of : (scripts : List Group) (place since : ℕ) (w : Group) (reports more_reports : List Answers) (books more_books own : List Book) (report : Answers) → AreHanded since (take place scripts) reports books → slice_get scripts place ≡ Some w → IsReport w report → HasRunAs since w report own
    → more_reports ≡ reports ++ report ∷ [] → more_books ≡ books ++ own → AreHanded since (take (place + 1) scripts) more_reports more_books
one_more_of scripts place since w reports more_reports books more_books own report h at is run reports_are books_are = record {
  books = h.books ++ own ∷ [];
  have_run = subst (λ (ws : List Group). HaveRun since ws more_reports (h.books ++ own ∷ [])) (sym (ap (λ (k : ℕ). take k scripts) (plus_one place) ∙ take_more scripts place w at))
      (subst (λ (rs : List Answers). HaveRun since (take place scripts ++ w ∷ []) rs (h.books ++ own ∷ [])) (sym reports_are) (run_more since (take place scripts) reports h.books w report own h.have_run (is, run)));
  all_is = books_are ∙ (ap (λ (bs : List Book). bs ++ own) h.all_is ∙ sym (flat_map-append (λ (bs : List Book). bs) h.books (own ∷ []) ∙ ap (λ (bs : List Book). all_of h.books ++ bs) (append-nil own)));
}

pub one_more : (scripts : List Group) (place since : ℕ) (reports more_reports : List Answers) (books more_books own : List Book) (report : Answers) → ∥ AreHanded since (take place scripts) reports books ∥₁ → ∥ IsReportAt scripts place since report own ∥₁
    → more_reports ≡ reports ++ report ∷ [] → more_books ≡ books ++ own → ∥ AreHanded since (take (place + 1) scripts) more_reports more_books ∥₁
one_more scripts place since reports more_reports books more_books own report h at reports_are books_are =
    ∥∥₁_map₂ h at
    (λ (x : AreHanded since (take place scripts) reports books) (y : IsReportAt scripts place since report own). one_more_of scripts place since y.script reports more_reports books more_books own report x y.at y.is_report y.has_run reports_are books_are)

-- each has its report
reports_there : (since : ℕ) (ws : List Group) (reports : List Answers) (owns : List (List Book)) → HaveRun since ws reports owns → AreReports ws reports
reports_there since [] [] [] h = tt
reports_there since [] [] (own ∷ owns) h = absurd h
reports_there since [] (report ∷ reports) owns h = absurd h
reports_there since (w ∷ ws) [] owns h = absurd h
reports_there since (w ∷ ws) (report ∷ reports) [] h = absurd h
reports_there since (w ∷ ws) (report ∷ reports) (own ∷ owns) h = (h.0.0, reports_there since ws reports owns h.1)

-- all are handed over, behind what was loaded
answered_of : (ended : List JournalUnit) (since : ℕ) (settings : List Setting) (scripts : List Group) (n : ℕ) (reports : List Answers) (passes all_passes : List Book) (units : List JournalUnit) → AreHanded since (take n scripts) reports passes → n ≡ length scripts → AreBefore since (load_books ended settings)
    → all_passes ≡ load_books ended settings ++ passes → AreAllUnits units all_passes → All (HasSeenOf units) all_passes → Laws → length units < 2 ^ 64 → HasRunLoad settings (load_books ended settings) → AreAnswered settings scripts reports units
answered_of ended since settings scripts n reports passes all_passes units h all before joined every seen laws few loaded = record {
  each = reports_there since scripts reports h.books have;
  run = λ apart. is_run units ended since settings scripts reports h.books laws few apart before (subst (λ (bs : List Book). All (HasSeenOf units) bs) are seen) (subst (AreAllUnits units) are every) have loaded;
}
  where
    take-all : (ws : List Group) → take (length ws) ws ≡ ws
    take-all [] = refl
    take-all (w ∷ ws) = ap (λ (l : List Group). w ∷ l) (take-all ws)

    are : all_passes ≡ load_books ended settings ++ all_of h.books
    are = joined ∙ ap (λ (bs : List Book). load_books ended settings ++ bs) h.all_is

    have : HaveRun since scripts reports h.books
    have = subst (λ (ws : List Group). HaveRun since ws reports h.books) (ap (λ k. take k scripts) all ∙ take-all scripts) h.have_run

same_length : (scripts : List Script) → length (map shown scripts) ≡ length scripts
same_length [] = refl
same_length (s ∷ ss) = ap (λ (n : ℕ). suc n) (same_length ss)

pub answered : (ended : List JournalUnit) (since : ℕ) (settings : List Setting) (scripts : List Script) (batch : List Group) (n : ℕ) (reports : List Answers) (loaded passes all_passes : List Book) (units : List JournalUnit) → map shown scripts ≡ batch
    → ∥ AreHanded since (take n batch) reports passes ∥₁ → n ≡ length scripts → loaded ≡ load_books ended settings → AreBefore since loaded → all_passes ≡ loaded ++ passes → AreAllUnits units all_passes → All (HasSeenOf units) all_passes → Laws → length units < 2 ^ 64 → HasRunLoad settings loaded
    → ∥ AreAnswered settings (map shown scripts) reports units ∥₁
answered ended since settings scripts batch n reports loaded passes all_passes units same h all is before joined every seen laws few load =
    ∥∥₁_map h
    (λ (x : AreHanded since (take n batch) reports passes). answered_of ended since settings (map shown scripts) n reports passes all_passes units (subst (λ (ws : List Group). AreHanded since (take n ws) reports passes) (sym same) x) (all ∙ sym (same_length scripts))
    (subst (AreBefore since) is before) (joined ∙ ap (λ (bs : List Book). bs ++ passes) is) every seen laws few (subst (HasRunLoad settings) is load))

-- what was loaded, and what was served behind it
pub served_of : (listing : List ℕ) (scripts : List Group) (reports : List Answers) (units : List JournalUnit) (loaded : List Book) → IsLoaded listing loaded → ((ended : List JournalUnit) (settings : List Setting) → loaded ≡ load_books ended settings → BeginsWith settings units)
    → ((ended : List JournalUnit) (settings : List Setting) → loaded ≡ load_books ended settings → HasRunLoad settings loaded → ∥ AreAnswered settings scripts reports units ∥₁) → AreServed listing scripts reports units
served_of listing scripts reports units loaded h begins answered = record {
  settings = h.settings;
  loaded = record { asked = h.asked; begins = begins h.ended h.settings h.books_are };
  answered = answered h.ended h.settings h.books_are h.has_run;
}

-- nothing is handed over yet
pub none_handed : (since : ℕ) → ∥ AreHanded since [] [] [] ∥₁
none_handed since = ∣ record { books = []; have_run = tt; all_is = refl } ∣₁

-- the first of those left
pub front_is : (ws : List Group) (n : ℕ) (w : Group) (rest : List Group) → w ∷ rest ≡ drop n ws → slice_get ws n ≡ Some w
front_is [] zero w rest is = cc
front_is [] (suc n) w rest is = cc
front_is (x ∷ ws) zero w rest is = cc
front_is (x ∷ ws) (suc n) w rest is = front_is ws n w rest is

-- those left behind it
pub rest_is : (ws : List Group) (n k : ℕ) (w : Group) (rest : List Group) → w ∷ rest ≡ drop n ws → k ≡ n + 1 → rest ≡ drop k ws
rest_is ws n k w rest is next = left ws n w rest is ∙ ap (λ (i : ℕ). drop i ws) (sym (next ∙ plus_one n))
  where
    left : (vs : List Group) (m : ℕ) (v : Group) (after : List Group) → v ∷ after ≡ drop m vs → after ≡ drop (suc m) vs
    left [] zero v after e = cc
    left [] (suc m) v after e = cc
    left (x ∷ vs) zero v after e = cc
    left (x ∷ vs) (suc m) v after e = left vs m v after e
