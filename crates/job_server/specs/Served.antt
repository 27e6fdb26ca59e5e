-- What is known of jobs that were served.
-- Read IsShownAs, AreShownAll and IsRun, then IsReport and AreServed; the contract of serve cites these.
use Rattle.std.specs.Prelude.{◌≡◌, ◌≢◌, ⊤, ℕ, List, [], ◌∷◌, ◌++◌, length, slice_get, Option, None, Some, IfSome, Ok}
use Rattle.std.specs.List.{All, flat_map}
use Rattle.command.specs.declared.request.Reply.{Reply}
use Rattle.journal.specs.declared.unit.Unit.{Unit as JournalUnit}
use Rattle.journal.specs.Story.{nothing_done}
use Rattle.serial.specs.Interleaving.{Told, of_job, IsOneRun}
use Rattle.shared_engine.specs.Receipts.{Book}
use Rattle.loading.specs.Settings.{Setting, settings_of}
use Rattle.job_scripts.specs.Groups.{Group}
use Rattle.job_scripts.specs.Reports.{Answers}
use Rattle.job_server.specs.Loads.{BeginsWith, AreLoadSteps}
use Rattle.job_server.specs.Steps.{AreShown, AreShownToEnd, HasRunScript}

-- ---- one run of the exact machine

-- all are the job's
abbrev pub AreOfJob : ℕ → List Told → Type 0
AreOfJob job xs = All (λ (x : Told). x.job ≡ job) xs

-- the steps are those of a load, by job 1, where anything is set
abbrev pub IsLoadedBy : List Setting → List Told → Type 0
IsLoadedBy [] xs = xs ≡ []
IsLoadedBy (s ∷ ss) xs = AreOfJob 1 xs × AreLoadSteps (s ∷ ss) xs

-- the steps are just those that these replies to a job's lines show; without a job there is none: each line is refused, as one of job 0, whose no
-- line is
abbrev pub IsShownAs : Option ℕ → List (List ℕ) → List Reply → List Told → Type 0
IsShownAs None lines replies xs = (xs ≡ []) × AreShown 0 [] lines replies []
IsShownAs (Some job) lines replies xs = AreOfJob job xs × AreShownToEnd job lines replies xs

-- the report is of the script's job, with as many replies as there are lines
pub record IsReport (w : Group) (report : Answers) : Type 0 where
  pub whose : report.job ≡ w.job
  pub each : length report.replies ≡ length w.lines

-- each script has its report in its place, and the steps are just those that the reports show, one report's behind the other's
abbrev pub AreShownAll : List Group → List Answers → List Told → Type 0
AreShownAll [] [] xs = xs ≡ []
AreShownAll (w ∷ ws) (report ∷ reports) xs =
    (own rest : List Told) × (xs ≡ own ++ rest) × IsReport w report × IsShownAs w.job w.lines report.replies own × AreShownAll ws reports rest
AreShownAll ws reports xs = ⊥

-- there is one run of the exact machine, of which the journal is the story; in it each job's steps are just those of the load, then those
-- that its report shows, in order
pub record IsRun (settings : List Setting) (scripts : List Group) (reports : List Answers) (units : List JournalUnit) : Type 0 where
  pub load : List Told
  pub own : List Told
  pub steps : List Told
  pub loaded : IsLoadedBy settings load
  pub shown : AreShownAll scripts reports own
  pub in_order : (job : ℕ) → of_job job steps ≡ of_job job (load ++ own)
  pub is_run : IsOneRun units nothing_done steps

-- ---- scripts

-- each script has its report in its place
abbrev pub AreReports : List Group → List Answers → Type 0
AreReports [] [] = ⊤
AreReports [] (report ∷ reports) = ⊥
AreReports (w ∷ ws) [] = ⊥
AreReports (w ∷ ws) (report ∷ reports) = IsReport w report × AreReports ws reports

-- none of the scripts is of this job
abbrev pub IsNoJobOf : ℕ → List Group → Type 0
IsNoJobOf job [] = ⊤
IsNoJobOf job (w ∷ ws) = (w.job ≢ Some job) × IsNoJobOf job ws

-- no two are of one job
abbrev pub AreApart : List Group → Type 0
AreApart [] = ⊤
AreApart (w ∷ ws) = IfSome w.job (λ job. IsNoJobOf job ws) × AreApart ws

-- each script has its report, and where no two are of one job there is such a run
pub record AreAnswered (settings : List Setting) (scripts : List Group) (reports : List Answers) (units : List JournalUnit) : Type 0 where
  pub each : AreReports scripts reports
  pub run : AreApart scripts → IsRun settings scripts reports units

-- the listing asks for these settings, which were done first
pub record IsLoadedFirst (listing : List ℕ) (settings : List Setting) (units : List JournalUnit) : Type 0 where
  pub asked : settings_of listing ≡ Ok settings
  pub begins : BeginsWith settings units

-- the settings of a listing were done, and are the journal's first units; and the scripts were served
pub record AreServed (listing : List ℕ) (scripts : List Group) (reports : List Answers) (units : List JournalUnit) : Type 0 where
  pub settings : List Setting
  pub loaded : IsLoadedFirst listing settings units
  pub answered : ∥ AreAnswered settings scripts reports units ∥₁

-- ---- what the private functions do

-- the report shows all steps of the sessions that left these books, which began when there were so many units or more
abbrev pub HasRunAs : ℕ → Group → Answers → List Book → Type 0
HasRunAs since w report books = HasRunScript since w.job w.lines report.replies books

-- the report is of the script at this place
pub record IsReportAt (scripts : List Group) (place since : ℕ) (report : Answers) (books : List Book) : Type 0 where
  pub script : Group
  pub at : slice_get scripts place ≡ Some script
  pub is_report : IsReport script report
  pub has_run : HasRunAs since script report books

-- each script has its report in its place, which shows the steps of its sessions
abbrev pub HaveRun : ℕ → List Group → List Answers → List (List Book) → Type 0
HaveRun since [] [] [] = ⊤
HaveRun since [] [] (own ∷ owns) = ⊥
HaveRun since [] (report ∷ reports) owns = ⊥
HaveRun since (w ∷ ws) [] owns = ⊥
HaveRun since (w ∷ ws) (report ∷ reports) [] = ⊥
HaveRun since (w ∷ ws) (report ∷ reports) (own ∷ owns) = (IsReport w report × HasRunAs since w report own) × HaveRun since ws reports owns

-- the books of all, one behind the other
abbrev pub all_of : List (List Book) → List Book
all_of owns = flat_map (λ (own : List Book). own) owns

-- the reports of scripts, and the books of all
pub record AreHanded (since : ℕ) (scripts : List Group) (reports : List Answers) (all : List Book) : Type 0 where
  pub books : List (List Book)
  pub have_run : HaveRun since scripts reports books
  pub all_is : all ≡ all_of books
