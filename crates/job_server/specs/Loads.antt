-- The listing that is loaded before the first job, and why jobs weren't served.
-- Read claims_from, load_books, BeginsWith, then IsUnservedBy.
use Rattle.std.specs.Prelude.{◌≡◌, ⊤, ℕ, ◌+◌, List, [], ◌∷◌, ◌++◌, map, length, take, None, Some, Result, Ok}
use Rattle.command.specs.declared.request.Command.{Command}
use Rattle.command.specs.declared.request.Command.TheVariants.{Access, Halt}
use Rattle.command.specs.declared.request.Reply.{Reply}
use Rattle.command.specs.declared.request.Reply.TheVariants.{Answered, Finished}
use Rattle.command.specs.declared.access.DataCommand.TheVariants.{Set}
use Rattle.command.specs.declared.access.Answer.TheVariants.{Done}
use Rattle.journal.specs.declared.unit.Unit.{Unit as JournalUnit}
use Rattle.journal.specs.declared.unit.Unit.TheVariants.{Lone, End}
use Rattle.journal.specs.Kept.{Claim}
use Rattle.serial.specs.Interleaving.{Told}
use Rattle.job_core.specs.Sessions.{idle}
use Rattle.loading.specs.Settings.{Setting, TextFault, before, settings_of}
use Rattle.loading.specs.Loaded.{units_of, IsFaultOf}
use Rattle.loading.specs.declared.fault.LoadFault.{LoadFault}
use Rattle.loading.specs.declared.fault.LoadFault.TheVariants as load_faults
use Rattle.shared_engine.specs.Receipts.{Book, book, claim}
use Rattle.shared_engine.specs.Sessions.{Held, held}
use Rattle.job_server.specs.Steps.{past, sessions_so_far, none_since, HasDoneSteps}
use Rattle.job_server.specs.declared.fault.Unserved.{Unserved}
use Rattle.job_server.specs.declared.fault.Unserved.TheVariants.{Load, Jobs}

-- a setting as a unit: a SET of job 1 that is done
abbrev pub unit_of : Setting → JournalUnit
unit_of s = Lone 1 (Set s.0 s.1) Done

-- the receipts of settings, of which the first is unit n
abbrev pub claims_from : ℕ → List Setting → List Claim
claims_from n [] = []
claims_from n (s ∷ ss) = claim n (unit_of s) ∷ claims_from (n + 1) ss

-- job 1's book, with the settings as the units from the first on, and its end as the last of these units, which it has seen
abbrev pub load_book : List JournalUnit → List Setting → Book
load_book ended settings = book 1 (claims_from 1 settings) (claim (length ended) (End 1) ∷ []) ended

-- the book of a load, if anything is set
abbrev pub load_books : List JournalUnit → List Setting → List Book
load_books ended [] = []
load_books ended (s ∷ ss) = load_book ended (s ∷ ss) ∷ []

-- the journal's first units are these settings
abbrev pub BeginsWith : List Setting → List JournalUnit → Type 0
BeginsWith settings units = take (length settings) units ≡ units_of settings

-- the steps are a SET for each setting, which was done, and then a HALT
abbrev pub AreLoadSteps : List Setting → List Told → Type 0
AreLoadSteps ss xs = map {B = Command × Reply} (λ x. (x.command, x.reply)) xs ≡ map (λ s. (Access (Set s.0 s.1), Answered Done)) ss ++ (Halt, Finished) ∷ []

-- what the load's session did, where anything is set
abbrev pub HasRunLoad : List Setting → List Book → Type 0
HasRunLoad [] books = ⊤
HasRunLoad (s ∷ ss) books = HasDoneSteps (AreLoadSteps (s ∷ ss)) 1 (none_since 0) (sessions_so_far (past 0 books) None)

-- the listing asks for settings, and their book is there
pub record IsLoaded (listing : List ℕ) (books : List Book) : Type 0 where
  pub settings : List Setting
  pub ended : List JournalUnit
  pub asked : settings_of listing ≡ Ok settings
  pub books_are : books ≡ load_books ended settings
  pub has_run : HasRunLoad settings books

-- why jobs weren't served: the listing's fault, or another
abbrev pub IsUnservedOf : Result (List Setting) TextFault → Unserved → Type 0
IsUnservedOf asked (Load fault) = IsFaultOf asked fault
IsUnservedOf asked (Jobs fault) = ⊤

abbrev pub IsUnservedBy : List ℕ → Unserved → Type 0
IsUnservedBy listing fault = IsUnservedOf (settings_of listing) fault

-- ---- what the private functions do

-- a fault of no line
abbrev pub IsOfNoLine : LoadFault → Type 0
IsOfNoLine (load_faults.Line fault) = ⊥
IsOfNoLine load_faults.Memory = ⊤

abbrev pub IsOfAnyLoad : Unserved → Type 0
IsOfAnyLoad (Load fault) = IsOfNoLine fault
IsOfAnyLoad (Jobs fault) = ⊤

-- the steps are a SET for each setting, which was done
abbrev pub AreSets : List Setting → List Told → Type 0
AreSets [] [] = ⊤
AreSets (s ∷ ss) (x ∷ xs) = ((x.command ≡ Access (Set s.0 s.1)) × (x.reply ≡ Answered Done)) × AreSets ss xs
AreSets ss xs = ⊥

-- each setting has its receipt, in order, at some number
abbrev pub AreReceiptsOf : List Setting → List Claim → Type 0
AreReceiptsOf [] [] = ⊤
AreReceiptsOf [] (c ∷ cs) = ⊥
AreReceiptsOf (s ∷ ss) [] = ⊥
AreReceiptsOf (s ∷ ss) (c ∷ cs) = (c ≡ claim c.number (unit_of s)) × AreReceiptsOf ss cs

-- the session of job 1 has done these settings, and nothing else
pub record HasSet (settings : List Setting) (h : Held) : Type 0 where
  pub receipts : List Claim
  pub seen : List JournalUnit
  pub are_of : AreReceiptsOf settings receipts
  pub is : h ≡ held (idle 1) None receipts [] seen
  pub steps : HasDoneSteps (AreSets settings) 1 (none_since 0) (sessions_so_far (past 0 []) (Some h))

-- it has done the first setting and those behind it that came before what is left
pub record HasSetTo (first : Setting) (asked left : Result (List Setting) TextFault) (h : Held) : Type 0 where
  pub more : List Setting
  pub goes_on : asked ≡ before more left
  pub set : HasSet (first ∷ more) h

-- it has done the first setting and all behind it
pub record HasSetAll (first : Setting) (asked : Result (List Setting) TextFault) (h : Held) : Type 0 where
  pub more : List Setting
  pub is : asked ≡ Ok more
  pub set : HasSet (first ∷ more) h

-- the book of the first setting and those behind it
pub record IsBookOf (first : Setting) (asked : Result (List Setting) TextFault) (b : Book) : Type 0 where
  pub more : List Setting
  pub ended : List JournalUnit
  pub is : asked ≡ Ok more
  pub book_is : b ≡ load_book ended (first ∷ more)
  pub has_run : HasRunLoad (first ∷ more) (b ∷ [])
