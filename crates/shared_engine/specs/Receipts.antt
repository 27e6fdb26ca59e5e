-- What a job's receipts say of the units that it wrote.
use Rattle.std.specs.Prelude.{◌≡◌, ℕ, ◌<◌, Bool, true, false, not, List, [], ◌∷◌, ◌++◌, length, map, if◌then◌else◌}
use Rattle.std.specs.List.{All, filter}
use Rattle.journal.specs.declared.unit.Unit.{Unit as JournalUnit}
use Rattle.journal.specs.declared.unit.Unit.TheVariants.{Lone, Whole, Lock, Back, End}
use Rattle.journal.specs.Kept.{Claim, job_of}

-- the unit is in the journal at this number
abbrev pub claim : ℕ → JournalUnit → Claim
claim number unit = record { job = job_of unit; number = number; unit = unit }

-- whether a unit of this kind gives its session a receipt
abbrev pub has_receipt : JournalUnit → Bool
has_receipt (Lone job command answer) = true
has_receipt (Whole job exchanges) = true
has_receipt (Lock job inside command had) = true
has_receipt (Back job) = false
has_receipt (End job) = false

-- the numbers rise, and all are above n
abbrev pub RisesFrom : ℕ → List Claim → Type 0
RisesFrom n [] = Unit {0}
RisesFrom n (x ∷ xs) = (n < x.number) × RisesFrom x.number xs

-- whether a unit that was written gives a receipt
abbrev pub gives : Claim → Bool
gives c = has_receipt c.unit

-- a weight of units with their numbers, of those that give a receipt alone
abbrev pub of_receipts : (Claim → ℕ) → Claim → ℕ
of_receipts weight c = if gives c then weight c else 0

-- the unit's number in the journal
abbrev pub number_of : Claim → ℕ
number_of c = c.number

-- the receipts of what a session wrote
unfoldable pub receipts_in : List Claim → List Claim
receipts_in mine = filter gives mine

-- whether a unit that was written gives none
abbrev pub gives_none : Claim → Bool
gives_none c = not (gives c)

-- the others of what a session wrote: rollbacks and restarts of transactions that took a LOCK, and its end
unfoldable pub others_in : List Claim → List Claim
others_in mine = filter gives_none mine

-- the beginning of the journal on a session's slip
abbrev pub seen_in : List (List JournalUnit) → List JournalUnit
seen_in [] = []
seen_in (seen ∷ more) = seen

-- a job, its receipts in order, the other units that its session wrote, and the beginning of the journal that it had
-- seen at its end
pub record Book : Type 0 where
  pub job : ℕ
  pub receipts : List Claim
  pub others : List Claim
  pub seen : List JournalUnit

abbrev pub book : ℕ → List Claim → List Claim → List JournalUnit → Book
book job receipts others seen = record { job = job; receipts = receipts; others = others; seen = seen }

-- its units are its job's
abbrev pub IsOwn : Book → Type 0
IsOwn b = All (λ (c : Claim). job_of c.unit ≡ b.job) (b.receipts ++ b.others)

-- the numbers are those of the receipts, which rise, and all units are the job's
pub record IsBook (job : ℕ) (numbers : List ℕ) (mine : List Claim) : Type 0 where
  pub numbers_are : map number_of (receipts_in mine) ≡ numbers
  pub own : All (λ (c : Claim). job_of c.unit ≡ job) mine
  pub rising : RisesFrom 0 (receipts_in mine)

-- what a session leaves: its book, and the number of its end, the last unit that it has seen
pub record IsPass (job : ℕ) (numbers : List ℕ) (mine : List Claim) (end : ℕ) (seen : List JournalUnit) : Type 0 where
  pub book : IsBook job numbers mine
  pub ended : end ≡ length seen
