-- What a run of many jobs writes. Source: docs/FORMATS.md, "Replies".
-- Read IsJobsOutput, Wrote, IsBegun and AreReplied; the contracts of run_text and run_jobs cite these.
use Rattle.std.specs.Prelude.{◌≡◌, ◌⊎◌, ℕ, Bool, true, false, List, [], ◌++◌, Option, codes}
use Rattle.std.specs.List.{list_any}
use Rattle.std.specs.Io.KnownBytes.{Appends}
use Rattle.listing.specs.Bytes.{WritesBeginning}
use Rattle.collation.specs.Database.{Database}
use Rattle.journal.specs.declared.unit.Unit.{Unit as JournalUnit}
use Rattle.journal.specs.History.{initial, after}
use Rattle.listing.specs.Listing.{listing_text}
use Rattle.job_scripts.specs.Reports.{Answers, reports_text, some_refused}
use Rattle.job_server.specs.Texts.{IsServed}

-- what follows the replies: "--" and the listing, or nothing where no listing is asked for
abbrev pub ending : Bool → Database → List ℕ
ending true m = codes "--\n" ++ listing_text m
ending false m = []

-- the output for a text that was served: its reports, and the listing of what the journal leaves
pub record IsJobsOutput (listing : List ℕ) (listed : Bool) (text output : List ℕ) (refused : Bool) : Type 0 where
  pub reports : List Answers
  pub units : List JournalUnit
  pub served : IsServed listing text reports units
  pub told : refused ≡ list_any some_refused reports
  pub written : output ≡ reports_text reports ++ ending listed (after units initial).map

-- such an output was written
pub record Wrote (listing : List ℕ) (listed : Bool) (text : List ℕ) (refused : Bool) (old new : Option (List ℕ)) : Type 0 where
  pub output : List ℕ
  pub is_output : IsJobsOutput listing listed text output refused
  pub written : Appends old new output

-- nothing was written, or a beginning of such an output
abbrev pub IsBegun : List ℕ → Bool → List ℕ → Option (List ℕ) → Option (List ℕ) → Type 0
IsBegun listing listed text old new = (old ≡ new) ⊎ ((output : List ℕ) × (refused : Bool) × IsJobsOutput listing listed text output refused × WritesBeginning old new output)

-- these replies were written, and something behind them
abbrev pub HasReplied : List Answers → Option (List ℕ) → Option (List ℕ) → Type 0
HasReplied reports old new = (behind : List ℕ) × Appends old new (reports_text reports ++ behind)

-- nothing was written, or all replies of a text that was served, and something behind them
abbrev pub AreReplied : List ℕ → List ℕ → Option (List ℕ) → Option (List ℕ) → Type 0
AreReplied listing text old new = (old ≡ new) ⊎ ((reports : List Answers) × (units : List JournalUnit) × IsServed listing text reports units × HasReplied reports old new)
