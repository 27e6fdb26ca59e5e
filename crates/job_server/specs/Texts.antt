-- What is known of a text whose jobs were served.
-- Read IsServed; the contract of serve_text cites it.
use Rattle.std.specs.Prelude.{ℕ, List}
use Rattle.journal.specs.declared.unit.Unit.{Unit as JournalUnit}
use Rattle.journal.specs.History.{initial, IsLegal}
use Rattle.loading.specs.Settings.{Setting}
use Rattle.job_scripts.specs.Groups.{groups_in}
use Rattle.job_scripts.specs.Reports.{Answers}
use Rattle.job_server.specs.Served.{IsRun, IsLoadedFirst}

-- a report for each of the text's groups, in order, with a reply for each line; the units are a legal journal, first those of the listing's settings,
-- and the story of one run of the exact machine, which the reports show
pub record IsServed (listing text : List ℕ) (reports : List Answers) (units : List JournalUnit) : Type 0 where
  pub settings : List Setting
  pub loaded : IsLoadedFirst listing settings units
  pub run : ∥ IsRun settings (groups_in text) reports units ∥₁
  pub legal : IsLegal units initial
