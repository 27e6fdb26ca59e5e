-- What is written is an output of many jobs.
use Rattle.std.proofs.Common.{◌≡◌, inr, ℕ, Bool, List, ◌++◌, map, Option, refl, subst}
use Rattle.std.proofs.Math.Logic.{∥∥₁_map}
use Rattle.std.specs.List.{list_any}
use Rattle.journal.specs.declared.unit.Unit.{Unit as JournalUnit}
use Rattle.journal.specs.History.{initial, after, IsLegal}
use Rattle.job_scripts.specs.declared.lines.Script.{Script}
use Rattle.job_scripts.specs.Groups.{Group, groups_in, shown}
use Rattle.job_scripts.specs.Reports.{Answers, reports_text, some_refused}
use Rattle.job_server.specs.Served.{AreAnswered, AreServed}
use Rattle.listing.specs.Bytes.{WritesBeginning}
use Rattle.job_server.specs.Output.{ending, IsJobsOutput, IsBegun}
use Rattle.job_server.specs.Texts.{IsServed}
use Rattle.job_server.proofs.Apart.{apart_of}

-- the scripts of a text are of different jobs
pub served : (listing : List ℕ) (scripts : List Script) (reports : List Answers) (units : List JournalUnit) (text : List ℕ) → AreServed listing (map shown scripts) reports units → map shown scripts ≡ groups_in text → IsLegal units initial → IsServed listing text reports units
served listing scripts reports units text is g legal =
    let own : AreServed listing (groups_in text) reports units = subst (λ (gs : List Group). AreServed listing gs reports units) g is in
    record {
      settings = own.settings;
      loaded = own.loaded;
      run = ∥∥₁_map own.answered (λ (x : AreAnswered own.settings (groups_in text) reports units). x.run (apart_of text));
      legal = legal;
    }

pub made : (listing : List ℕ) (listed : Bool) (reports : List Answers) (units : List JournalUnit) (text : List ℕ) (refused : Bool) → IsServed listing text reports units → refused ≡ list_any some_refused reports → IsJobsOutput listing listed text (reports_text reports ++ ending listed (after units initial).map) refused
made listing listed reports units text refused h is_told = record { reports = reports; units = units; served = h; told = is_told; written = refl }

pub begun : (listing : List ℕ) (listed : Bool) (text : List ℕ) (old new : Option (List ℕ)) (output : List ℕ) (refused : Bool) → IsJobsOutput listing listed text output refused → WritesBeginning old new output → IsBegun listing listed text old new
begun listing listed text old new output refused h w = inr (output, refused, h, w)
