-- What a caller is told of a listing that is loaded as an engine, or isn't. Source: docs/FORMATS.md, "Loaded listings".
-- Read IsLoadedEngine, then IsFaultTold and IsUnloaded.
use Rattle.std.specs.Prelude.{◌≡◌, ℕ, List, length, None, Result}
use Rattle.refusal.specs.declared.Refusal.{Refusal}
use Rattle.refusal.specs.declared.Refusal.TheVariants.{OutOfMemory}
use Rattle.journal_lines.specs.Places.{placed_at}
use Rattle.loading.specs.Loaded.{IsFaultOf, IsLoaded}
use Rattle.loading.specs.Settings.{Setting, TextFault, settings_of}
use Rattle.loading.specs.declared.fault.LoadFault.{LoadFault}
use Rattle.loading.specs.declared.fault.LoadFault.TheVariants as faults
use Rattle.script.specs.Expected.{expected_text}
use Rattle.embedded.specs.Calls.{copied_onto}
use Rattle.embedded.specs.declared.engine.Embedded.{Embedded}

-- the engine has done just the text's settings, each as a SET of job 1; it has no reply yet, and nothing was listed or copied of its journal
pub record IsLoadedEngine (text : List ℕ) (e : Embedded) : Type 0 where
  pub machine : IsLoaded text e.core.machine
  pub base : e.core.base ≡ 0
  pub last : e.last ≡ None
  pub listed : e.listed ≡ None
  pub journal_place : e.journal_place ≡ placed_at 0

-- no fault is told
pub record IsNoFaultTold (line column : ℕ) (old new : List ℕ) (wanted : ℕ) : Type 0 where
  pub line_0 : line ≡ 0
  pub column_0 : column ≡ 0
  pub left : new ≡ old
  pub wanted_0 : wanted ≡ 0

-- the line at fault is told, its column, its refusal, and what is expected there, of which the text is copied where it fits
pub record IsLineTold (number at : ℕ) (cause : Refusal) (text : List ℕ) (refusal : Refusal) (line column : ℕ) (old new : List ℕ) (wanted : ℕ) : Type 0 where
  pub told : refusal ≡ cause
  pub line_told : line ≡ number
  pub column_told : column ≡ at
  pub copied : new ≡ copied_onto text old
  pub wanted_told : wanted ≡ length text

-- a fault is told: a line, or that memory was refused
abbrev pub IsFaultTold : LoadFault → Refusal → ℕ → ℕ → List ℕ → List ℕ → ℕ → Type 0
IsFaultTold (faults.Line fault) refusal line column old new wanted =
    IsLineTold fault.number fault.column fault.refusal (expected_text fault.expected) refusal line column old new wanted
IsFaultTold faults.Memory refusal line column old new wanted = (refusal ≡ OutOfMemory) × IsNoFaultTold line column old new wanted

-- the first fault of a text is told, or that memory was refused
pub record IsUnloaded (text : List ℕ) (refusal : Refusal) (line column : ℕ) (old new : List ℕ) (wanted : ℕ) : Type 0 where
  pub fault : LoadFault
  pub is_of : IsFaultOf (settings_of text) fault
  pub told : IsFaultTold fault refusal line column old new wanted
