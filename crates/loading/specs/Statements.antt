-- What ties listings and loading to one another. Each is a clause of a function in `src/laws.rt`.
use Rattle.std.specs.Prelude.{◌≡◌, ℕ, Bool, true, not, ◌&&◌, List, Option, is_some, Result, Ok, Err}
use Rattle.std.specs.List.{list_all}
use Rattle.std.specs.FinMap as finmap
use Rattle.refusal.specs.declared.Refusal.{Refusal}
use Rattle.collation.specs.Reference.{Reference}
use Rattle.collation.specs.Database.{Database}
use Rattle.command.specs.declared.access.DataCommand.TheVariants.{Set}
use Rattle.command.specs.declared.request.Command.{Command}
use Rattle.command.specs.declared.request.Command.TheVariants.{Access}
use Rattle.m_text.specs.Forms.{are_bytes}
use Rattle.m_text.specs.Place.{ref_fault}
use Rattle.script.specs.Commands.{value_fault}
use Rattle.script.specs.Line.{reading_of}
use Rattle.listing.specs.Listing.{listing_text}
use Rattle.loading.specs.Settings.{Setting, set_line, setting_at, settings_of, database_of}

-- the step of a setting, or why there is none
abbrev pub step_for : Result Setting Refusal → Result (ℕ × Command) Refusal
step_for (Ok s) = Ok (1, Access (Set s.0 s.1))
step_for (Err refusal) = Err refusal

-- what a script reads of such a line is a SET of job 1, or the refusal
abbrev pub LinesAskForSets : Type 0
LinesAskForSets = (line : List ℕ) → reading_of (set_line line) ≡ step_for (setting_at line)

-- there is no fault
abbrev pub is_sound : Option Refusal → Bool
is_sound fault = not (is_some fault)

-- a reference without a fault, of bytes
abbrev pub is_reference : Reference → Bool
is_reference r = is_sound (ref_fault r) && list_all are_bytes r.subscripts

-- a value that isn't too long, of bytes
abbrev pub is_value : List ℕ → Bool
is_value value = is_sound (value_fault value) && are_bytes value

abbrev pub is_node : Setting → Bool
is_node s = is_reference s.0 && is_value s.1

-- each node is one that a SET may make
abbrev pub holds_nodes : Database → Bool
holds_nodes m = list_all is_node (finmap.entries m)

-- what is listed of a database asks for just its nodes
abbrev pub ListingsAskForTheirNodes : Type 0
ListingsAskForTheirNodes = (m : Database) → holds_nodes m ≡ true → settings_of (listing_text m) ≡ Ok (finmap.entries m)

-- and these make the database again
abbrev pub NodesMakeTheDatabase : Type 0
NodesMakeTheDatabase = (m : Database) → database_of (finmap.entries m) ≡ m

-- what is listed of the database that a text leaves asks for just its nodes
abbrev pub LoadedTextsListBack : Type 0
LoadedTextsListBack =
    (text : List ℕ) (settings : List Setting) → are_bytes text ≡ true → settings_of text ≡ Ok settings → settings_of (listing_text (database_of settings)) ≡ Ok (finmap.entries (database_of settings))
