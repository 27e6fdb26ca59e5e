-- What a core is that has taken a store over: its units are made up, so that they leave just what the store shows now.
-- Read HasAdopted, then IsTakenOver.
use Rattle.std.specs.Prelude.{◌≡◌, List}
use Rattle.std.specs.FinMap as finmap
use Rattle.journal.specs.declared.unit.Unit.{Unit as JournalUnit}
use Rattle.journal.specs.Adopted.{adopted_units}
use Rattle.journal.specs.History.{State, initial, after, IsLegal}
use Rattle.version_store.specs.Versions.{Stored, content_now}
use Rattle.validate_commit.specs.Agreement.{Agreement}
use Rattle.job_core.specs.Common.{Common}
use Rattle.job_core.specs.Cores.{Cored}

-- the units that leave the store's content now
abbrev pub units_for : Stored → List JournalUnit
units_for store = adopted_units store.present (finmap.entries (content_now store))

-- its content now, and nothing is locked
abbrev pub state_for : Stored → State
state_for store = record { map = content_now store; locks = finmap.empty }

-- the units are these, and all of them are dropped; room is kept for no session's end; the store is cut at now; store and journal agree
pub record HasAdopted (store : Stored) (core : Common) : Type 0 where
  pub units : core.units ≡ units_for store
  pub base : core.base ≡ store.present
  pub ends : core.ends ≡ 0
  pub cut : core.store ≡ record store { cut = store.present }
  pub state : after core.units initial ≡ state_for store
  pub agreed : Agreement core.store core.units

-- the machine has these units, and no transaction is open; the base is the store's now
pub record IsTakenOver (store : Stored) (core : Cored) : Type 0 where
  pub machine : core.machine ≡ record { units = units_for store; transactions = finmap.empty }
  pub base : core.base ≡ store.present
  pub state : after core.machine.units initial ≡ state_for store
  pub legal : IsLegal core.machine.units initial
