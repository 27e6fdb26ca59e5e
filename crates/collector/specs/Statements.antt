-- What the definitions of a turn come to; each is a law of src/laws.rt.
use Rattle.std.specs.Prelude.{◌≡◌, ◌<◌, ◌≤◌, ◌↔◌, ℕ, List, Option}
use Rattle.std.specs.List.{Contains}
use Rattle.std.specs.FinMap as finmap
use Rattle.collation.specs.Reference.{Reference}
use Rattle.version_chain.specs.Versions.{Entry}
use Rattle.version_store.specs.Versions.{Row, Versions, Stored, in_turn, next_in_turn}
use Rattle.collector.specs.Turn.{is_among, after_horizon, AreDistinct}

-- a reference is in turn where it is placed
abbrev pub PlacedAreInTurn : Type 0
PlacedAreInTurn = (mark : Option Reference) (m : Versions) (r : Reference) → is_among (in_turn mark m) r ≡ finmap.contains_key m r

-- and no reference is in turn twice
abbrev pub NoneIsInTurnTwice : Type 0
NoneIsInTurnTwice = (mark : Option Reference) (m : Versions) → AreDistinct (in_turn mark m)

-- with a limit of at least their number all are next in turn, as in a pass
abbrev pub LargeTurnsArePasses : Type 0
LargeTurnsArePasses = (limit : ℕ) (s : Stored) → finmap.len s.versions ≤ limit → next_in_turn limit s ≡ next_in_turn (finmap.len s.versions) s

-- rows with the same versions after the horizon have each version after it alike
abbrev pub LateVersionsStand : Type 0
LateVersionsStand = (horizon : ℕ) (new old : Row) (v : Entry (List ℕ)) → after_horizon horizon new ≡ after_horizon horizon old → horizon < v.0 → Contains new v ↔ Contains old v
