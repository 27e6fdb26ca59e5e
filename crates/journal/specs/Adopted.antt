-- The units of a journal that takes a database over: a history that leaves just that. No bytes stand for them. They are of
-- job 0, which is nobody's number: ends of sessions, and as the last a transaction that sets each reference.
use Rattle.std.specs.Prelude.{ℕ, zero, suc, List, [], ◌∷◌, ◌++◌}
use Rattle.collation.specs.Reference.{Reference}
use Rattle.command.specs.declared.access.DataCommand.TheVariants.{Set}
use Rattle.command.specs.declared.access.Answer.TheVariants.{Done}
use Rattle.journal.specs.declared.unit.Exchange.{Exchange}
use Rattle.journal.specs.declared.unit.Unit.{Unit as JournalUnit}
use Rattle.journal.specs.declared.unit.Unit.TheVariants.{Whole, End}

-- each of these references is set to its value, the last first
abbrev pub settings_of : List (Reference × List ℕ) → List Exchange
settings_of [] = []
settings_of (e ∷ es) = settings_of es ++ record { command = Set e.0 e.1; answer = Done } ∷ []

-- so many ends of a session
abbrev pub ends : ℕ → List JournalUnit
ends zero = []
ends (suc n) = End 0 ∷ ends n

-- so many units that leave these references with their values; where the number is 0, none
abbrev pub adopted_units : ℕ → List (Reference × List ℕ) → List JournalUnit
adopted_units zero nodes = []
adopted_units (suc n) nodes = ends n ++ Whole 0 (settings_of nodes) ∷ []
