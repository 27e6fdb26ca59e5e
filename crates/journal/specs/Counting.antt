-- How many units each job has: its tally.
use Rattle.std.specs.Prelude.{◌≡◌, ℕ, zero, suc, ◌+◌, ◌-◌, ◌^◌, ◌<◌, ◌==◌, min, Bool, true, false, List, [], ◌∷◌, filter, length, slice_index}
use Rattle.journal.specs.declared.unit.Unit.{Unit as JournalUnit}
use Rattle.journal.specs.declared.unit.Unit.TheVariants.{Lone, Whole, Lock, Back, End}

-- whether a unit counts in the job's tally: all of the job but rollbacks, restarts and ends of sessions
abbrev pub is_counted : ℕ → JournalUnit → Bool
is_counted job (Lone j command answer) = j == job
is_counted job (Whole j exchanges) = j == job
is_counted job (Lock j inside command had) = j == job
is_counted job (Back j) = false
is_counted job (End j) = false

-- how many of these units count
abbrev pub tally_of : ℕ → List JournalUnit → ℕ
tally_of job us = length (filter (is_counted job) us)

-- whether a unit counts in its job's tally
abbrev pub is_tallied : JournalUnit → Bool
is_tallied (Lone job command answer) = true
is_tallied (Whole job exchanges) = true
is_tallied (Lock job inside command had) = true
is_tallied (Back job) = false
is_tallied (End job) = false

-- numbers by the numbers of jobs, from 0 on; a job behind them has 0
abbrev pub Tallies : Type 0
Tallies = List ℕ

abbrev pub tally_in : Tallies → ℕ → ℕ
tally_in ts job = slice_index ts job

-- these are the tallies of these units; jobs have numbers from 1 on
abbrev pub AreTallies : Tallies → List JournalUnit → Type 0
AreTallies ts us = (job : ℕ) → 0 < job → tally_in ts job ≡ tally_of job us

-- one more of the job, up to 2^64 - 1
abbrev pub one_more : ℕ → Tallies → Tallies
one_more zero [] = 1 ∷ []
one_more zero (n ∷ ns) = min (n + 1) (2 ^ 64 - 1) ∷ ns
one_more (suc job) [] = 0 ∷ one_more job []
one_more (suc job) (n ∷ ns) = n ∷ one_more job ns

abbrev pub counted_unit : JournalUnit → Tallies → Tallies
counted_unit (Lone job command answer) ts = one_more job ts
counted_unit (Whole job exchanges) ts = one_more job ts
counted_unit (Lock job inside command had) ts = one_more job ts
counted_unit (Back job) ts = ts
counted_unit (End job) ts = ts

-- units are counted, each in its turn
abbrev pub counted_on : List JournalUnit → Tallies → Tallies
counted_on [] ts = ts
counted_on (u ∷ us) ts = counted_on us (counted_unit u ts)
