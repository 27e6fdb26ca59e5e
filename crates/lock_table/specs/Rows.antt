-- One job's counts as the table keeps them, and what the trie has of them.
use Rattle.std.specs.Prelude.{◌≡◌, ◌≤◌, ℕ, Bool, false, List, Option, None, Some, if◌then◌else◌}
use Rattle.std.specs.List.{list_any}
use Rattle.std.specs.FinMap as finmap
use Rattle.collation.specs.Reference.{Resource}
use Rattle.lock_name.specs.Locks.{Counts, count_of, more_of, fewer_of, JobLocks}
use Rattle.lock_trie.specs.Held.{Held, held_count}
use Rattle.lock_table.specs.declared.inside.Inside.{Inside}
use Rattle.lock_table.specs.declared.wanted.Wanted.{Wanted}
use Rattle.lock_table.specs.declared.wanted.Wanted.TheVariants.{AllBut, Just}
use Rattle.lock_table.specs.declared.row.Form.{Form}
use Rattle.lock_table.specs.declared.row.Form.TheVariants.{Only, More, Fewer}
use Rattle.lock_table.specs.Counted.{less, is_over}

-- what a job wants: all that it holds but these, or just these
abbrev pub want_of : Counts → Wanted → Counts
want_of held (AllBut fewer) = less held fewer
want_of held (Just want) = want

-- the counts that tell it
abbrev pub told_by : Wanted → Counts
told_by (AllBut fewer) = fewer
told_by (Just want) = want

-- one more of each name is wanted
abbrev pub asked : List Resource → Wanted → Wanted
asked ns (AllBut fewer) = AllBut (fewer_of ns fewer)
asked ns (Just want) = Just (more_of ns want)

-- outside a transaction a job wants what it holds; inside, what was given back there is held still
abbrev pub want_in : Counts → Option Inside → Counts
want_in held None = held
want_in held (Some i) = want_of held i.wanted

-- what was added inside wasn't wanted at the start
abbrev pub start_in : Counts → Option Inside → Option Counts
start_in held None = None
start_in held (Some i) = Some (less held i.added)

-- neither of the two has more than is held
pub record AreWithin (held told added : Counts) : Type 0 where
  pub told_held : (x : Resource) → count_of told x ≤ count_of held x
  pub added_held : (x : Resource) → count_of added x ≤ count_of held x

abbrev pub IsWithin : Counts → Option Inside → Type 0
IsWithin held None = Unit {0}
IsWithin held (Some i) = AreWithin held (told_by i.wanted) i.added

abbrev pub locks_in : Counts → Option Inside → JobLocks
locks_in held inside = record { want = want_in held inside; held = held; start = start_in held inside }

-- a job that took a LOCK in its transaction
abbrev pub inside_locks : Counts → Inside → JobLocks
inside_locks held i = record { want = want_of held i.wanted; held = held; start = Some (less held i.added) }

-- what is wanted and what was added is what it was
pub record IsInsideSame (old new : Inside) : Type 0 where
  pub wanted_same : new.wanted ≡ old.wanted
  pub added_same : new.added ≡ old.added

-- the trie has these counts of the job
abbrev pub IsHeldIn : Held → ℕ → Counts → Type 0
IsHeldIn trie job held = (x : Resource) → held_count trie job x ≡ count_of held x

-- the trie has the job's held counts
abbrev pub IsKept : Held → ℕ → JobLocks → Type 0
IsKept trie job l = IsHeldIn trie job l.held

-- other jobs hold what they held
abbrev pub AreOthersSame : Held → Held → ℕ → Type 0
AreOthersSame old new job = (other : ℕ) (x : Resource) → (other ≡ job → ⊥) → held_count new other x ≡ held_count old other x

-- the forms of LOCK with names, and whether none of them is blocked
abbrev pub want_by : Form → List Resource → Counts → Counts
want_by (Only had) ns want = if had then more_of ns finmap.empty else finmap.empty
want_by (More had) ns want = if had then more_of ns want else want
want_by Fewer ns want = fewer_of ns want

-- a count would pass the highest
abbrev pub is_full_by : Form → List Resource → Counts → Bool
is_full_by (Only had) ns want = list_any (is_over ns finmap.empty) ns
is_full_by (More had) ns want = list_any (is_over ns want) ns
is_full_by Fewer ns want = false
