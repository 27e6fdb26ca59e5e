-- What the parts of a commit may rely on: how the read sets and writes grow, and what a commit leaves.
use Rattle.std.specs.Prelude.{◌≡◌, Bool, false, not, ◌&&◌, ◌||◌, List, [], ◌∷◌, ◌++◌, if◌then◌else◌}
use Rattle.std.specs.FinMap as finmap
use Rattle.collation.specs.Reference.{Reference}
use Rattle.collation.specs.Database.{Database}
use Rattle.journal.specs.declared.unit.Exchange.{Exchange}
use Rattle.journal.specs.declared.unit.Unit.{Unit as JournalUnit}
use Rattle.journal.specs.History.{State, after, all_after}
use Rattle.journal.specs.Touching.{sets, kills, read_set, has_read, has_written, leaves_set, any_touched}
use Rattle.serial.specs.Agreeing.{Agree}

-- one more command on the database m
pub record GrowsBy (es : List Exchange) (e : Exchange) (m : Database) (x : Reference) : Type 0 where
  pub seen : all_after (es ++ e ∷ []) m ≡ all_after (e ∷ []) (all_after es m)
  pub read : has_read (es ++ e ∷ []) m x ≡ (has_read es m x || read_set e.command e.answer (has_written es m) x)
  pub written : has_written (es ++ e ∷ []) m x ≡ (has_written es m x || (sets e.command (all_after es m) x || kills e.command x))
  pub left_set : leaves_set (es ++ e ∷ []) m x ≡ (sets e.command (all_after es m) x || (leaves_set es m x && not (kills e.command x)))

-- a transaction sees its own writes, and elsewhere what it began with
abbrev pub SeesItsStart : Type 0
SeesItsStart = (es : List Exchange) → (m : Database) → (x : Reference) → has_written es m x ≡ false → Agree (all_after es m) m x

-- commands that were done on m, where n agrees with m on what they have read, leave on n: where they wrote what they left on m, elsewhere what n had
pub record CommitsOn (es : List Exchange) (m n : Database) (x : Reference) : Type 0 where
  pub written : has_written es n x ≡ has_written es m x
  pub left_set : leaves_set es n x ≡ leaves_set es m x
  pub value : finmap.get (all_after es n) x ≡ (if has_written es m x then finmap.get (all_after es m) x else finmap.get n x)

-- units joined, and tests joined
pub record TouchedJoins (us vs : List JournalUnit) (s : State) (test other : Reference → Bool) : Type 0 where
  pub units : any_touched test (us ++ vs) s ≡ (any_touched test us s || any_touched test vs (after us s))
  pub tests : any_touched (λ x. test x || other x) us s ≡ (any_touched test us s || any_touched other us s)
