-- When a workspace holds what commands have written, and what its changes are then.
use Rattle.std.specs.Prelude.{◌≡◌, ℕ, true, List, [], ◌∷◌, ◌++◌}
use Rattle.std.specs.List.{list_any}
use Rattle.std.specs.FinMap as finmap
use Rattle.command.specs.declared.access.Look.{Look as LookCommand}
use Rattle.command.specs.declared.access.DataCommand.TheVariants.{Set, Kill, Merge, Increment, Look}
use Rattle.command.specs.declared.access.Answer.{Answer}
use Rattle.collation.specs.Reference.{Reference}
use Rattle.collation.specs.Order.{ref_eq}
use Rattle.collation.specs.Database.{Database}
use Rattle.collation.specs.Answers.{merged, set_all}
use Rattle.command.specs.Data.{sum_at}
use Rattle.journal.specs.declared.unit.Exchange.{Exchange}
use Rattle.journal.specs.History.{all_after}
use Rattle.journal.specs.Touching.{has_read, has_written, leaves_set, touched_by}
use Rattle.serial.specs.Agreeing.{Agree}
use Rattle.workspace.specs.Layers.{Layer, laid_over, decides}
use Rattle.workspace.specs.laws.Layering.{KillsTaken}
use Rattle.command.specs.declared.access.Extent.{Extent}
use Rattle.workspace.specs.Changes.{AreChanges}
use Rattle.collation.specs.Changes.{Change, changed, AreOnce}

-- the workspace holds what these commands wrote, done in turn on the database m
pub record HoldsWrites (w : Layer) (es : List Exchange) (m : Database) : Type 0 where
  pub seen : laid_over w m ≡ all_after es m
  pub decided : (x : Reference) → decides w x ≡ has_written es m x
  pub left_set : (x : Reference) → finmap.contains_key w.written x ≡ leaves_set es m x

-- what the workspace holds after one more command: the same after one that looks, else what a set, a kill, the copies of a MERGE or the sum of an $INCREMENT leave in it
pub record HoldsOn (w : Layer) (es : List Exchange) (m : Database) (answer : Answer) : Type 0 where
  pub look : (l : LookCommand) → HoldsWrites w (es ++ record { command = Look l; answer = answer } ∷ []) m
  pub set : (r : Reference) (v : List ℕ) → HoldsWrites (record w { written = finmap.insert w.written r v }) (es ++ record { command = Set r v; answer = answer } ∷ []) m
  pub kill : (r : Reference) (extent : Extent) (n : Layer) → KillsTaken r extent w n → HoldsWrites n (es ++ record { command = Kill r extent; answer = answer } ∷ []) m
  pub merge : (a b : Reference) → HoldsWrites (record w { written = set_all (merged a b (laid_over w m)) w.written }) (es ++ record { command = Merge a b; answer = answer } ∷ []) m
  pub increment : (r : Reference) (k : List ℕ) → HoldsWrites (record w { written = set_all ((r, sum_at r k (laid_over w m)) ∷ []) w.written }) (es ++ record { command = Increment r k; answer = answer } ∷ []) m

-- a workspace goes on holding what is written
abbrev pub HoldsAlways : Type 0
HoldsAlways = (w : Layer) (es : List Exchange) (m : Database) → HoldsWrites w es m → (answer : Answer) → HoldsOn w es m answer

-- these changes leave what the commands leave, change just what they touch, and each reference once
pub record AreChangesOfExchanges (es : List Exchange) (n : Database) (cs : List Change) : Type 0 where
  pub leave : changed cs n ≡ all_after es n
  pub touched : (x : Reference) → list_any (λ (c : Change). ref_eq x c.0) cs ≡ touched_by es n x
  pub once : AreOnce cs

-- the changes of a workspace over a database that agrees with the start on what was read are those of the commands there
abbrev pub ChangesAreTouched : Type 0
ChangesAreTouched =
    (w : Layer) (es : List Exchange) (m n : Database) → HoldsWrites w es m → ((x : Reference) → has_read es m x ≡ true → Agree m n x) → (cs : List Change) → AreChanges w n cs → AreChangesOfExchanges es n cs
