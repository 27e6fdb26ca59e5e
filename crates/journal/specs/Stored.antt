-- What each unit in the log keeps: the limits that let it be read back.
use Rattle.std.specs.Prelude.{ℕ, ◌≡◌, ◌<◌, ◌≤◌, ◌^◌, true, List, [], ◌∷◌, length, None, Some, ⊤}
use Rattle.command.specs.declared.access.DataCommand.{DataCommand}
use Rattle.command.specs.declared.access.DataCommand.TheVariants.{Set, Kill, Merge, Increment, Look}
use Rattle.command.specs.declared.access.Look.{Look as LookCommand}
use Rattle.command.specs.declared.access.Look.TheVariants.{Data, Get, Order, Query, Name}
use Rattle.command.specs.declared.access.Answer.{Answer}
use Rattle.command.specs.declared.access.Answer.TheVariants.{Done, Value, Number, Found}
use Rattle.collation.specs.Limits.{most_jobs}
use Rattle.collation.specs.Name.{is_name}
use Rattle.lock_name.specs.declared.lock.LockCommand.{LockCommand}
use Rattle.lock_name.specs.declared.lock.LockCommand.TheVariants.{Release, Only, More, Fewer}
use Rattle.collation.specs.Reference.{Reference, Resource}
use Rattle.key_codec.specs.Key.{key_of, IsFaultless}
use Rattle.journal.specs.declared.unit.Exchange.{Exchange}
use Rattle.journal.specs.declared.unit.Unit.{Unit as JournalUnit}
use Rattle.journal.specs.declared.unit.Unit.TheVariants.{Lone, Whole, Lock, Back, End}
use Rattle.journal.specs.Format.{without_end}
use Rattle.journal.specs.Kept.{job_of}

-- a number of eight bytes
pub record FitsNumber (n : ℕ) : Type 0 where
  pub fits : n < 2 ^ 64

pub record FitsString (s : List ℕ) : Type 0 where
  pub fits : length s < 2 ^ 64

-- what a `Ref` keeps, and a key that isn't too long without its end
pub record FitsReference (r : Reference) : Type 0 where
  pub form : IsFaultless r
  pub fits : length (without_end (key_of r)) < 2 ^ 64

pub record FitsName (n : Resource) : Type 0 where
  pub reference : FitsReference n.reference

-- each of a list
abbrev pub Each : {A : Type 0} → (A → Type 0) → List A → Type 0
Each P [] = ⊤
Each P (x ∷ xs) = P x × Each P xs

pub record FitNames (ns : List Resource) : Type 0 where
  pub count : length ns < 2 ^ 64
  pub each : Each FitsName ns

abbrev pub FitsLook : LookCommand → Type 0
FitsLook (Data r) = FitsReference r
FitsLook (Get r None) = FitsReference r
FitsLook (Get r (Some d)) = FitsReference r × FitsString d
FitsLook (Order p direction) = FitsReference p.reference
FitsLook (Query p direction) = FitsReference p.reference
FitsLook (Name None direction) = ⊤
FitsLook (Name (Some n) direction) = FitsString n × (is_name n ≡ true)

abbrev pub FitsCommand : DataCommand → Type 0
FitsCommand (Set r v) = FitsReference r × FitsString v
FitsCommand (Kill r extent) = FitsReference r
FitsCommand (Merge a b) = FitsReference a × FitsReference b
FitsCommand (Increment r n) = FitsReference r × FitsString n
FitsCommand (Look look) = FitsLook look

abbrev pub FitsAnswer : Answer → Type 0
FitsAnswer Done = ⊤
FitsAnswer (Value t) = FitsString t
FitsAnswer (Number n) = FitsNumber n
FitsAnswer (Found r) = FitsReference r

pub record FitsExchange (e : Exchange) : Type 0 where
  pub command : FitsCommand e.command
  pub answer : FitsAnswer e.answer

pub record FitExchanges (es : List Exchange) : Type 0 where
  pub count : length es < 2 ^ 64
  pub each : Each FitsExchange es

abbrev pub FitsLock : LockCommand → Type 0
FitsLock Release = ⊤
FitsLock (Only ns) = FitNames ns
FitsLock (More ns) = FitNames ns
FitsLock (Fewer ns) = FitNames ns

abbrev pub FitsDeed : JournalUnit → Type 0
FitsDeed (Lone job command answer) = FitsCommand command × FitsAnswer answer
FitsDeed (Whole job exchanges) = FitExchanges exchanges
FitsDeed (Lock job inside command had) = FitsLock command
FitsDeed (Back job) = ⊤
FitsDeed (End job) = ⊤

pub record FitsUnit (u : JournalUnit) : Type 0 where
  pub low : 1 ≤ job_of u
  pub high : job_of u ≤ most_jobs
  pub deed : FitsDeed u
