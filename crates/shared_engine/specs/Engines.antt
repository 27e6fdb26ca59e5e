-- What is seen of what lies under the lock, and what each step makes of it and of the session that does it.
use Rattle.std.specs.Prelude.{◌≡◌, ◌≢◌, ℕ, ◌+◌, ◌-◌, ◌^◌, ◌≤◌, nat_lt, min, Bool, true, false, List, [], ◌∷◌, ◌++◌, length, Option, None, Some, Result, Ok, Err, slice_get, if◌then◌else◌}
use Rattle.std.specs.List.{All, sum_by}
use Rattle.journal.specs.declared.unit.Unit.{Unit as JournalUnit}
use Rattle.journal.specs.declared.unit.Unit.TheVariants.{Back, Whole, Lock}
use Rattle.refusal.specs.declared.Refusal.{Refusal}
use Rattle.journal.specs.Kept.{Claim, claims_of, HasNoRoom}
use Rattle.lock_name.specs.declared.lock.LockCommand.{LockCommand}
use Rattle.validate_commit.specs.Verdicts.{has_been_overtaken}
use Rattle.job_core.specs.Sessions.{Session as JobSession}
use Rattle.job_core.specs.Common.{Common, HasTurned}
use Rattle.atomic_table.specs.Seated.{TableId}
use Rattle.pin_board.specs.Named.{DeskAt, FreeAt, free_at}
use Rattle.pin_board.specs.Slips.{AreInJournal, IsBeginning, weigh}
use Rattle.shared_engine.specs.Receipts.{Book, IsOwn, RisesFrom, of_receipts, claim}
use Rattle.shared_engine.specs.Sessions.{Held, held, knowing, and_receipt, begun_anew, ended, noted_lock}
use Rattle.shared_engine.specs.declared.locked.Ended.{Ended}
use Rattle.shared_engine.specs.declared.locked.Ended.TheVariants.{Committed, Restarted}
use Rattle.shared_engine.specs.declared.turn.Turn.{Turn}
use Rattle.shared_engine.specs.declared.turn.Turn.TheVariants.{Due, Taken}

-- how many jobs have a session
abbrev pub sessions_in : List (Option FreeAt) → ℕ
sessions_in [] = 0
sessions_in (None ∷ seats) = sessions_in seats + 1
sessions_in (Some seat ∷ seats) = sessions_in seats

-- each seat is at its place, and of this table
abbrev pub AreInPlace : TableId → List (Option FreeAt) → Type 0
AreInPlace table seats = (i : ℕ) (seat : FreeAt) → slice_get seats i ≡ Some (Some seat) → seat ≡ free_at table i

-- what lies under the lock goes with its desk: that knows the journal, no content from a horizon on is gone, the journal's base hasn't
-- passed the greatest horizon, there is a seat for each place that was dealt, which is of the desk's table, and room is kept
-- for the end of each session
pub record IsLocked (common : Common) (desk : DeskAt) (seats : List (Option FreeAt)) (horizon opened : ℕ) : Type 0 where
  pub log : desk.knows.log ≡ common.units
  pub cut : common.store.cut ≤ desk.knows.high
  pub base : common.base ≤ desk.knows.high
  pub high : horizon ≤ desk.knows.high
  pub now : horizon ≤ length common.units
  pub wide : desk.knows.seats ≡ 4096
  pub dealt : length seats ≡ desk.knows.dealt
  pub opened_is : opened ≡ min desk.knows.given (2 ^ 64 - 1)
  pub ends : common.ends ≡ sessions_in seats
  pub placed : AreInPlace desk.table seats

-- ---- seats

-- whether a seat was dealt at a place and is lent, of what is kept there
abbrev pub is_lent : Option (Option FreeAt) → Bool
is_lent None = false
is_lent (Some None) = true
is_lent (Some (Some seat)) = false

-- whether the job has a session
abbrev pub has_session : List (Option FreeAt) → ℕ → Bool
has_session seats job = is_lent (slice_get seats (job - 1))

-- the job has a session now, or has none, and the others are as they were
pub record SessionIs (is : Bool) (job : ℕ) (old new : List (Option FreeAt)) : Type 0 where
  pub this : has_session new job ≡ is
  pub others : (other : ℕ) → 1 ≤ other → other ≢ job → has_session new other ≡ has_session old other

-- each job has a session exactly where it had one
abbrev pub SameSessions : List (Option FreeAt) → List (Option FreeAt) → Type 0
SameSessions old new = (job : ℕ) → 1 ≤ job → has_session new job ≡ has_session old job

-- ---- steps

-- a transaction that took a LOCK goes back
abbrev pub gone_back : JobSession → List JournalUnit → List JournalUnit
gone_back s units = if s.took_lock then units ++ Back s.work.job ∷ [] else units

-- a transaction as a unit
abbrev pub whole_of : JobSession → JournalUnit
whole_of s = Whole s.work.job s.work.exchanges

-- how an outermost TCOMMIT ended. Committed: the transaction wasn't overtaken, and is a unit with a receipt; restarted:
-- it was, and has begun anew
abbrev pub HasEnded : Ended → List JournalUnit → List JournalUnit → Held → Held → Type 0
HasEnded Committed units more old new =
    (has_been_overtaken old.state.work units ≡ false)
    × ((more ≡ units ++ whole_of old.state ∷ []) × (new ≡ ended (and_receipt units (whole_of old.state) old)))
HasEnded (Restarted restarts) units more old new =
    (has_been_overtaken old.state.work units ≡ true)
    × ((more ≡ gone_back old.state units) × ((new ≡ begun_anew more old) × (restarts ≡ new.state.restarts)))

-- why a commit that was overtaken is refused: there is no room for the unit of the LOCKs that it gives back
abbrev pub IsCauseAtRestart : Refusal → JobSession → List JournalUnit → Type 0
IsCauseAtRestart refusal s units = HasNoRoom refusal 1 (length units) × ((has_been_overtaken s.work units ≡ true) × (s.took_lock ≡ true))

-- the unit of a LOCK of this session
abbrev pub lock_unit : JobSession → LockCommand → Bool → JournalUnit
lock_unit s command had = Lock s.work.job (nat_lt 0 s.level) command had

-- a LOCK was tried, and is a unit behind these
abbrev pub after_try : List JournalUnit → LockCommand → Bool → Held → Held
after_try units command had s =
    held (noted_lock s.state) s.start (s.receipts ++ claim (length units + 1) (lock_unit s.state command had) ∷ []) s.others (units ++ lock_unit s.state command had ∷ [])

-- what holds where the answer is yes, and where it is no
abbrev pub OnOkThat : {E : Type 0} → Result Bool E → Type 0 → Type 0
OnOkThat (Ok true) P = P
OnOkThat (Ok false) P = Unit {0}
OnOkThat (Err e) P = Unit {0}

abbrev pub OnOkNot : {E : Type 0} → Result Bool E → Type 0 → Type 0
OnOkNot (Ok true) P = Unit {0}
OnOkNot (Ok false) P = P
OnOkNot (Err e) P = Unit {0}

-- a turn that was due stays so, or was taken over no more keys; any other is as it was
abbrev pub MayBeTaken : Turn → Turn → Type 0
MayBeTaken (Due keys) (Taken progress) = progress.visited ≤ keys
MayBeTaken old new = new ≡ old

-- what it did: one that was taken now is a turn at some horizon, any other left all as it was
abbrev pub HasTakenTurn : Turn → Turn → Common → Common → Type 0
HasTakenTurn (Due keys) (Taken progress) old new = (horizon : ℕ) × HasTurned horizon keys progress old.store new.store
HasTakenTurn turn next old new = new ≡ old

-- a session that isn't over goes on: where it was refused, it has seen these units; where nothing was tried, it is as it was
abbrev pub GoesOnBy : Option Refusal → List JournalUnit → Held → Held → Type 0
GoesOnBy None units old new = new ≡ old
GoesOnBy (Some refusal) units old new = IsBeginning units old.seen × (new ≡ knowing units old)

-- ---- the end

-- what the units of these passes' receipts weigh
abbrev pub receipts_weigh : (Claim → ℕ) → List Book → ℕ
receipts_weigh weight passes = sum_by (λ (p : Book). weigh weight p.receipts) passes

-- the receipts of these passes are those of all units that give one, each at its number once
abbrev pub AreAllReceipts : List JournalUnit → List Book → Type 0
AreAllReceipts units passes = (weight : Claim → ℕ) → weigh (of_receipts weight) (claims_of 1 units) ≡ receipts_weigh weight passes

-- what all units of these passes weigh
abbrev pub units_weigh : (Claim → ℕ) → List Book → ℕ
units_weigh weight passes = sum_by (λ (p : Book). weigh weight p.receipts + weigh weight p.others) passes

-- the units of these passes are all units, each at its number once
abbrev pub AreAllUnits : List JournalUnit → List Book → Type 0
AreAllUnits units passes = (weight : Claim → ℕ) → weigh weight (claims_of 1 units) ≡ units_weigh weight passes

-- what the session had seen at its end begins the journal
abbrev pub HasSeenOf : List JournalUnit → Book → Type 0
HasSeenOf log p = IsBeginning log p.seen

-- the rest of the passes is still to be taken in; the others wrote what came back, and had seen these beginnings
pub record IsDue (all rest : List Book) (back : List Claim) (known : List (List JournalUnit)) : Type 0 where
  pub count : (weight : Claim → ℕ) → weigh (of_receipts weight) back + receipts_weigh weight rest ≡ receipts_weigh weight all
  pub units : (weight : Claim → ℕ) → weigh weight back + units_weigh weight rest ≡ units_weigh weight all
  pub own : All IsOwn rest → All IsOwn all
  pub in_journal : (log : List JournalUnit) → AreInJournal log back → All (λ (p : Book). AreInJournal log p.receipts) rest → All (λ (p : Book). AreInJournal log p.receipts) all
  pub others : (log : List JournalUnit) → AreInJournal log back → All (λ (p : Book). AreInJournal log p.others) rest → All (λ (p : Book). AreInJournal log p.others) all
  pub rising : All (λ (p : Book). RisesFrom 0 p.receipts) rest → All (λ (p : Book). RisesFrom 0 p.receipts) all
  pub seen : (log : List JournalUnit) → All (IsBeginning log) known → All (HasSeenOf log) rest → All (HasSeenOf log) all
