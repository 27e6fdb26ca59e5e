-- What is seen of a session.
use Rattle.std.specs.Prelude.{◌≡◌, ℕ, ◌+◌, ◌<◌, nat_lt, cond, List, [], ◌∷◌, ◌++◌, length, take, Option, None, Some, IfSome, if◌then◌else◌}
use Rattle.journal.specs.declared.unit.Unit.{Unit as JournalUnit}
use Rattle.journal.specs.declared.unit.Unit.TheVariants.{Back, End}
use Rattle.journal.specs.Kept.{Claim}
use Rattle.journal.specs.History.{initial, after, IsLegal}
use Rattle.validate_commit.specs.Working.{IsWorkOn}
use Rattle.job_core.specs.Sessions.{Session as JobSession, idle, just_opened, after_lock, anew}
use Rattle.pin_board.specs.declared.view.PinView.{PinView}
use Rattle.pin_board.specs.Slips.{AreInJournal, IsBeginning}
use Rattle.shared_engine.specs.Receipts.{Book, book, IsBook, claim}

-- the job's own state; the journal at the start of its transaction, where one is open; its receipts; the other units
-- that it wrote; and the longest beginning of the journal that it has seen
pub record Held : Type 0 where
  pub state : JobSession
  pub start : Option (List JournalUnit)
  pub receipts : List Claim
  pub others : List Claim
  pub seen : List JournalUnit

abbrev pub held : JobSession → Option (List JournalUnit) → List Claim → List Claim → List JournalUnit → Held
held state start receipts others seen = record { state = state; start = start; receipts = receipts; others = others; seen = seen }

-- the journal at the start of the session that has this seat
abbrev pub start_in : PinView → Option (List JournalUnit)
start_in p = cond p.settled (Some p.base) None

-- the transaction began on these units, and what it has done is right on the map that they leave
pub record IsBegun (base : List JournalUnit) (s : JobSession) : Type 0 where
  pub level : 0 < s.level
  pub start : s.work.start ≡ length base
  pub work : IsWorkOn s.work (after base initial).map

-- a transaction is open exactly where there is a start
abbrev pub IsAt : Option (List JournalUnit) → JobSession → Type 0
IsAt None s = s ≡ idle s.work.job
IsAt (Some base) s = IsBegun base s

-- where a transaction is open, what was seen goes on from its start
abbrev pub GoesOnFromStart : Option (List JournalUnit) → List JournalUnit → Type 0
GoesOnFromStart start seen = IfSome start (λ base. IsBeginning seen base)

-- what a session keeps: its seat is its job's, has seen the start, and has a slip, on which its units are
pub record IsSession (state : JobSession) (pin : PinView) (numbers : List ℕ) : Type 0 where
  pub place : pin.place + 1 ≡ state.work.job
  pub slip : pin.slips ≡ 1
  pub at : IsAt (start_in pin) state
  pub start : GoesOnFromStart (start_in pin) pin.seen
  pub book : IsBook state.work.job numbers pin.mine

-- ---- steps of one session

-- it has seen these units, and nothing else has changed
abbrev pub knowing : List JournalUnit → Held → Held
knowing units s = held s.state s.start s.receipts s.others units

-- one receipt more, of this unit behind these
abbrev pub and_receipt : List JournalUnit → JournalUnit → Held → Held
and_receipt units unit s = held s.state s.start (s.receipts ++ claim (length units + 1) unit ∷ []) s.others (units ++ unit ∷ [])

-- a receipt for each of these units, which stand in a row
abbrev pub and_receipts : List JournalUnit → List JournalUnit → Held → Held
and_receipts units [] s = s
and_receipts units (u ∷ us) s = and_receipts (units ++ u ∷ []) us (and_receipt units u s)

-- a transaction that took a LOCK has gone back, as the last of these units
abbrev pub went_back : List JournalUnit → Held → Held
went_back units s =
    held s.state s.start s.receipts (if s.state.took_lock then s.others ++ claim (length units) (Back s.state.work.job) ∷ [] else s.others) (if s.state.took_lock then units else s.seen)

-- the outermost TSTART: the transaction begins on these units, which go on from what the session had seen, and in which
-- those of its receipts are
pub record HasBegun (base : List JournalUnit) (old new : Held) : Type 0 where
  pub is : new ≡ held (just_opened old.state.work.job (length base)) (Some base) old.receipts old.others base
  pub goes_on : IsBeginning base old.seen
  pub receipts : AreInJournal base old.receipts

-- the transaction begins anew behind these units, the last of which says so where it took a LOCK
abbrev pub begun_anew : List JournalUnit → Held → Held
begun_anew units s = held (anew (length units) s.state) (Some units) s.receipts (went_back units s).others units

-- the journal is legal, goes on from what the session has seen and from the start of its transaction, and the units of
-- its receipts are in it
pub record IsJournalOf (units : List JournalUnit) (s : Held) : Type 0 where
  pub legal : IsLegal units initial
  pub goes_on : IsBeginning units s.seen
  pub start : IfSome s.start (λ base. base ≡ take (length base) units)
  pub receipts : AreInJournal units s.receipts

-- no transaction is open any more
abbrev pub ended : Held → Held
ended s = held (idle s.state.work.job) None s.receipts s.others s.seen

-- the transaction is gone, as the last of these units says where it took a LOCK
abbrev pub rolled_back : List JournalUnit → Held → Held
rolled_back units s = ended (went_back units s)

-- the session is over, as the unit behind these says
abbrev pub halted : List JournalUnit → Held → Book
halted units s = book s.state.work.job s.receipts (s.others ++ claim (length units + 1) (End s.state.work.job) ∷ []) (units ++ End s.state.work.job ∷ [])

-- a LOCK is noted in the state, where it was taken inside a transaction
abbrev pub noted_lock : JobSession → JobSession
noted_lock s = if nat_lt 0 s.level then after_lock s else s
