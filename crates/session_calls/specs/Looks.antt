-- What looks of a session answer. They are no commands: no unit, no reply, and nothing of an open transaction changes.
-- Read IsLook, then IsOrderLook, IsQueryLook and IsWalk; then IsHold and IsRelease.
use Rattle.std.specs.Prelude.{◌≡◌, ◌⊎◌, ℕ, Bool, true, false, List, Option, None, Some, Result, Ok, Err}
use Rattle.std.specs.Option.{MatchOption}
use Rattle.refusal.specs.declared.Refusal.TheVariants.{NoTransaction}
use Rattle.collation.specs.Database.{Database}
use Rattle.collation.specs.Reference.{Reference}
use Rattle.collation.specs.declared.direction.Direction.{Direction}
use Rattle.key_codec.specs.Draft.{longer, place_of}
use Rattle.embedded.specs.Looks.{IsOrder, IsQuery, IsWalked, nodes_left}
use Rattle.typed_calls.specs.Typed.{IsPlaceCause, IsQueryCause, IsWithin}
use Rattle.journal.specs.declared.unit.Unit.{Unit as JournalUnit}
use Rattle.journal.specs.History.{initial, after as left_by}
use Rattle.embedded.specs.declared.outcome.Outcome.{Outcome}
use Rattle.embedded.specs.declared.outcome.Outcome.TheVariants.{Done, Refused, NoEngine}
use Rattle.hub.specs.declared.hub.Busy.{Busy}
use Rattle.shared_engine.specs.Named.{SessionAt}
use Rattle.shared_engine.specs.Sessions.{Held, knowing, IsJournalOf}
use Rattle.session_calls.specs.Calls.{HasNone, IsKeptOut, IsOnSession, IsRefusedBefore}
use Rattle.session_calls.specs.declared.seat.Seat.{Seat}

-- what these units leave
abbrev pub start_map : Option (List JournalUnit) → Option Database
start_map None = None
start_map (Some base) = Some (left_by base initial).map

-- the database that is looked at: that of the transaction's start, or what all units leave that the session has then seen
abbrev pub moment_of : Bool → Held → Held → Option Database
moment_of true old new = start_map old.start
moment_of false old new = Some (left_by new.seen initial).map

-- the database of the moment was looked at, and the session has seen the present journal
pub record HasLooked (at_start : Bool) (Does : Database → Outcome → Type 0) (outcome : Outcome) (old new : Held) : Type 0 where
  pub shown : Database
  pub moment : moment_of at_start old new ≡ Some shown
  pub journal : IsJournalOf new.seen old
  pub same : new ≡ knowing new.seen old
  pub done : Does shown outcome

-- it was asked for the start of a transaction, and none is open
abbrev pub HasNoStart : Bool → Held → Type 0
HasNoStart at_start h = (at_start ≡ true) × (h.state.level ≡ 0)

-- the same of a seat's session: there is no start at which it could be looked
pub record IsClosed (at_start : Bool) (before after : Seat) (outcome : Outcome) : Type 0 where
  pub session : SessionAt
  pub there : before.session ≡ Some session
  pub closed : HasNoStart at_start session.held
  pub left : after ≡ before
  pub told : outcome ≡ Refused NoTransaction

-- the seat has a session, and what is asked for could be looked at, but others write: nothing has changed
pub record IsKeptOutAt (at_start : Bool) (before after : Seat) : Type 0 where
  pub session : SessionAt
  pub there : before.session ≡ Some session
  pub started : HasNoStart at_start session.held → ⊥
  pub left : after ≡ before

-- what is looked at: the database of the moment, and the session has seen the present journal; or the start was asked for and
-- no transaction is open, and nothing has changed
abbrev pub IsMoment : Bool → Held → Held → Result Database Outcome → Type 0
IsMoment at_start old new (Ok shown) = (moment_of at_start old new ≡ Some shown) × (IsJournalOf new.seen old × (new ≡ knowing new.seen old))
IsMoment at_start old new (Err why) = HasNoStart at_start old × ((why ≡ Refused NoTransaction) × (new ≡ old))

-- the same of a seat's session
abbrev pub IsSeen : Bool → Seat → Seat → Result Database Outcome → Type 0
IsSeen at_start before after (Ok shown) = IsOnSession before after (λ old new. IsMoment at_start old new (Ok shown)) × (after.last ≡ before.last)
IsSeen at_start before after (Err why) = IsClosed at_start before after why ⊎ HasNone before after why

-- the database of a moment was looked at; or there is none to look at, or others write: then nothing has changed, and this is left
abbrev pub IsLook : Bool → (Database → Outcome → Type 0) → Type 0 → Seat → Seat → Result Outcome Busy → Type 0
IsLook at_start Does Left before after (Ok outcome) =
    (IsOnSession before after (HasLooked at_start Does outcome) × (after.last ≡ before.last))
    ⊎ ((IsClosed at_start before after outcome ⊎ HasNone before after outcome) × Left)
IsLook at_start Does Left before after (Err busy) = IsKeptOutAt at_start before after × Left

-- what $ORDER answers from this subscript on, one level below a key, which may stand there, was copied at a moment; or the
-- subscript was refused before
abbrev pub IsOrderLook : Bool → Reference → List ℕ → Direction → List ℕ → List ℕ → ℕ → Seat → Seat → Result Outcome Busy → Type 0
IsOrderLook at_start level start direction old new wanted before after result =
    (IsLook at_start (λ m outcome. IsOrder (place_of (longer level start)) direction m outcome old new wanted) ((new ≡ old) × (wanted ≡ 0)) before after result
    × IsWithin (λ refusal. IsPlaceCause level start refusal))
    ⊎ ((outcome : Outcome) × (result ≡ Ok outcome) × IsRefusedBefore (IsPlaceCause level start) before after outcome × ((new ≡ old) × (wanted ≡ 0)))

-- the key moved to what $QUERY answers from it, or from the open place that may stand below it, at a moment; or that was
-- refused before
abbrev pub IsQueryLook : Bool → Reference → Bool → Direction → Reference → Seat → Seat → Result Outcome Busy → Type 0
IsQueryLook at_start old is_open direction new before after result =
    (IsLook at_start (λ m outcome. IsQuery (record { reference = old; is_open = is_open }) direction m old new outcome) (new ≡ old) before after result
    × IsWithin (λ refusal. IsQueryCause old is_open refusal))
    ⊎ ((outcome : Outcome) × (result ≡ Ok outcome) × IsRefusedBefore (IsQueryCause old is_open) before after outcome × (new ≡ old))

-- the next nodes of a walk within a root were copied at a moment, and the place moved from one reference to another
abbrev pub IsWalk : Bool → Option Reference → Option Reference → Option Reference → Seat → Seat → Result Outcome Busy → List ℕ → List ℕ → ℕ → Type 0
IsWalk at_start root place now before after result old new wanted =
    IsLook at_start (λ m outcome. IsWalked (nodes_left root place m) place now outcome old new wanted) ((new ≡ old) × ((wanted ≡ 0) × (now ≡ place))) before after result

-- the session has seen the present journal, which it holds for reading
abbrev pub HasHeld : Held → Held → Type 0
HasHeld old new = IsJournalOf new.seen old × (new ≡ knowing new.seen old)

-- the seat's session holds what all share; or there is none, or others write: then nothing has changed
abbrev pub IsHold : Seat → Seat → Result Outcome Busy → Type 0
IsHold before after (Ok outcome) = (IsOnSession before after HasHeld × (after.last ≡ before.last) × (outcome ≡ Done)) ⊎ HasNone before after outcome
IsHold before after (Err busy) = IsKeptOut before after

-- a hold was ended, which changes nothing that is seen; where there is no session it is told so
abbrev pub IsRelease : Seat → Seat → Result Outcome Busy → Type 0
IsRelease before after (Ok outcome) = (after ≡ before) × MatchOption before.session (outcome ≡ NoEngine) (λ session. outcome ≡ Done)
IsRelease before after (Err busy) = ⊥
