-- What was seen of a session and looked at.
use Rattle.std.proofs.Common.{◌≡◌, ◌∙◌, ℕ, Bool, List, ap, inl, subst, sym}
use Rattle.std.specs.Prelude.{IfErr, IfOk, Option, Some, Result, Ok, Err}
use Rattle.std.specs.Result.{IsErrAnd}
use Rattle.collation.specs.Database.{Database}
use Rattle.collation.specs.Reference.{Reference, Spot}
use Rattle.collation.specs.declared.direction.Direction.{Direction}
use Rattle.command.specs.declared.request.Command.{Command}
use Rattle.embedded.specs.Looks.{IsOrder, IsQuery}
use Rattle.embedded.specs.declared.outcome.Outcome.{Outcome}
use Rattle.hub.specs.declared.hub.Busy.{Busy}
use Rattle.key_codec.specs.Draft.{longer, place_of}
use Rattle.shared_engine.specs.Named.{SessionAt}
use Rattle.typed_calls.specs.Typed.{IsPlaceCause, IsQueryCause, IsWithin}
use Rattle.session_calls.specs.Calls.{IsWaiting, IsStepOrNone}
use Rattle.session_calls.specs.Looks.{IsLook, IsOrderLook, IsQueryLook, IsSeen}
use Rattle.session_calls.specs.declared.seat.Seat.{Seat}

-- what holds where a result is this
pub if_ok : {A E : Type 0} (P : A → Type 0) (r : Result A E) (a : A) → r ≡ Ok a → IfOk r P → P a
if_ok {A} {E} P r a is h = subst (λ (x : Result A E). IfOk x P) is h

pub if_err : {A E : Type 0} (P : E → Type 0) (r : Result A E) (e : E) → r ≡ Err e → IfErr r P → P e
if_err {A} {E} P r e is h = subst (λ (x : Result A E). IfErr x P) is h

-- a session of the same table that has the same is the same
pub same_session : (a b : SessionAt) → a.table ≡ b.table → a.held ≡ b.held → a ≡ b
same_session a b table held = λ i. record { table = table i; held = held i }

-- a seat whose session is as it was is as it was
pub same_seat : (before : Seat) (old new : SessionAt) → before.session ≡ Some old → new ≡ old → record { hub = before.hub; session = Some new; last = before.last } ≡ before
same_seat before old new was same = ap (λ (s : Option SessionAt). record { hub = before.hub; session = s; last = before.last }) (ap Some same ∙ sym was)

-- what was seen was looked at
pub looked : (at_start : Bool) (Does : Database → Outcome → Type 0) (Left : Type 0) (before after : Seat) (found : Result Database Outcome) (shown : Database) (outcome : Outcome)
    → found ≡ Ok shown → IsSeen at_start before after found → Does shown outcome → IsLook at_start Does Left before after (Ok outcome)
looked at_start Does Left before after found shown outcome is seen done =
    let s : IsSeen at_start before after (Ok shown) = subst (IsSeen at_start before after) is seen in
    inl (record { old = s.0.old; new = s.0.new; was = s.0.was; is = s.0.is; table = s.0.table; hub = s.0.hub; done = record { shown = shown; moment = s.0.done.0; journal = s.0.done.1.0; same = s.0.done.1.1; done = done } }, s.1)

-- the same of a place
pub order_looked : (at_start : Bool) (level : Reference) (start : List ℕ) (direction : Direction) (old new : List ℕ) (wanted : ℕ) (before after : Seat) (result : Result Outcome Busy) (place : Spot) → place ≡ place_of (longer level start)
    → IsWithin (λ refusal. IsPlaceCause level start refusal) → IsLook at_start (λ m outcome. IsOrder place direction m outcome old new wanted) ((new ≡ old) × (wanted ≡ 0)) before after result → IsOrderLook at_start level start direction old new wanted before after result
order_looked at_start level start direction old new wanted before after result place is within h =
    inl (subst (λ (p : Spot). IsLook at_start (λ m outcome. IsOrder p direction m outcome old new wanted) ((new ≡ old) × (wanted ≡ 0)) before after result) is h, within)

pub query_looked : (at_start : Bool) (old new : Reference) (is_open : Bool) (direction : Direction) (before after : Seat) (result : Result Outcome Busy) (place : Spot) → place ≡ record { reference = old; is_open = is_open }
    → IsWithin (λ refusal. IsQueryCause old is_open refusal) → IsLook at_start (λ m outcome. IsQuery place direction m old new outcome) (new ≡ old) before after result → IsQueryLook at_start old is_open direction new before after result
query_looked at_start old new is_open direction before after result place is within h =
    inl (subst (λ (p : Spot). IsLook at_start (λ m outcome. IsQuery p direction m old new outcome) (new ≡ old) before after result) is h, within)

-- others are at what a command needs
pub left_waiting : (command : Command) (before after : Seat) (r : Result Bool Busy) (busy : Busy) → IsErrAnd r (λ e. e ≡ busy) → IsWaiting command before after → IsStepOrNone command before after r
left_waiting command before after (Ok b) busy is waiting = absurd is
left_waiting command before after (Err e) busy is waiting = waiting
