-- What an exported call does with the names that it is given for a session.
-- Read IsTry, then IsSeatLocked.
use Rattle.std.specs.Prelude.{◌≡◌, ◌⊎◌, ℕ, Bool, true, false, List, map, Option, Result, Ok}
use Rattle.std.specs.Option.{MatchOption}
use Rattle.refusal.specs.declared.Refusal.TheVariants.{OutOfMemory}
use Rattle.collation.specs.Reference.{Reference, Resource}
use Rattle.command.specs.declared.request.Command.TheVariants.{Lock}
use Rattle.embedded.specs.declared.outcome.Outcome.{Outcome}
use Rattle.embedded.specs.declared.outcome.Outcome.TheVariants.{NoKey, Refused}
use Rattle.typed_calls.specs.Commands.{caret_name, lock_of}
use Rattle.typed_calls.specs.Typed.{last_number, last_outcome}
use Rattle.typed_calls.specs.declared.commands.LockForm.{LockForm}
use Rattle.hub.specs.declared.hub.Busy.{Busy}
use Rattle.session_calls.specs.Calls.{IsAgain, IsCall, IsNoCause}
use Rattle.session_calls.specs.declared.seat.Seat.{Seat}

-- a LOCK of these names was tried: for the first time, or once more
abbrev pub IsTry : LockForm → Bool → List Resource → ℕ → Seat → Seat → Result Outcome Busy → Type 0
IsTry form false names had before after answered =
    IsCall IsNoCause (Lock (lock_of form names)) (λ last outcome. (outcome ≡ last_outcome last) × (had ≡ last_number last)) (had ≡ 0) before after answered
IsTry form true names had before after answered = IsAgain (lock_of form names) had before after answered

-- a LOCK of these references was tried; where there are none that is told; or memory was refused. Then nothing has changed
abbrev pub IsSeatLocked : LockForm → Bool → Option (List Reference) → ℕ → Seat → Seat → Result Outcome Busy → Type 0
IsSeatLocked form again asked had before after answered =
    MatchOption asked ((after ≡ before) × (answered ≡ Ok NoKey) × (had ≡ 0)) (λ references. IsTry form again (map caret_name references) had before after answered)
    ⊎ ((after ≡ before) × (answered ≡ Ok (Refused OutOfMemory)) × (had ≡ 0))
