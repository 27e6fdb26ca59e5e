-- What a call on a session that is there did.
use Rattle.std.proofs.Common.{◌≡◌, ◌∙◌, ℕ, Bool, List, inl, inr, sym, subst}
use Rattle.std.specs.Prelude.{◌⊎◌, Option, None, Some, Result, Ok, Err}
use Rattle.refusal.specs.declared.Refusal.{Refusal}
use Rattle.collation.specs.Reference.{Reference}
use Rattle.embedded.specs.Outcomes.{outcome_number}
use Rattle.embedded.specs.declared.outcome.Outcome.{Outcome}
use Rattle.embedded.specs.declared.outcome.Outcome.TheVariants.{Done}
use Rattle.hub.specs.declared.hub.Busy.{Busy}
use Rattle.shared_engine.specs.Named.{PassAt}
use Rattle.session_calls.specs.Calls.{IsBegun}
use Rattle.session_calls.specs.Endings.{IsHalt}
use Rattle.session_calls.specs.Looks.{IsWalk}
use Rattle.session_calls.specs.declared.seat.Seat.{Seat}
use Rattle.vorgushan_c.specs.Sessions.{IsBegunAt, IsHaltCall, IsHubMade, IsNotBegun, IsOpenCall, IsSeatCalled, IsSeatKeyCalled, IsSeatKeysCalled, IsSeatPut, told_number}

pub seat_called : (old now : Option Seat) (number : ℕ) (Left : Type 0) (Does : Seat → Seat → Result Outcome Busy → Type 0) (before after : Seat) (answered : Result Outcome Busy)
    → old ≡ Some before → now ≡ Some after → number ≡ told_number answered → Does before after answered → IsSeatCalled old now number Left Does
seat_called old now number Left Does before after answered was is told done =
    subst (λ (o : Option Seat). IsSeatCalled o now number Left Does) (sym was) (record { after = after; answered = answered; there = is; told = told; done = done })

-- the same of a call on a session and a key that are there
pub seat_key_called : (old now : Option Seat) (key : Option Reference) (number : ℕ) (Left : Type 0) (Does : Reference → Seat → Seat → Result Outcome Busy → Type 0) (before after : Seat) (r : Reference) (answered : Result Outcome Busy)
    → old ≡ Some before → key ≡ Some r → now ≡ Some after → number ≡ told_number answered → Does r before after answered → IsSeatKeyCalled old now key number Left Does
seat_key_called old now key number Left Does before after r answered was at is told done =
    subst (λ (o : Option Seat). IsSeatKeyCalled o now key number Left Does) (sym was)
    (subst (λ (k : Option Reference). IsSeatKeyCalled (Some before) now k number Left Does) (sym at) (record { after = after; answered = answered; there = is; told = told; done = done }))

-- and of one on two keys
pub seat_keys_called : (old now : Option Seat) (key other : Option Reference) (number : ℕ) (Does : Reference → Reference → Seat → Seat → Result Outcome Busy → Type 0) (before after : Seat) (r x : Reference) (answered : Result Outcome Busy)
    → old ≡ Some before → key ≡ Some r → other ≡ Some x → now ≡ Some after → number ≡ told_number answered → Does r x before after answered → IsSeatKeysCalled old now key other number Does
seat_keys_called old now key other number Does before after r x answered was at from is told done =
    subst (λ (o : Option Seat). IsSeatKeysCalled o now key other number Does) (sym was)
    (subst (λ (k : Option Reference). IsSeatKeysCalled (Some before) now k other number Does) (sym at)
    (subst (λ (k : Option Reference). IsSeatKeysCalled (Some before) now (Some r) k number Does) (sym from) (record { after = after; answered = answered; there = is; told = told; done = done })))

-- a database without a session was made where none was, or memory was refused for it
pub hub_made : (old now : Option Seat) (number : ℕ) (made : Seat) → old ≡ None → made.session ≡ None → IsSeatPut made now number → IsHubMade old now number
hub_made old now number made was none put = subst (λ (o : Option Seat). IsHubMade o now number) (sym was) (at put)
  where
    at : IsSeatPut made now number → IsHubMade None now number
    at (inl is) = inl (record { made = made; there = is.0; session = none; told = is.1 })
    at (inr is) = inr is

-- what came of a session in a seat of the same database
pub open_come : (job : ℕ) (hub old now : Option Seat) (number : ℕ) (there made : Seat) → hub ≡ Some there → old ≡ None → made.hub.value ≡ there.hub.value → IsBegunAt job made now number ⊎ IsNotBegun job now number → IsOpenCall job hub old now number
open_come job hub old now number there made has was same come =
    subst (λ (h : Option Seat). IsOpenCall job h old now number) (sym has) (subst (λ (o : Option Seat). IsOpenCall job (Some there) o now number) (sym was) (at come))
  where
    at : IsBegunAt job made now number ⊎ IsNotBegun job now number → IsBegunAt job there now number ⊎ IsNotBegun job now number
    at (inl is) = inl (record { seat = is.seat; there = is.there; same = is.same ∙ same; opened = is.opened; told = is.told })
    at (inr is) = inr is

-- a session was begun in a seat, which was put where none was
pub begun_put : (job : ℕ) (mine before after : Seat) (done : Result (Unit {0}) Refusal) (u : Unit {0}) (now : Option Seat) (number : ℕ) → before ≡ mine → done ≡ Ok u → IsBegun job before after (Ok done) → now ≡ Some after
    → number ≡ outcome_number Done → IsBegunAt job mine now number ⊎ IsNotBegun job now number
begun_put job mine before after done u now number was is begun there told =
    let b : IsBegun job before after (Ok (Ok u)) = subst (λ (d : Result (Unit {0}) Refusal). IsBegun job before after (Ok d)) is begun in
    inl (record { seat = after; there = there; same = (λ i. (b.0 i).value) ∙ (λ i. (was i).hub.value); opened = b.1; told = told })

-- a session is over, or goes on
pub halt_over : (old now : Option Seat) (number : ℕ) (before after : Seat) (done : Result PassAt Outcome) (pass : PassAt) → done ≡ Ok pass → old ≡ Some before → IsHalt before after (Ok done) → now ≡ None → number ≡ outcome_number Done
    → IsHaltCall old now number
halt_over old now number before after done pass it was over is told =
    let o : IsHalt before after (Ok (Ok pass)) = subst (λ (d : Result PassAt Outcome). IsHalt before after (Ok d)) it over in
    subst (λ (o : Option Seat). IsHaltCall o now number) (sym was) (inl ((pass, after, o), is, told))

pub halt_not : (old now : Option Seat) (number : ℕ) (before after : Seat) (done : Result PassAt Outcome) (outcome : Outcome) → done ≡ Err outcome → old ≡ Some before → IsHalt before after (Ok done) → now ≡ Some after
    → number ≡ outcome_number outcome → IsHaltCall old now number
halt_not old now number before after done outcome it was not_over is told =
    let n : IsHalt before after (Ok (Err outcome)) = subst (λ (d : Result PassAt Outcome). IsHalt before after (Ok d)) it not_over in
    subst (λ (o : Option Seat). IsHaltCall o now number) (sym was) (inr (inl (after, outcome, is, told, n)))

-- a walk within a root, from a place to another, by what these are
pub same_walk : (at_start : Bool) (root place now root' place' now' : Option Reference) (before after : Seat) (answered : Result Outcome Busy) (old new : List ℕ) (wanted : ℕ) → root' ≡ root → place' ≡ place → now' ≡ now
    → IsWalk at_start root' place' now' before after answered old new wanted → IsWalk at_start root place now before after answered old new wanted
same_walk at_start root place now root' place' now' before after answered old new wanted a b c h =
    subst (λ r. IsWalk at_start r place now before after answered old new wanted) a (subst (λ p. IsWalk at_start root' p now before after answered old new wanted) b (subst (λ n. IsWalk at_start root' place' n before after answered old new wanted) c h))
