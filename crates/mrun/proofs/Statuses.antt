-- The exit status behind what is kept.
use Rattle.std.proofs.Common.{◌≡◌, ◌⊎◌, ℕ, true, inl, inr, ◌∙◌}
use Rattle.std.specs.Prelude.{OnOk, OnErr, IfOk, IfSome, Option, None, Some, Result, Ok, Err}
use Rattle.script_run.specs.declared.outcome.Outcome.{Outcome}
use Rattle.script_run.specs.declared.fault.Fault.{Fault}

-- a fault's status stays
pub fault_stays : (outcome : Result Outcome Fault) (status last fault : ℕ) → OnErr outcome (status ≡ fault) → (status ≡ fault → last ≡ fault) → OnErr outcome (last ≡ fault)
fault_stays (Ok o) status last fault is stays = tt
fault_stays (Err e) status last fault is stays = stays is

-- that of a refusal stays, or a fault's is in its place
pub refused_stays : (outcome : Result Outcome Fault) (status last fault : ℕ) → IfOk outcome (λ o. o.refused ≡ true → status ≡ 1) → (last ≡ status) ⊎ (last ≡ fault) → IfOk outcome (λ o. o.refused ≡ true → (last ≡ 1) ⊎ (last ≡ fault))
refused_stays (Ok o) status last fault is (inl same) = λ refused. inl (same ∙ is refused)
refused_stays (Ok o) status last fault is (inr at_fault) = λ refused. inr at_fault
refused_stays (Err e) status last fault is stays = tt

-- what holds whatever is kept
pub whatever_kept : {A E P : Type 0} (kept : Option (Result A E)) → P → IfSome kept (λ drafts. OnOk drafts P)
whatever_kept None p = tt
whatever_kept (Some (Ok a)) p = p
whatever_kept (Some (Err e)) p = tt
