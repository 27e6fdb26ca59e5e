-- A listing that was loaded, or wasn't.
use Rattle.std.proofs.Common.{◌≡◌, ◌∙◌, ℕ, List, inl, inr, refl, sym, ap, subst}
use Rattle.std.specs.Prelude.{Option, None, Some}
use Rattle.refusal.specs.declared.Refusal.{Refusal}
use Rattle.refusal.specs.declared.Refusal.TheVariants.{OutOfMemory}
use Rattle.loading.specs.declared.fault.LoadFault.TheVariants as faults
use Rattle.embedded.specs.Loads.{IsLoadedEngine, IsNoFaultTold, IsUnloaded}
use Rattle.embedded.specs.Outcomes.{outcome_number}
use Rattle.embedded.specs.declared.engine.Embedded.{Embedded}
use Rattle.embedded.specs.declared.outcome.Outcome.{Outcome}
use Rattle.embedded.specs.declared.outcome.Outcome.TheVariants.{Refused}
use Rattle.vorgushan_c.specs.Texts.{IsLoadCall, IsMadeOf, IsNotMadeOf, IsPut}

module _ (text : List ℕ) (old now : Option Embedded) (number : ℕ) (Left : Type 0) (line column : ℕ) (before after : List ℕ) (wanted : ℕ) where
  where_none : old ≡ None → IsLoadCall text None now number Left line column before after wanted → IsLoadCall text old now number Left line column before after wanted
  where_none was done = subst (λ (o : Option Embedded). IsLoadCall text o now number Left line column before after wanted) (sym was) done

  put : (made : Embedded) (outcome : Outcome) → IsLoadedEngine text made → IsNoFaultTold line column before after wanted → number ≡ outcome_number outcome → IsPut made now outcome
      → IsLoadCall text None now number Left line column before after wanted
  put made outcome loaded sound told (inl is) = inl (record { made = made; there = is.0; loaded = loaded; sound = sound; told = told ∙ ap outcome_number is.1 })
  put made outcome loaded sound told (inr is) =
      inr (record { refusal = OutOfMemory; none = is.0; cause = record { fault = faults.Memory; is_of = tt; told = (refl, sound) }; told = told ∙ ap outcome_number is.1 })

  -- an engine was made, and memory for it was had or not
  pub loaded : old ≡ None → (made : Embedded) (outcome : Outcome) → IsLoadedEngine text made → IsNoFaultTold line column before after wanted → number ≡ outcome_number outcome → IsPut made now outcome
      → IsLoadCall text old now number Left line column before after wanted
  loaded was made outcome engine sound told is = where_none was (put made outcome engine sound told is)

  -- none was made
  pub unloaded : old ≡ None → (refusal : Refusal) → now ≡ None → IsUnloaded text refusal line column before after wanted → number ≡ outcome_number (Refused refusal)
      → IsLoadCall text old now number Left line column before after wanted
  unloaded was refusal none cause told = where_none was (inr (record { refusal = refusal; none = none; cause = cause; told = told }))
