-- Where nothing but memory stands in a call's way.
use Rattle.std.proofs.Common.{◌≡◌, ◌⊎◌, ◌∙◌, ℕ, ◌≤◌, Bool, true, false, List, [], length, inl, inr, refl, subst, sym, arith}
use Rattle.std.proofs.lemmas.Option.{none-some}
use Rattle.std.specs.Prelude.{Option, None, Some}
use Rattle.refusal.specs.declared.Refusal.{Refusal}
use Rattle.refusal.specs.declared.Refusal.TheVariants.{OutOfMemory}
use Rattle.canonic_number.specs.Number.{is_canonic}
use Rattle.collation.specs.Limits.{most_jobs, most_value_bytes}
use Rattle.collation.specs.Name.{is_name}
use Rattle.key_codec.specs.Draft.{IsDueOrMemory}
use Rattle.command.specs.declared.request.Command.{Command}
use Rattle.embedded.specs.declared.outcome.Outcome.{Outcome}
use Rattle.embedded.specs.declared.engine.Embedded.{Embedded}
use Rattle.typed_calls.specs.Typed.{IsCauseBefore, IsJobCause, IsMemory, IsNameCause, IsNumberCause, IsRefusedCall, IsStep, IsTypedCall, IsValueCall, IsValueCause, IsWithin}

pub within_memory : IsWithin (λ refusal. IsMemory refusal)
within_memory = record { limits = λ refusal is. is }

pub within_job : (job : ℕ) → 1 ≤ job → job ≤ most_jobs → IsWithin (λ refusal. IsJobCause job refusal)
within_job job low high = record { limits = λ refusal cause. absurd (cause.0 low high) }

pub within_both : (IsOther : Refusal → Type 0) (job : ℕ) → IsWithin IsOther → IsWithin (λ refusal. IsJobCause job refusal) → IsWithin (λ refusal. IsCauseBefore IsOther job refusal)
within_both IsOther job other of_job = record { limits = at }
  where
    at : (refusal : Refusal) → IsCauseBefore IsOther job refusal → refusal ≡ OutOfMemory
    at refusal (inl cause) = other.limits refusal cause
    at refusal (inr cause) = of_job.limits refusal cause

pub within_due : (due : Option Refusal) → due ≡ None → IsWithin (λ refusal. IsDueOrMemory refusal due)
within_due due none = record { limits = at }
  where
    at : (refusal : Refusal) → IsDueOrMemory refusal due → refusal ≡ OutOfMemory
    at refusal (inl is) = is
    at refusal (inr is) = absurd (none-some refusal (sym none ∙ is))

pub within_value : (value : List ℕ) → length value ≤ most_value_bytes → IsWithin (λ refusal. IsValueCause value refusal)
within_value value fits = record { limits = at }
  where
    at : (refusal : Refusal) → IsValueCause value refusal → refusal ≡ OutOfMemory
    at refusal (inl is) = is
    at refusal (inr cause) = absurd (omega (arith, fits, cause.1))

pub within_number : (number : List ℕ) → is_canonic number ≡ true → length number ≤ most_value_bytes → IsWithin (λ refusal. IsNumberCause number refusal)
within_number number canonic fits = record { limits = at }
  where
    at : (refusal : Refusal) → IsNumberCause number refusal → refusal ≡ OutOfMemory
    at refusal (inl cause) = absurd (let clash : true ≡ false = sym canonic ∙ cause.1 in cc)
    at refusal (inr cause) = (within_value number fits).limits refusal cause.1

pub within_no_name : IsWithin (λ refusal. IsNameCause [] refusal)
within_no_name = record { limits = at }
  where
    at : (refusal : Refusal) → IsNameCause [] refusal → refusal ≡ OutOfMemory
    at refusal (inl is) = is
    at refusal (inr cause) = absurd (cause.1 refl)

pub within_name : (start : List ℕ) → is_name start ≡ true → IsWithin (λ refusal. IsNameCause start refusal)
within_name start named = record { limits = at }
  where
    at : (refusal : Refusal) → IsNameCause start refusal → refusal ≡ OutOfMemory
    at refusal (inl is) = is
    at refusal (inr cause) = absurd (let clash : true ≡ false = sym named ∙ cause.2 in cc)

refused_before : (IsOther : Refusal → Type 0) (job : ℕ) (before after : Embedded) (outcome : Outcome) → IsRefusedCall (λ refusal. IsJobCause job refusal) before after outcome
    → IsRefusedCall (λ refusal. IsCauseBefore IsOther job refusal) before after outcome
refused_before IsOther job before after outcome refused =
    record { refusal = refused.refusal; cause = inr refused.cause; kept = refused.kept; answered = refused.answered }

-- a call whose command was made within its limits
pub typed_within : (IsOther : Refusal → Type 0) (job : ℕ) (command asked : Command) (before after : Embedded) (outcome : Outcome) → command ≡ asked → IsWithin IsOther
    → IsTypedCall (λ refusal. IsJobCause job refusal) job command before after outcome → IsTypedCall (λ refusal. IsCauseBefore IsOther job refusal) job asked before after outcome
typed_within IsOther job command asked before after outcome is within (inl done) =
    inl (subst (λ (c : Command). IsStep job c before after) is done.0, done.1, within_both IsOther job within done.2)
typed_within IsOther job command asked before after outcome is within (inr refused) = inr (refused_before IsOther job before after outcome refused)

-- the same of one that copies a value
pub valued_within : (IsOther : Refusal → Type 0) (job : ℕ) (command asked : Command) (before after : Embedded) (outcome : Outcome) (old new : List ℕ) (wanted : ℕ) → command ≡ asked → IsWithin IsOther
    → IsValueCall (λ refusal. IsJobCause job refusal) job command before after outcome old new wanted → IsValueCall (λ refusal. IsCauseBefore IsOther job refusal) job asked before after outcome old new wanted
valued_within IsOther job command asked before after outcome old new wanted is within (inl done) =
    inl (subst (λ (c : Command). IsStep job c before after) is done.0, done.1, within_both IsOther job within done.2)
valued_within IsOther job command asked before after outcome old new wanted is within (inr left) =
    inr (record { refused = refused_before IsOther job before after outcome left.refused; left = left.left; told = left.told })
