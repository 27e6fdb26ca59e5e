-- What exported calls do with the keys that they are given.
-- Read held_in, asked_keys, form_of, IsAllLocked.
use Rattle.std.specs.Prelude.{◌≡◌, ◌⊎◌, ℕ, ◌==◌, Bool, true, false, if◌then◌else◌, List, [], ◌∷◌, ◌++◌, map, Option, Some, None}
use Rattle.std.specs.Option.{MatchOption, option_map}
use Rattle.refusal.specs.declared.Refusal.TheVariants.{OutOfMemory}
use Rattle.collation.specs.Reference.{Reference, Resource}
use Rattle.embedded.specs.declared.engine.Embedded.{Embedded}
use Rattle.embedded.specs.declared.outcome.Outcome.{Outcome}
use Rattle.embedded.specs.declared.outcome.Outcome.TheVariants.{NoKey, Refused}
use Rattle.typed_calls.specs.Commands.{caret_name, lock_names_command}
use Rattle.typed_calls.specs.Typed.{IsJobCause, IsNumberCall}
use Rattle.typed_calls.specs.declared.commands.LockForm.{LockForm}
use Rattle.typed_calls.specs.declared.commands.LockForm.TheVariants.{Only, More, Fewer}
use Rattle.vorgushan_c.specs.declared.several.VgWholeKey.{VgWholeKey}

-- the references of keys, where they are there
abbrev pub held_in : List VgWholeKey → List (Option Reference)
held_in keys = map (λ k. k.key.inside) keys

-- the references, where all are there
abbrev pub all_there : List (Option Reference) → Option (List Reference)
all_there [] = Some []
all_there (None ∷ held) = None
all_there (Some r ∷ held) = option_map (λ rs. r ∷ rs) (all_there held)

-- the same of one key or more
abbrev pub asked_keys : List (Option Reference) → Option (List Reference)
asked_keys [] = None
asked_keys (h ∷ held) = all_there (h ∷ held)

-- the name of a key that is there stands behind the others
abbrev pub IsNameAdded : Option Reference → Bool → List Resource → List Resource → Type 0
IsNameAdded None is_there old new = (is_there ≡ false) × (new ≡ old)
IsNameAdded (Some r) is_there old new = (is_there ≡ true) × (new ≡ old ++ caret_name r ∷ [])

-- the names of these references
abbrev pub AreTheirs : Option (List Reference) → List Resource → Type 0
AreTheirs asked names = MatchOption asked ⊥ (λ references. names ≡ map caret_name references)

-- 0 is without a sign, 1 is +, and any other number -
abbrev pub form_of : ℕ → LockForm
form_of n = if n == 0 then Only else (if n == 1 then More else Fewer)

-- a LOCK of these references was done or refused; where there are none that is told; or memory was refused. Then nothing has changed
abbrev pub IsAllLocked : ℕ → LockForm → Option (List Reference) → Embedded → Embedded → Outcome → ℕ → ℕ → Type 0
IsAllLocked job form asked before after outcome had now =
    MatchOption asked ((after ≡ before) × (outcome ≡ NoKey) × (now ≡ had)) (λ references. IsNumberCall (λ refusal. IsJobCause job refusal) job (lock_names_command form references) before after outcome now)
    ⊎ ((after ≡ before) × (outcome ≡ Refused OutOfMemory) × (now ≡ 0))
