-- What a store that may hold old keys is seen as.
use Rattle.std.specs.Prelude.{Bool, true, false, refl}
use Rattle.std.specs.Coded.{Coded, code_by, coded×, coded_bool}
use Rattle.version_store.specs.Versions.{Stored, stored_code}
use Rattle.version_store.specs.declared.kept.Kept.{Kept}
use Rattle.version_store.specs.declared.kept.Kept.TheVariants.{Keyed, Short}

-- whether its keys are old ones, and what it holds
pub record HeldStore : Type 0 where
  pub is_short : Bool
  pub stored : Stored

abbrev pub held_code : Coded HeldStore
held_code = code_by (Bool × Stored) (coded× coded_bool stored_code) (λ h. (h.is_short, h.stored)) (λ p. record { is_short = p.0; stored = p.1 }) (λ _. refl)

abbrev pub held_in : Kept → HeldStore
held_in (Keyed store) = record { is_short = false; stored = store }
held_in (Short store) = record { is_short = true; stored = store }
