-- Which refusal is due.
use Rattle.std.proofs.Common.{◌≡◌, Option, Ok, ap, ◌∙◌}
use Rattle.std.specs.Option.{option_or}
use Rattle.refusal.specs.declared.Refusal.{Refusal}
use Rattle.m_text.specs.Reading.{IsDue}
use Rattle.m_text.specs.Place.{unless}
use Rattle.m_text.specs.laws.Faults.{due_too, unless_err, unless_ok}

-- the same fault in place of something else
pub due_other : {A B : Type 0} → (refusal : Refusal) (fault : Option Refusal) (x : A) (w : B) → IsDue refusal (unless fault x) → IsDue refusal (unless fault w)
due_other {A} {B} refusal fault x w h = due_too refusal (unless fault x) (unless fault w) (λ e. ap (λ (f : Option Refusal). unless {A = B} f w) (unless_err fault x refusal e)) h

-- the first thing has a fault
pub due_first : {A B : Type 0} → (refusal : Refusal) (first second : Option Refusal) (x : A) (w : B) → IsDue refusal (unless first x) → IsDue refusal (unless (option_or first second) w)
due_first {A} {B} refusal first second x w h =
    due_too refusal (unless first x) (unless (option_or first second) w)
    (λ e. ap (λ (f : Option Refusal). unless {A = B} (option_or f second) w) (unless_err first x refusal e)) h

-- the first thing has no fault, and the second has one
pub due_second : {A B C : Type 0} → (refusal : Refusal) (first second : Option Refusal) (x y : A) (z : B) (w : C) → unless first x ≡ Ok y → IsDue refusal (unless second z) → IsDue refusal (unless (option_or first second) w)
due_second {A} {B} {C} refusal first second x y z w good h =
    due_too refusal (unless second z) (unless (option_or first second) w)
    (λ e. ap (λ (f : Option Refusal). unless {A = C} (option_or f second) w) (unless_ok first x y good).0 ∙ ap (λ (f : Option Refusal). unless {A = C} f w) (unless_err second z refusal e)) h
