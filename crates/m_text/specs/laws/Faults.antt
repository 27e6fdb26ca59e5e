-- Which refusal is due, and that it is due to another thing too.
use Rattle.std.proofs.Common.{◌≡◌, inl, inr, ℕ, ◌+◌, Bool, true, false, cond, suc, List, [], ◌∷◌, length, Option, Some, None, Result, Ok, Err, refl, sym, ap, ◌∙◌, subst, arith}
use Rattle.std.specs.Prelude.{nat_lt, ◌==◌, IfOk, IfErr}
use Rattle.std.specs.Option.{option_or}
use Rattle.refusal.specs.declared.Refusal.{Refusal}
use Rattle.refusal.specs.declared.Refusal.TheVariants.{OutOfMemory, BadName, TooManySubscripts}
use Rattle.collation.specs.Limits.{most_subscripts}
use Rattle.collation.specs.Reference.{Reference, Spot}
use Rattle.collation.specs.Name.{is_name}
use Rattle.collation.specs.Faults.{reference_fault, place_fault, ends_open, closed_part}
use Rattle.key_codec.specs.Draft.{IsDueOrMemory, reference_due, place_due}
use Rattle.m_text.specs.Reading.{IsDue, Answers}
use Rattle.m_text.specs.Place.{name_fault, ref_fault, spot_fault, spot_of, unless}

-- what is due to one is due to all that is refused where it is
pub due_too : {Y Z : Type 0} → (refusal : Refusal) (a : Result Y Refusal) (b : Result Z Refusal) → (a ≡ Err refusal → b ≡ Err refusal) → IsDue refusal a → IsDue refusal b
due_too OutOfMemory a b f h = tt
due_too refusal a b f h = f h

-- what is refused has that fault
pub unless_err : {A : Type 0} → (fault : Option Refusal) (x : A) (refusal : Refusal) → unless fault x ≡ Err refusal → fault ≡ Some refusal
unless_err None x refusal e = absurd cc
unless_err (Some f) x refusal e = cc

-- what isn't refused has no fault
pub unless_ok : {A : Type 0} → (fault : Option Refusal) (x y : A) → unless fault x ≡ Ok y → (fault ≡ None) × (x ≡ y)
unless_ok None x y e = (refl, cc)
unless_ok (Some f) x y e = absurd cc

pub due_from : {Y : Type 0} → (refusal : Refusal) (read : Result Y Refusal) → read ≡ Err refusal → IsDue refusal read
due_from OutOfMemory read h = tt
due_from refusal read h = h

-- an empty last subscript is left out, and counted
count_of : (ss : List (List ℕ)) → length ss ≡ cond (ends_open ss) (length (closed_part ss) + 1) (length (closed_part ss))
count_of [] = refl
count_of (s ∷ []) = one (length s == 0) refl
  where
    one : (t : Bool) → (length s == 0) ≡ t → 1 ≡ cond t (length (cond t [] (s ∷ [])) + 1) (length (cond t [] (s ∷ [])))
    one true e = refl
    one false e = refl
count_of (s ∷ t ∷ ss) = more (ends_open (t ∷ ss)) (length (closed_part (t ∷ ss))) (count_of (t ∷ ss))
  where
    more : (o : Bool) (n : ℕ) → length (t ∷ ss) ≡ cond o (n + 1) n → suc (length (t ∷ ss)) ≡ cond o (suc n + 1) (suc n)
    more true n e = omega arith
    more false n e = omega arith

-- the fault of the subscripts of a place is that of the place
place_fault_is : (ss : List (List ℕ)) → place_fault ss ≡ cond (nat_lt most_subscripts (cond (ends_open ss) (length (closed_part ss) + 1) (length (closed_part ss)))) (Some TooManySubscripts) (reference_fault (closed_part ss))
place_fault_is ss = ap (λ n. cond (nat_lt most_subscripts n) (Some TooManySubscripts) (reference_fault (closed_part ss))) (count_of ss)

-- the faults that a draft tells are those of the reference and of the place
pub ref_due : (r : Reference) → ref_fault r ≡ reference_due r
ref_due r = at (is_name r.name)
  where
    at : (t : Bool) → option_or (cond t None (Some BadName)) (reference_fault r.subscripts) ≡ cond t (reference_fault r.subscripts) (Some BadName)
    at true = refl
    at false = refl

pub spot_due : (r : Reference) → spot_fault (spot_of r) ≡ place_due r
spot_due r = ap (option_or (name_fault r.name)) (sym (place_fault_is r.subscripts)) ∙ at (is_name r.name)
  where
    at : (t : Bool) → option_or (cond t None (Some BadName)) (place_fault r.subscripts) ≡ cond t (place_fault r.subscripts) (Some BadName)
    at true = refl
    at false = refl

pub due_or_memory : {A : Type 0} (refusal : Refusal) (due : Option Refusal) (x : A) (all : Result A Refusal) → all ≡ unless due x → IsDueOrMemory refusal due → IsDue refusal all
due_or_memory {A} refusal due x all e (inl m) = subst (λ f. IsDue f all) (sym m) tt
due_or_memory {A} refusal due x all e (inr d) = due_from refusal all (e ∙ ap (λ f. unless {A = A} f x) d)

-- a draft's place, or the fault that it tells
pub place_answers : (r : Reference) (place : Result Spot Refusal) → IfOk place (λ p. (place_due r ≡ None) × (p ≡ spot_of r)) → IfErr place (λ refusal. IsDueOrMemory refusal (place_due r)) →
    Answers (λ p. p) place (unless (spot_fault (spot_of r)) (spot_of r))
place_answers r (Ok p) h g = ap (λ (f : Option Refusal). unless {A = Spot} f (spot_of r)) (spot_due r ∙ h.0) ∙ ap (λ (q : Spot). Ok q) (sym h.1)
place_answers r (Err refusal) h g = due_or_memory refusal (place_due r) (spot_of r) (unless (spot_fault (spot_of r)) (spot_of r)) (ap (λ (f : Option Refusal). unless {A = Spot} f (spot_of r)) (spot_due r)) g
