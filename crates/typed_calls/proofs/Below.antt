-- The fault of a reference, and of a place, with one subscript more.
use Rattle.std.proofs.Common.{◌≡◌, ℕ, ◌+◌, ◌-◌, ◌^◌, ◌≤◌, ◌<◌, min, Bool, true, false, List, [], ◌∷◌, ◌++◌, length, length-append, sym, ap, ◌∙◌, refl, arith}
use Rattle.std.proofs.Math.Nat.{min-eq_left}
use Rattle.std.proofs.lemmas.Bool.Decides.{nat_tests}
use Rattle.std.specs.Option.{option_or}
use Rattle.std.specs.Prelude.{Option, None, Some, ◌==◌, cond, nat_lt}
use Rattle.refusal.specs.declared.Refusal.{Refusal}
use Rattle.refusal.specs.declared.Refusal.TheVariants.{BadName, TooManySubscripts}
use Rattle.collation.specs.Faults.{subscripts_fault, reference_fault, place_fault, ends_open, closed_part}
use Rattle.collation.specs.Limits.{most_subscripts}
use Rattle.collation.specs.Name.{is_name}
use Rattle.collation.specs.Reference.{Reference}
use Rattle.key_codec.specs.Draft.{longer, place_due, place_of, reference_due}
use Rattle.key_codec.specs.Key.{IsFaultless}
use Rattle.key_codec.specs.laws.Draft.{closed_part-more, closed_part-whole, ends_open-more, fault-more}
use Rattle.key_codec.specs.laws.Key.{not_over, not_too_many}
use Rattle.typed_calls.specs.Commands.{below_fault}
use Rattle.typed_calls.specs.Typed.{IsPlaceCause, IsWithin}
use Rattle.typed_calls.proofs.Within.{within_due}

-- a faultless reference has so few subscripts that their count is exact
depth_is : (ss : List (List ℕ)) (depth : ℕ) → reference_fault ss ≡ None → depth ≡ min (length ss) (2 ^ 64 - 1) → depth ≡ length ss
depth_is ss depth e is =
    let few : nat_lt most_subscripts (length ss) ≡ false = (not_over (nat_lt most_subscripts (length ss)) _ e).0 in
    let low : length ss ≤ 2 ^ 64 - 1 = grind (arith, nat_tests, few) in
    is ∙ min-eq_left low

pub fault_is : (ss : List (List ℕ)) (s : List ℕ) → reference_fault ss ≡ None → reference_fault (ss ++ s ∷ []) ≡ below_fault (length ss) s
fault_is ss s e =
    ap (λ (n : ℕ). cond (nat_lt most_subscripts n) (Some TooManySubscripts) (subscripts_fault (ss ++ s ∷ []))) (length-append ss (s ∷ []))
    ∙ ap (λ (f : Option Refusal). cond (nat_lt most_subscripts (length ss + 1)) (Some TooManySubscripts) f)
    (fault-more ss s ∙ ap (λ (f : Option Refusal). option_or f (subscripts_fault (s ∷ []))) (not_too_many ss e))

pub due_is : (r : Reference) (s : List ℕ) (depth : ℕ) → IsFaultless r → depth ≡ min (length r.subscripts) (2 ^ 64 - 1) → reference_due (longer r s) ≡ below_fault depth s
due_is r s depth form is =
    ap (λ (b : Bool). cond b (reference_fault (r.subscripts ++ s ∷ [])) (Some BadName)) form.name
    ∙ fault_is r.subscripts s form.subscripts ∙ ap (λ (n : ℕ). below_fault n s) (sym (depth_is r.subscripts depth form.subscripts is))

pub longer_faultless : (r : Reference) (s : List ℕ) (depth : ℕ) → IsFaultless r → depth ≡ min (length r.subscripts) (2 ^ 64 - 1) → below_fault depth s ≡ None → IsFaultless (longer r s)
longer_faultless r s depth form is none = record {
  name = form.name;
  subscripts = fault_is r.subscripts s form.subscripts ∙ ap (λ (n : ℕ). below_fault n s) (sym (depth_is r.subscripts depth form.subscripts is)) ∙ none;
}

twice : (b : Bool) (o : Option Refusal) → cond b (Some TooManySubscripts) (cond b (Some TooManySubscripts) o) ≡ cond b (Some TooManySubscripts) o
twice true o = refl
twice false o = refl

-- an empty subscript opens the place
pub open_place : (r : Reference) → place_of (longer r []) ≡ record { reference = r; is_open = true }
open_place r =
    ap (λ (ss : List (List ℕ)). record { reference = record { name = r.name; subscripts = ss }; is_open = ends_open (r.subscripts ++ [] ∷ []) }) (closed_part-more r.subscripts [])
    ∙ ap (λ (b : Bool). record { reference = r; is_open = b }) (ends_open-more r.subscripts [])

pub empty : (s : List ℕ) → (length s == 0) ≡ true → s ≡ []
empty [] e = refl
empty (b ∷ bs) e = absurd (let none : length (b ∷ bs) ≡ 0 = grind (arith, nat_tests, e) in omega (arith, none))

-- any other is the last of a closed one
pub closed_place : (r : Reference) (s : List ℕ) → (length s == 0) ≡ false → place_of (longer r s) ≡ record { reference = longer r s; is_open = false }
closed_place r s e =
    ap (λ (ss : List (List ℕ)). record { reference = record { name = r.name; subscripts = ss }; is_open = ends_open (r.subscripts ++ s ∷ []) })
    (closed_part-more r.subscripts s ∙ ap (λ (b : Bool). cond b r.subscripts (r.subscripts ++ s ∷ [])) e)
    ∙ ap (λ (b : Bool). record { reference = longer r s; is_open = b }) (ends_open-more r.subscripts s ∙ e)

-- a place that isn't open is refused as its reference is
pub closed_due : (r : Reference) (s : List ℕ) → (length s == 0) ≡ false → place_due (longer r s) ≡ reference_due (longer r s)
closed_due r s e =
    let ss : List (List ℕ) = r.subscripts ++ s ∷ [] in
    let whole : closed_part ss ≡ ss = closed_part-whole ss (ends_open-more r.subscripts s ∙ e) in
    ap (λ (f : Option Refusal). cond (is_name r.name) f (Some BadName))
    (ap (λ (xs : List (List ℕ)). cond (nat_lt most_subscripts (length ss)) (Some TooManySubscripts) (reference_fault xs)) whole ∙ twice (nat_lt most_subscripts (length ss)) (subscripts_fault ss))

-- an open place below a faultless reference is refused where it would be too deep
pub open_due : (r : Reference) (depth : ℕ) → IsFaultless r → depth ≡ min (length r.subscripts) (2 ^ 64 - 1) → nat_lt most_subscripts (depth + 1) ≡ true → place_due (longer r []) ≡ Some TooManySubscripts
open_due r depth form is deep =
    let same : depth ≡ length r.subscripts = depth_is r.subscripts depth form.subscripts is in
    ap (λ (b : Bool). cond b (place_fault (r.subscripts ++ [] ∷ [])) (Some BadName)) form.name
    ∙ ap (λ (b : Bool). cond b (Some TooManySubscripts) (reference_fault (closed_part (r.subscripts ++ [] ∷ []))))
    (ap (nat_lt most_subscripts) (length-append r.subscripts ([] ∷ []) ∙ ap (λ (n : ℕ). n + 1) (sym same)) ∙ deep)

-- one that wouldn't be is within its limits
pub open_within : (r : Reference) (depth : ℕ) → IsFaultless r → depth ≡ min (length r.subscripts) (2 ^ 64 - 1) → depth < most_subscripts → IsWithin (λ refusal. IsPlaceCause r [] refusal)
open_within r depth form is low =
    let few : nat_lt most_subscripts (depth + 1) ≡ false = grind (arith, nat_tests, low) in
    let same : depth ≡ length r.subscripts = depth_is r.subscripts depth form.subscripts is in
    within_due (place_due (longer r []))
    (ap (λ (b : Bool). cond b (place_fault (r.subscripts ++ [] ∷ [])) (Some BadName)) form.name
    ∙ ap (λ (b : Bool). cond b (Some TooManySubscripts) (reference_fault (closed_part (r.subscripts ++ [] ∷ []))))
    (ap (nat_lt most_subscripts) (length-append r.subscripts ([] ∷ []) ∙ ap (λ (n : ℕ). n + 1) (sym same)) ∙ few)
    ∙ ap reference_fault (closed_part-more r.subscripts []) ∙ form.subscripts)

pub closed_within : (r : Reference) (s : List ℕ) → (length s == 0) ≡ false → reference_due (longer r s) ≡ None → IsWithin (λ refusal. IsPlaceCause r s refusal)
closed_within r s e none = within_due (place_due (longer r s)) (closed_due r s e ∙ none)
