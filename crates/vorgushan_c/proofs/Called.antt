-- What a call on an engine that is there did.
use Rattle.std.proofs.Common.{◌≡◌, ◌∙◌, ℕ, List, inl, sym, subst}
use Rattle.std.specs.Option.{MatchOption, option_map}
use Rattle.std.specs.Prelude.{Option, None, Some}
use Rattle.collation.specs.Reference.{Reference}
use Rattle.embedded.specs.Looks.{IsWalkCall}
use Rattle.embedded.specs.Outcomes.{outcome_number}
use Rattle.embedded.specs.declared.engine.Embedded.{Embedded}
use Rattle.embedded.specs.declared.outcome.Outcome.{Outcome}
use Rattle.journal.specs.Story.{nothing_done}
use Rattle.embedded.specs.declared.outcome.Outcome.TheVariants.{Done}
use Rattle.journal_lines.specs.Places.{placed_at}
use Rattle.vorgushan_c.specs.Exports.{IsCalled, IsMade}
use Rattle.vorgushan_c.specs.Keys.{IsKeyCalled, IsKeysCalled}

pub called : (old now : Option Embedded) (number : ℕ) (Left : Type 0) (Does : Embedded → Embedded → Outcome → Type 0) (before after : Embedded) (outcome : Outcome)
    → old ≡ Some before → now ≡ Some after → number ≡ outcome_number outcome → Does before after outcome → IsCalled old now number Left Does
called old now number Left Does before after outcome was is told done =
    subst (λ (o : Option Embedded). IsCalled o now number Left Does) (sym was) (record { after = after; outcome = outcome; there = is; told = told; done = done })

-- the same of a call on an engine and a key that are there
pub key_called : (old now : Option Embedded) (key : Option Reference) (number : ℕ) (Left : Type 0) (Does : Reference → Embedded → Embedded → Outcome → Type 0) (before after : Embedded) (r : Reference) (outcome : Outcome)
    → old ≡ Some before → key ≡ Some r → now ≡ Some after → number ≡ outcome_number outcome → Does r before after outcome → IsKeyCalled old now key number Left Does
key_called old now key number Left Does before after r outcome was at is told done =
    subst (λ (o : Option Embedded). IsKeyCalled o now key number Left Does) (sym was)
    (subst (λ (k : Option Reference). IsKeyCalled (Some before) now k number Left Does) (sym at) (record { after = after; outcome = outcome; there = is; told = told; done = done }))

-- and of one on two keys
pub keys_called : (old now : Option Embedded) (key other : Option Reference) (number : ℕ) (Does : Reference → Reference → Embedded → Embedded → Outcome → Type 0) (before after : Embedded) (r x : Reference) (outcome : Outcome)
    → old ≡ Some before → key ≡ Some r → other ≡ Some x → now ≡ Some after → number ≡ outcome_number outcome → Does r x before after outcome → IsKeysCalled old now key other number Does
keys_called old now key other number Does before after r x outcome was at from is told done =
    subst (λ (o : Option Embedded). IsKeysCalled o now key other number Does) (sym was)
    (subst (λ (k : Option Reference). IsKeysCalled (Some before) now k other number Does) (sym at)
    (subst (λ (k : Option Reference). IsKeysCalled (Some before) now (Some r) k number Does) (sym from) (record { after = after; outcome = outcome; there = is; told = told; done = done })))

-- an engine was made where none was
pub made_new : (old now : Option Embedded) (number : ℕ) (made : Embedded) → old ≡ None → now ≡ Some made → made.core.machine ≡ nothing_done → made.last ≡ None → made.listed ≡ None → made.journal_place ≡ placed_at 0
    → number ≡ outcome_number Done → IsMade old now number
made_new old now number made was is core last listed place told =
    subst (λ (o : Option Embedded). IsMade o now number) (sym was) (inl (record { made = made; there = is; core = core; last = last; listed = listed; journal_place = place; told = told }))

-- what was taken is what was there
pub held_is : {X : Type 0} (value : X → Reference) (o : Option X) (inside : Option Reference) → MatchOption o (inside ≡ None) (λ x. inside ≡ Some (value x)) → option_map value o ≡ inside
held_is value None inside is = sym is
held_is value (Some x) inside is = sym is

-- what is put back where none is, is there
pub put_is : {X : Type 0} (value : X → Reference) (o : Option X) (old new : Option Reference) → MatchOption o (new ≡ old) (λ x. new ≡ Some (value x)) → old ≡ None → option_map value o ≡ new
put_is value None old new is none = sym (is ∙ none)
put_is value (Some x) old new is none = sym is

-- what was taken and is put back is there again
pub back_is : {X : Type 0} (value : X → Reference) (o : Option X) (inside old new : Option Reference) → MatchOption o (inside ≡ None) (λ x. inside ≡ Some (value x)) → MatchOption o (new ≡ old) (λ x. new ≡ Some (value x)) → old ≡ None → new ≡ inside
back_is value o inside old new was is none = sym (put_is value o old new is none) ∙ held_is value o inside was

-- a walk within a root, from a place to another, by what these are
pub same_walk : (moment : ℕ) (root place now root' place' now' : Option Reference) (before after : Embedded) (outcome : Outcome) (old new : List ℕ) (wanted : ℕ) → root' ≡ root → place' ≡ place → now' ≡ now → IsWalkCall moment root' place' now' before after outcome old new wanted
    → IsWalkCall moment root place now before after outcome old new wanted
same_walk moment root place now root' place' now' before after outcome old new wanted a b c h =
    subst (λ r. IsWalkCall moment r place now before after outcome old new wanted) a (subst (λ p. IsWalkCall moment root' p now before after outcome old new wanted) b (subst (λ n. IsWalkCall moment root' place' n before after outcome old new wanted) c h))
