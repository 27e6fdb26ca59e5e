-- Lines that are gathered, one after the other.
use Rattle.std.proofs.Common.{◌≡◌, ◌⊎◌, inl, inr, ℕ, ◌+◌, ◌<◌, ◌≤◌, true, List, [], ◌∷◌, ◌++◌, length, length-append, refl, sym, ap, ◌∙◌, subst, arith}
use Rattle.std.specs.Prelude.{Option, Some, None, take}
use Rattle.std.specs.List.{All}
use Rattle.std.proofs.lemmas.List.{map-append}
use Rattle.std.proofs.lemmas.List.Elements.{All-push, All-same}
use Rattle.refusal.specs.declared.Refusal.{Refusal}
use Rattle.collation.specs.Reference.{Reference}
use Rattle.command.specs.declared.access.DataCommand.{DataCommand}
use Rattle.command.specs.declared.access.DataCommand.TheVariants.{Set}
use Rattle.command.specs.declared.request.Command.TheVariants.{Access}
use Rattle.shared_engine.specs.Holds.{Lines, lines_held, accesses, IsSet}
use Rattle.job_scripts.specs.Lines.{IsRefusedAs}
use Rattle.job_scripts.specs.laws.InFront.{none_in_front, command_in_front, refusal_in_front}
use Rattle.job_server.specs.Holding.{and_refused, HasOneMore, AreGathered}

-- no line yet
none_gathered : (job : ℕ) (all : List (List ℕ)) (room : ℕ) → AreGathered job all all (lines_held [] [] [] room)
none_gathered job all room = ([], none_in_front job all all [] [] [] refl refl refl refl)

-- one more
one_gathered : (job : ℕ) (all before rest : List (List ℕ)) (line : List ℕ) (old new : Lines) → AreGathered job all before old → before ≡ line ∷ rest → HasOneMore job line old new → AreGathered job all rest new
one_gathered job all before rest line old new (musts, h) next (inl (refusal, refused, is)) =
    (musts, refusal_in_front job all before rest old.places new.places (accesses old.commands) (accesses new.commands) musts musts line refusal h next refused (ap (λ (x : Lines). x.places) is) (ap (λ (x : Lines). accesses x.commands) is) refl)
one_gathered job all before rest line old new (musts, h) next (inr (command, asks, is)) = (
  musts ++ true ∷ [],
  command_in_front job all before rest old.places new.places (accesses old.commands) (accesses new.commands) musts (musts ++ true ∷ []) line (Access command) true h next asks (λ untimed. refl) (ap (λ (x : Lines). x.places) is)
      (ap (λ (x : Lines). accesses x.commands) is ∙ map-append Access old.commands (command ∷ [])) refl,
)

-- the first line stands there alone, refused so or accepted
one_place : (job : ℕ) (line : List ℕ) (most : ℕ) (old new : Lines) → old ≡ lines_held [] [] [] most → HasOneMore job line old new → ((refusal : Refusal) × IsRefusedAs job line refusal × (new.places ≡ Some refusal ∷ [])) ⊎ (new.places ≡ None ∷ [])
one_place job line most old new begun (inl (refusal, refused, is)) = inl (refusal, refused, ap (λ (x : Lines). x.places) is ∙ ap (λ (x : Lines). x.places ++ Some refusal ∷ []) begun)
one_place job line most old new begun (inr (command, asks, is)) = inr (ap (λ (x : Lines). x.places) is ∙ ap (λ (x : Lines). x.places ++ None ∷ []) begun)

-- what is found there is the place's own
abbrev pub IsFirst : List (Option Refusal) → Option Refusal → Type 0
IsFirst places found = (first : Option Refusal) → places ≡ first ∷ [] → found ≡ first

pub first_refused : (job : ℕ) (line : List ℕ) (most : ℕ) (old new : Lines) (found : Option Refusal) (refusal : Refusal) → old ≡ lines_held [] [] [] most → HasOneMore job line old new → IsFirst new.places found → found ≡ Some refusal → IsRefusedAs job line refusal
first_refused job line most old new found refusal begun one first is = elim (one_place job line most old new begun one) [
  | inl (other, refused, stands) ↦ subst (IsRefusedAs job line) (cc (sym (first (Some other) stands) ∙ is)) refused
  | inr stands ↦ absurd (cc (sym (first None stands) ∙ is))
]

pub first_accepted : (job : ℕ) (line : List ℕ) (most : ℕ) (old new : Lines) (found : Option Refusal) → old ≡ lines_held [] [] [] most → HasOneMore job line old new → IsFirst new.places found → found ≡ None → take 1 new.places ≡ None ∷ []
first_accepted job line most old new found begun one first is = elim (one_place job line most old new begun one) [
  | inl (other, refused, stands) ↦ absurd (cc (sym (first (Some other) stands) ∙ is))
  | inr stands ↦ ap (take 1) stands
]

-- and goes on to stand first
still_first : (first place : Option Refusal) (places : List (Option Refusal)) → take 1 places ≡ first ∷ [] → take 1 (places ++ place ∷ []) ≡ first ∷ []
still_first first place [] is = absurd (cc is)
still_first first place (other ∷ places) is = is

pub accepted_still : (job : ℕ) (line : List ℕ) (old new : Lines) → HasOneMore job line old new → take 1 old.places ≡ None ∷ [] → take 1 new.places ≡ None ∷ []
accepted_still job line old new (inl (refusal, refused, is)) first = ap (λ (x : Lines). take 1 x.places) is ∙ still_first None (Some refusal) old.places first
accepted_still job line old new (inr (command, asks, is)) first = ap (λ (x : Lines). take 1 x.places) is ∙ still_first None None old.places first

-- the lines so far stand in a hold, none is done yet, and there is room for so many in all
abbrev pub AreSoFar : ℕ → List (List ℕ) → List (List ℕ) → ℕ → Lines → Type 0
AreSoFar job all rest most hold = (length hold.places + hold.room ≡ most) × AreGathered job all rest hold × (hold.served ≡ [])

pub so_far_one : (job : ℕ) (all before rest : List (List ℕ)) (line : List ℕ) (most : ℕ) (old new : Lines) → AreSoFar job all before most old → before ≡ line ∷ rest → HasOneMore job line old new → length new.places + new.room ≡ length old.places + old.room → new.served ≡ old.served → AreSoFar job all rest most new
so_far_one job all before rest line most old new (room, gathered, none) next one counted same = (counted ∙ room, one_gathered job all before rest line old new gathered next one, same ∙ none)

pub so_far_first : (job : ℕ) (line : List ℕ) (rest : List (List ℕ)) (most : ℕ) (old new : Lines) → old ≡ lines_held [] [] [] most → HasOneMore job line old new → length new.places + new.room ≡ length old.places + old.room → new.served ≡ old.served → AreSoFar job (line ∷ rest) rest most new
so_far_first job line rest most old new begun one counted same =
    let before : AreSoFar job (line ∷ rest) (line ∷ rest) most old = subst (AreSoFar job (line ∷ rest) (line ∷ rest) most) (sym begun) (omega arith, none_gathered job (line ∷ rest) most, refl) in
    so_far_one job (line ∷ rest) (line ∷ rest) rest line most old new before refl one counted same

pub so_far_refused : (job : ℕ) (all before rest : List (List ℕ)) (line : List ℕ) (refusal : Refusal) (most : ℕ) (old new : Lines) → AreSoFar job all before most old → before ≡ line ∷ rest → IsRefusedAs job line refusal → length old.places < most → new ≡ and_refused old refusal → AreSoFar job all rest most new
so_far_refused job all before rest line refusal most old new (room, gathered, none) next refused less is =
    so_far_one job all before rest line most old new (room, gathered, none) next (inl (refusal, refused, is))
    (ap (λ (x : Lines). length x.places + x.room) is ∙ omega (arith, length-append old.places (Some refusal ∷ []), room, less)) (ap (λ (x : Lines). x.served) is)

-- the first line is one of so many
pub few_first : (most limit : ℕ) (old new : Lines) → old ≡ lines_held [] [] [] most → length new.places + new.room ≡ length old.places + old.room → most ≤ limit → length new.places ≤ limit
few_first most limit old new begun counted few =
    let start : length old.places + old.room ≡ most = ap (λ (x : Lines). length x.places + x.room) begun ∙ omega arith in
    omega (arith, counted, start, few)

-- a SET more
pub set_more : (key : Reference) (value : List ℕ) (old new : List DataCommand) → new ≡ old ++ Set key value ∷ [] → All IsSet old → All IsSet new
set_more key value old new is all = All-same IsSet _ _ is (All-push IsSet old (Set key value) all (key, value, refl))

-- none more
pub none_more : (old new : List DataCommand) → new ≡ old → All IsSet old → All IsSet new
none_more old new is all = All-same IsSet _ _ is all
