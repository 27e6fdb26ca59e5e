-- Lines in front of others, with a line more.
use Rattle.std.proofs.Common.{◌≡◌, inl, ℕ, Bool, true, List, [], ◌∷◌, ◌++◌, sym, ap, ◌∙◌, subst, append_assoc}
use Rattle.std.specs.Prelude.{Option, Some, None}
use Rattle.refusal.specs.declared.Refusal.{Refusal}
use Rattle.command.specs.declared.request.Command.{Command}
use Rattle.job_scripts.specs.Lines.{Asks, IsRefusedAs}
use Rattle.job_scripts.specs.Blocks.{AreAsked, AreMusts, AreInFront}
use Rattle.job_scripts.specs.Timeouts.{timeout_in}

asked_more : (job : ℕ) (lines : List (List ℕ)) (places : List (Option Refusal)) (commands : List Command) (line : List ℕ) (command : Command) → AreAsked job lines places commands → Asks job line command → AreAsked job (lines ++ line ∷ []) (places ++ None ∷ []) (commands ++ command ∷ [])
asked_more job [] [] [] line command h asks = (asks, tt)
asked_more job [] [] (c ∷ cs) line command h asks = absurd h
asked_more job [] (p ∷ ps) cs line command h asks = absurd h
asked_more job (l ∷ ls) [] cs line command h asks = absurd h
asked_more job (l ∷ ls) (Some refusal ∷ ps) cs line command h asks = (h.0, asked_more job ls ps cs line command h.1 asks)
asked_more job (l ∷ ls) (None ∷ ps) [] line command h asks = absurd h
asked_more job (l ∷ ls) (None ∷ ps) (c ∷ cs) line command h asks = (h.0, asked_more job ls ps cs line command h.1 asks)

refused_more : (job : ℕ) (lines : List (List ℕ)) (places : List (Option Refusal)) (commands : List Command) (line : List ℕ) (refusal : Refusal) → AreAsked job lines places commands → IsRefusedAs job line refusal → AreAsked job (lines ++ line ∷ []) (places ++ Some refusal ∷ []) commands
refused_more job [] [] [] line refusal h is = (is, tt)
refused_more job [] [] (c ∷ cs) line refusal h is = absurd h
refused_more job [] (p ∷ ps) cs line refusal h is = absurd h
refused_more job (l ∷ ls) [] cs line refusal h is = absurd h
refused_more job (l ∷ ls) (Some r ∷ ps) cs line refusal h is = (h.0, refused_more job ls ps cs line refusal h.1 is)
refused_more job (l ∷ ls) (None ∷ ps) [] line refusal h is = absurd h
refused_more job (l ∷ ls) (None ∷ ps) (c ∷ cs) line refusal h is = (h.0, refused_more job ls ps cs line refusal h.1 is)

must_more : (lines : List (List ℕ)) (places : List (Option Refusal)) (musts : List Bool) (line : List ℕ) (must : Bool) → AreMusts lines places musts → (timeout_in line ≡ None → must ≡ true) → AreMusts (lines ++ line ∷ []) (places ++ None ∷ []) (musts ++ must ∷ [])
must_more [] [] [] line must h is = (is, tt)
must_more [] [] (m ∷ ms) line must h is = absurd h
must_more [] (p ∷ ps) ms line must h is = absurd h
must_more (l ∷ ls) [] ms line must h is = absurd h
must_more (l ∷ ls) (Some r ∷ ps) ms line must h is = must_more ls ps ms line must h is
must_more (l ∷ ls) (None ∷ ps) [] line must h is = absurd h
must_more (l ∷ ls) (None ∷ ps) (m ∷ ms) line must h is = (h.0, must_more ls ps ms line must h.1 is)

must_refused : (lines : List (List ℕ)) (places : List (Option Refusal)) (musts : List Bool) (line : List ℕ) (refusal : Refusal) → AreMusts lines places musts → AreMusts (lines ++ line ∷ []) (places ++ Some refusal ∷ []) musts
must_refused [] [] [] line refusal h = tt
must_refused [] [] (m ∷ ms) line refusal h = absurd h
must_refused [] (p ∷ ps) ms line refusal h = absurd h
must_refused (l ∷ ls) [] ms line refusal h = absurd h
must_refused (l ∷ ls) (Some r ∷ ps) ms line refusal h = must_refused ls ps ms line refusal h
must_refused (l ∷ ls) (None ∷ ps) [] line refusal h = absurd h
must_refused (l ∷ ls) (None ∷ ps) (m ∷ ms) line refusal h = (h.0, must_refused ls ps ms line refusal h.1)

-- other lists of the same items
in_front_of : (job : ℕ) (front : List (List ℕ)) (places more_places : List (Option Refusal)) (commands more_commands : List Command) (musts more_musts : List Bool) → more_places ≡ places → more_commands ≡ commands → more_musts ≡ musts
    → AreAsked job front places commands × AreMusts front places musts → AreAsked job front more_places more_commands × AreMusts front more_places more_musts
in_front_of job front places more_places commands more_commands musts more_musts places_are commands_are musts_are h = (
  subst (λ (cs : List Command). AreAsked job front more_places cs) (sym commands_are) (subst (λ (ps : List (Option Refusal)). AreAsked job front ps commands) (sym places_are) h.0),
  subst (λ (ms : List Bool). AreMusts front more_places ms) (sym musts_are) (subst (λ (ps : List (Option Refusal)). AreMusts front ps musts) (sym places_are) h.1),
)

next_split : (all front before rest : List (List ℕ)) (line : List ℕ) → all ≡ front ++ before → before ≡ line ∷ rest → all ≡ (front ++ line ∷ []) ++ rest
next_split all front before rest line split next = split ∙ (ap (λ (ls : List (List ℕ)). front ++ ls) next ∙ sym (append_assoc front (line ∷ []) rest))

-- no line yet
pub none_in_front : (job : ℕ) (all rest : List (List ℕ)) (places : List (Option Refusal)) (commands : List Command) (musts : List Bool) → all ≡ rest → places ≡ [] → commands ≡ [] → musts ≡ [] → AreInFront job all rest places commands musts
none_in_front job all rest places commands musts same no_place no_command no_must =
    let h = in_front_of job [] [] places [] commands [] musts no_place no_command no_must (tt, tt) in record { front = []; split = same; asked = h.0; timed = h.1 }

-- a line more, with its command
pub command_in_front : (job : ℕ) (all before rest : List (List ℕ)) (places more_places : List (Option Refusal)) (commands more_commands : List Command) (musts more_musts : List Bool) (line : List ℕ) (command : Command) (must : Bool) → AreInFront job all before places commands musts
    → before ≡ line ∷ rest → Asks job line command → (timeout_in line ≡ None → must ≡ true) → more_places ≡ places ++ None ∷ [] → more_commands ≡ commands ++ command ∷ [] → more_musts ≡ musts ++ must ∷ [] → AreInFront job all rest more_places more_commands more_musts
command_in_front job all before rest places more_places commands more_commands musts more_musts line command must h next asks is places_are commands_are musts_are =
    let k = in_front_of job (h.front ++ line ∷ []) (places ++ None ∷ []) more_places (commands ++ command ∷ []) more_commands (musts ++ must ∷ []) more_musts places_are commands_are musts_are
    (asked_more job h.front places commands line command h.asked asks, must_more h.front places musts line must h.timed is) in
    record { front = h.front ++ line ∷ []; split = next_split all h.front before rest line h.split next; asked = k.0; timed = k.1 }

-- a line more, which is refused
pub refusal_in_front : (job : ℕ) (all before rest : List (List ℕ)) (places more_places : List (Option Refusal)) (commands more_commands : List Command) (musts more_musts : List Bool) (line : List ℕ) (refusal : Refusal) → AreInFront job all before places commands musts
    → before ≡ line ∷ rest → IsRefusedAs job line refusal → more_places ≡ places ++ Some refusal ∷ [] → more_commands ≡ commands → more_musts ≡ musts → AreInFront job all rest more_places more_commands more_musts
refusal_in_front job all before rest places more_places commands more_commands musts more_musts line refusal h next is places_are commands_are musts_are =
    let k = in_front_of job (h.front ++ line ∷ []) (places ++ Some refusal ∷ []) more_places commands more_commands musts more_musts places_are commands_are musts_are
    (refused_more job h.front places commands line refusal h.asked is, must_refused h.front places musts line refusal h.timed) in
    record { front = h.front ++ line ∷ []; split = next_split all h.front before rest line h.split next; asked = k.0; timed = k.1 }
