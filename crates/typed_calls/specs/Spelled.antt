-- What a key that is made by one call answers: the same as its name's call, and then one call for each subscript.
use Rattle.std.specs.Prelude.{ℕ, List, [], ◌∷◌, map, Option}
use Rattle.std.specs.Option.{option_or}
use Rattle.refusal.specs.declared.Refusal.{Refusal}
use Rattle.collation.specs.Reference.{Reference}
use Rattle.key_codec.specs.Draft.{longer, reference_due}
use Rattle.typed_calls.specs.declared.keys.LentText.{LentText}

-- the bytes of texts that are lent
abbrev pub texts_of : List LentText → List (List ℕ)
texts_of ts = map (λ t. t.bytes.now) ts

-- the first refusal of calls in turn, of which one makes this reference's key and each other adds a subscript
abbrev pub due_in_turn : Reference → List (List ℕ) → Option Refusal
due_in_turn r [] = reference_due r
due_in_turn r (s ∷ ss) = option_or (reference_due r) (due_in_turn (longer r s) ss)
