-- What is left in drafts once a line is read.
use Rattle.std.proofs.Common.{◌≡◌, ℕ, Bool, true, false, List, [], refl, sym, subst, ◌∙◌}
use Rattle.script.specs.Sentence.{HasNoRoom}
use Rattle.script.specs.declared.names.Names.{Names}

-- a value that was read is taken, and where none was read the drafts have what they had
pub value_gone : (read : Bool) (old mid new : List ℕ) → (read ≡ false → mid ≡ old) → (read ≡ false → new ≡ mid) → (read ≡ true → new ≡ []) → old ≡ [] → new ≡ []
value_gone true old mid new kept stays taken none = taken refl
value_gone false old mid new kept stays taken none = stays refl ∙ kept refl ∙ none

-- so lock names
pub names_gone : (read : Bool) (old mid new : Names) → (read ≡ false → mid ≡ old) → (read ≡ false → new ≡ mid) → (read ≡ true → HasNoRoom new) → HasNoRoom old → HasNoRoom new
names_gone true old mid new kept stays taken none = taken refl
names_gone false old mid new kept stays taken none = subst HasNoRoom (sym (stays refl ∙ kept refl)) none
