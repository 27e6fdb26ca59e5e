-- Reading into a draft of a key.
use Rattle.std.specs.Prelude.{◌≡◌, ℕ, List, Option, Some, Result, Ok, Err}
use Rattle.std.specs.Borrow.{Bor}
use Rattle.refusal.specs.declared.Refusal.{Refusal}
use Rattle.collation.specs.Reference.{Reference}
use Rattle.key_codec.specs.Draft.{IsDraft}
use Rattle.key_codec.specs.declared.draft.KeyDraft.{KeyDraft}
use Rattle.m_text.specs.Reading.{IsUnread}

-- the draft is of a name and the subscripts that are read
abbrev pub Drafts : KeyDraft → List ℕ → Result (Bor (List ℕ)) Refusal → Option (List (List ℕ) × List ℕ) → Type 0
Drafts draft name (Ok rest) read = (ss : List (List ℕ)) × (read ≡ Some (ss, rest.now)) × IsDraft draft (record { name = name; subscripts = ss })
Drafts draft name (Err refusal) read = IsUnread refusal read

-- the draft is of the reference that is read, whatever faults it has
abbrev pub DraftsSpelled : KeyDraft → Result (Bor (List ℕ)) Refusal → Option (Reference × List ℕ) → Type 0
DraftsSpelled draft (Ok rest) read = (r : Reference) × (read ≡ Some (r, rest.now)) × IsDraft draft r
DraftsSpelled draft (Err refusal) read = IsUnread refusal read
