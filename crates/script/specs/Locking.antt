-- What stands after LOCK's word, and the first fault of its names. Source: docs/FORMATS.md, "Lines".
-- Read locking_at, then lock_fault.
use Rattle.std.specs.Prelude.{ℕ, Bool, ◌&&◌, ◌==◌, nat_le, nat_lt, if◌then◌else◌, List, [], ◌∷◌, length, drop, Option, None, Some}
use Rattle.std.specs.Option.{option_map, option_or}
use Rattle.refusal.specs.declared.Refusal.{Refusal}
use Rattle.collation.specs.Bytes as byte
use Rattle.collation.specs.Reference.{Resource}
use Rattle.lock_name.specs.declared.lock.LockCommand.{LockCommand}
use Rattle.lock_name.specs.declared.lock.LockCommand.TheVariants.{Release, Only, More, Fewer}
use Rattle.m_text.specs.Reading.{◌>>=◌, begins_with_byte, parted_at, then_closing}
use Rattle.m_text.specs.Literal.{front_digits, past_digits}
use Rattle.m_text.specs.Place.{named_at, ref_fault}
use Rattle.script.specs.declared.lock.Form.{Form}
use Rattle.script.specs.declared.lock.Form.TheVariants as forms

-- the LOCK of this form with these names
abbrev pub locking : Form → List Resource → LockCommand
locking forms.Only ns = Only ns
locking forms.More ns = More ns
locking forms.Fewer ns = Fewer ns

-- '+', '-' or neither
abbrev pub form_of : List ℕ → Form
form_of [] = forms.Only
form_of (b ∷ bs) = if b == byte.plus then forms.More else (if b == byte.minus then forms.Fewer else forms.Only)

-- what follows it
abbrev pub past_form : List ℕ → List ℕ
past_form [] = []
past_form (b ∷ bs) = if b == byte.plus then bs else (if b == byte.minus then bs else b ∷ bs)

-- what follows a caret, where there is one
abbrev pub past_caret : List ℕ → List ℕ
past_caret text = if begins_with_byte byte.caret text then drop 1 text else text

-- a lock name, as a list of it: a reference, or one without its caret
unfoldable pub lock_name_at : List ℕ → Option (List Resource × List ℕ)
lock_name_at text = option_map (λ x. (record { has_caret = begins_with_byte byte.caret text; reference = x.0 } ∷ [], x.1)) (named_at (past_caret text))

-- a lock name, or several in parentheses
unfoldable pub lock_names_at : List ℕ → Option (List Resource × List ℕ)
lock_names_at text = if begins_with_byte byte.opening text then then_closing (parted_at lock_name_at byte.comma (drop 1 text)) else lock_name_at text

-- one to nine digits
abbrev pub are_few : List ℕ → Bool
are_few ds = nat_lt 0 (length ds) && nat_le (length ds) 9

-- what follows them
unfoldable pub digits_at : List ℕ → Option (List ℕ)
digits_at text = if are_few (front_digits text) then Some (past_digits text) else None

-- what follows one to nine digits, or up to nine, a point and one to nine
unfoldable pub seconds_at : List ℕ → Option (List ℕ)
seconds_at text =
    if begins_with_byte byte.point (past_digits text)
    then (if nat_le (length (front_digits text)) 9 then digits_at (drop 1 (past_digits text)) else None)
    else digits_at text

-- what follows a timeout, ':' and seconds, or nothing
unfoldable pub timeout_at : List ℕ → Option (List ℕ)
timeout_at text = if begins_with_byte byte.colon text then seconds_at (drop 1 text) else Some text

-- a sign, lock names, a timeout that means nothing
unfoldable pub locking_at : List ℕ → Option (LockCommand × List ℕ)
locking_at text = do
  names ← lock_names_at (past_form text)
  rest ← timeout_at names.1
  Some (locking (form_of text) names.0, rest)

-- the first fault of lock names, whose limits are those of references
abbrev pub names_fault : List Resource → Option Refusal
names_fault [] = None
names_fault (n ∷ ns) = option_or (ref_fault n.reference) (names_fault ns)

-- the first fault of a LOCK
abbrev pub lock_fault : LockCommand → Option Refusal
lock_fault Release = None
lock_fault (Only ns) = names_fault ns
lock_fault (More ns) = names_fault ns
lock_fault (Fewer ns) = names_fault ns
