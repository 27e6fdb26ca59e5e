-- Reading at the front of a text: what is read there, and what follows it.
use Rattle.std.specs.Prelude.{◌≡◌, ◌==◌, ⊤, ℕ, zero, suc, Bool, false, if◌then◌else◌, List, [], ◌∷◌, ◌++◌, length, drop, Option, None, Some, Result, Ok, Err}
use Rattle.std.specs.Option.{option_map, option_and_then}
use Rattle.refusal.specs.declared.Refusal.{Refusal}
use Rattle.refusal.specs.declared.Refusal.TheVariants.{BadLine, OutOfMemory}
use Rattle.collation.specs.Bytes as byte

-- what is read, with what stands before it
abbrev pub with_front : {A : Type 0} → List A → Option (List A × List ℕ) → Option (List A × List ℕ)
with_front front read = option_map (λ x. (front ++ x.0, x.1)) read

-- what follows what is read
abbrev pub rest_of : {A : Type 0} → Option (A × List ℕ) → Option (List ℕ)
rest_of read = option_map (λ x. x.1) read

-- the first byte is b
abbrev pub begins_with_byte : ℕ → List ℕ → Bool
begins_with_byte b [] = false
begins_with_byte b (c ∷ cs) = c == b

-- what follows the byte b, where the text begins with it
abbrev pub after_byte : ℕ → List ℕ → Option (List ℕ)
after_byte b text = if begins_with_byte b text then Some (drop 1 text) else None

-- one thing read after another
infixl 10 ◌>>=◌
abbrev pub ◌>>=◌ : {A B : Type 0} → Option A → (A → Option B) → Option B
None >>= f = None
(Some x) >>= f = f x

-- one or more, at most n of them, with the byte b between two
unfoldable pub some_at : {A : Type 0} → (List ℕ → Option (List A × List ℕ)) → ℕ → ℕ → List ℕ → Option (List A × List ℕ)
some_at read b zero text = None
some_at read b (suc n) text =
    option_and_then (λ x. if begins_with_byte b x.1 then with_front x.0 (some_at read b n (drop 1 x.1)) else Some x) (read text)

-- one or more, with the byte b between two
abbrev pub parted_at : {A : Type 0} → (List ℕ → Option (List A × List ℕ)) → ℕ → List ℕ → Option (List A × List ℕ)
parted_at read b text = some_at read b (length text) text

-- what is read, and a closing parenthesis
abbrev pub then_closing : {A : Type 0} → Option (A × List ℕ) → Option (A × List ℕ)
then_closing read = option_and_then (λ x. if begins_with_byte byte.closing x.1 then Some (x.0, drop 1 x.1) else None) read

-- a function is refused where nothing is read, or memory ran out
abbrev pub IsUnread : {Y : Type 0} → Refusal → Option Y → Type 0
IsUnread BadLine read = read ≡ None
IsUnread OutOfMemory read = ⊤
IsUnread refusal read = ⊥

-- what a function answered, seen by view, is what is read
abbrev pub GivesUnlessMemory : {X Y : Type 0} → (X → Y) → Result X Refusal → Option Y → Type 0
GivesUnlessMemory view (Ok x) read = read ≡ Some (view x)
GivesUnlessMemory view (Err refusal) read = IsUnread refusal read

-- the same of a function that takes no memory
abbrev pub IsRefusedAlways : {Y : Type 0} → Refusal → Option Y → Type 0
IsRefusedAlways BadLine read = read ≡ None
IsRefusedAlways refusal read = ⊥

abbrev pub GivesExactly : {X Y : Type 0} → (X → Y) → Result X Refusal → Option Y → Type 0
GivesExactly view (Ok x) read = read ≡ Some (view x)
GivesExactly view (Err refusal) read = IsRefusedAlways refusal read

-- the refusal is the one that is due, or memory ran out
abbrev pub IsDue : {Y : Type 0} → Refusal → Result Y Refusal → Type 0
IsDue OutOfMemory read = ⊤
IsDue refusal read = read ≡ Err refusal

-- what a function answered, seen by view, is what is read, or the refusal that is due
abbrev pub Answers : {X Y : Type 0} → (X → Y) → Result X Refusal → Result Y Refusal → Type 0
Answers view (Ok x) read = read ≡ Ok (view x)
Answers view (Err refusal) read = IsDue refusal read
