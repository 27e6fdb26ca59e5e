-- Commands at the front of a text, and the first fault of a command. Source: docs/FORMATS.md, "Lines".
-- Read command_at first, then behind_act, tail_at, then command_fault, and ComesToOperands.
use Rattle.std.specs.Prelude.{◌≡◌, ◌<◌, ℕ, Bool, true, false, not, ◌||◌, ◌==◌, nat_eq, nat_lt, if◌then◌else◌, List, [], ◌∷◌, length, drop, Option, None, Some, IsSomeAnd, codes}
use Rattle.std.specs.List.{position_or_len}
use Rattle.std.specs.Option.{option_map, option_and_then, option_or}
use Rattle.std.specs.Cmp.Lexicographic.{pointwise}
use Rattle.refusal.specs.declared.Refusal.{Refusal}
use Rattle.refusal.specs.declared.Refusal.TheVariants.{ValueTooLong}
use Rattle.collation.specs.Limits.{most_value_bytes}
use Rattle.collation.specs.Bytes as byte
use Rattle.collation.specs.Reference.{Reference}
use Rattle.collation.specs.declared.direction.Direction.{Direction}
use Rattle.collation.specs.declared.direction.Direction.TheVariants.{Forward, Backward}
use Rattle.command.specs.declared.access.DataCommand.{DataCommand}
use Rattle.command.specs.declared.access.DataCommand.TheVariants.{Set, Kill, Merge, Increment, Look}
use Rattle.command.specs.declared.access.Look.{Look as LookCommand}
use Rattle.command.specs.declared.access.Look.TheVariants.{Data, Get, Order, Query, Name}
use Rattle.lock_name.specs.declared.lock.LockCommand.TheVariants.{Release}
use Rattle.command.specs.declared.request.Command.{Command}
use Rattle.command.specs.declared.request.Command.TheVariants.{Access, Lock, Start, Commit, Rollback, Restart, Level, Restarts, Halt}
use Rattle.m_text.specs.Reading.{◌>>=◌, begins_with_byte, after_byte}
use Rattle.canonic_number.specs.Number.{is_canonic}
use Rattle.m_text.specs.Literal.{literal_at, is_word, front_letters, past_letters}
use Rattle.m_text.specs.Place.{place_at, spot_of, name_fault, ref_fault, spot_fault}
use Rattle.script.specs.declared.word.Word.{Word}
use Rattle.script.specs.declared.word.Word.TheVariants as words
use Rattle.script.specs.declared.word.DataWord.{DataWord}
use Rattle.script.specs.declared.word.DataWord.TheVariants as data_words
use Rattle.script.specs.declared.word.AloneWord.{AloneWord}
use Rattle.script.specs.declared.word.AloneWord.TheVariants as alone_words
use Rattle.script.specs.Words.{act_of, function_of}
use Rattle.script.specs.Locking.{locking_at, lock_fault}

-- byte 32 or byte 9
abbrev pub is_blank : ℕ → Bool
is_blank b = b == byte.blank || b == byte.tab

abbrev pub ends_blank : ℕ → Bool
ends_blank b = not (is_blank b)

-- what follows the bytes 32 and 9 at the front
abbrev pub past_blank : List ℕ → List ℕ
past_blank text = drop (position_or_len ends_blank text) text

-- the first byte is 32 or 9
abbrev pub begins_blank : List ℕ → Bool
begins_blank [] = false
begins_blank (b ∷ bs) = is_blank b

-- what follows a blank, where the text begins with one
abbrev pub blank_at : List ℕ → Option (List ℕ)
blank_at text = if begins_blank text then Some (past_blank text) else None

-- 1 or -1
abbrev pub direction_of : List ℕ → Option Direction
direction_of s =
    if pointwise nat_eq s (codes "1") then Some Forward else (if pointwise nat_eq s (codes "-1") then Some Backward else None)

-- an equals sign and a literal
unfoldable pub set_value_at : List ℕ → Option (List ℕ × List ℕ)
set_value_at text = after_byte byte.equals_sign text >>= λ rest. literal_at rest

-- an equals sign and a reference
unfoldable pub source_at : List ℕ → Option (Reference × List ℕ)
source_at text = after_byte byte.equals_sign text >>= λ rest. place_at rest

-- a comma and a literal, or nothing
unfoldable pub default_at : List ℕ → Option (Option (List ℕ) × List ℕ)
default_at text = if begins_with_byte byte.comma text then option_map (λ x. (Some x.0, x.1)) (literal_at (drop 1 text)) else Some (None, text)

-- a comma and a direction, or nothing, which is forward
unfoldable pub direction_at : List ℕ → Option (Direction × List ℕ)
direction_at text =
    if begins_with_byte byte.comma text then (literal_at (drop 1 text) >>= λ x. direction_of x.0 >>= λ direction. Some (direction, x.1))
    else Some (Forward, text)

-- the string, where it is a canonic number
abbrev pub canonic_of : List ℕ → Option (List ℕ)
canonic_of s = if is_canonic s then Some s else None

-- a comma and a number, or nothing, which is 1
unfoldable pub step_at : List ℕ → Option (List ℕ × List ℕ)
step_at text =
    if begins_with_byte byte.comma text then (literal_at (drop 1 text) >>= λ x. canonic_of x.0 >>= λ number. Some (number, x.1))
    else Some (codes "1", text)

-- what a word wants after its reference r
abbrev pub tail_at : DataWord → Reference → List ℕ → Option (DataCommand × List ℕ)
tail_at data_words.Set r text = set_value_at text >>= λ value. Some (Set r value.0, value.1)
tail_at (data_words.Kill extent) r text = Some (Kill r extent, text)
tail_at data_words.Merge r text = source_at text >>= λ source. Some (Merge r source.0, source.1)
tail_at data_words.Increment r text = step_at text >>= λ number. Some (Increment r number.0, number.1)
tail_at data_words.Data r text = Some (Look (Data r), text)
tail_at data_words.Get r text = default_at text >>= λ default. Some (Look (Get r default.0), default.1)
tail_at data_words.Order r text = direction_at text >>= λ direction. Some (Look (Order (spot_of r) direction.0), direction.1)
tail_at data_words.Query r text = direction_at text >>= λ direction. Some (Look (Query (spot_of r) direction.0), direction.1)

-- a reference, and what the word wants after it
unfoldable pub placed_at : DataWord → List ℕ → Option (DataCommand × List ℕ)
placed_at word text = place_at text >>= λ place. tail_at word place.0 place.1

-- the letters of ^$GLOBAL, in any case
abbrev pub is_global : List ℕ → Bool
is_global letters = is_word (codes "G") letters || is_word (codes "GLOBAL") letters

-- what follows a string's caret; without one nothing, which is no name
abbrev pub named_by : List ℕ → List ℕ
named_by [] = []
named_by (b ∷ bs) = if b == byte.caret then bs else []

-- the start that a string is: none where it is empty
abbrev pub start_of : List ℕ → Option (List ℕ)
start_of [] = None
start_of (b ∷ bs) = Some (named_by (b ∷ bs))

-- the letters of ^$GLOBAL, and in parentheses a literal
unfoldable pub argument_at : List ℕ → Option (List ℕ × List ℕ)
argument_at text =
    if is_global (front_letters text)
    then (do
      rest ← after_byte byte.opening (past_letters text)
      x ← literal_at rest
      rest ← after_byte byte.closing x.1
      Some (x.0, rest))
    else None

-- behind "^$": names of globals, and a direction
unfoldable pub names_at : List ℕ → Option (DataCommand × List ℕ)
names_at text = do
  argument ← argument_at text
  direction ← direction_at argument.1
  Some (Look (Name (start_of argument.0) direction.0), direction.1)

-- what follows "^$", which may stand behind $ORDER's word alone
abbrev pub structured_at : DataWord → List ℕ → Option (List ℕ)
structured_at data_words.Order text = after_byte byte.caret text >>= after_byte byte.dollar
structured_at word text = None

abbrev pub operands_by : Option (List ℕ) → DataWord → List ℕ → Option (DataCommand × List ℕ)
operands_by None word text = placed_at word text
operands_by (Some rest) word text = names_at rest

-- a reference and what the word wants after it, or for $ORDER names
unfoldable pub operands_at : DataWord → List ℕ → Option (DataCommand × List ℕ)
operands_at word text = operands_by (structured_at word text) word text

-- after LOCK's word: nothing but a blank, or a blank and names
unfoldable pub lock_at : List ℕ → Option (Command × List ℕ)
lock_at text =
    if length (past_blank text) == 0
    then Some (Lock Release, text)
    else (do
      rest ← blank_at text
      command ← locking_at rest
      Some (Lock command.0, command.1))

-- the command that is its word alone
abbrev pub command_of : AloneWord → Command
command_of alone_words.Start = Start
command_of alone_words.Commit = Commit
command_of alone_words.Rollback = Rollback
command_of alone_words.Restart = Restart
command_of alone_words.Halt = Halt
command_of alone_words.Level = Level
command_of alone_words.Restarts = Restarts

-- what an act wants after its word: a blank and operands, lock names, or nothing
abbrev pub behind_act : Word → List ℕ → Option (Command × List ℕ)
behind_act (words.Access word) text = do
  rest ← blank_at text
  command ← operands_at word rest
  Some (Access command.0, command.1)
behind_act words.Lock text = lock_at text
behind_act (words.Alone word) text = Some (command_of word, text)

-- what a function wants after its word: operands in parentheses, or nothing; LOCK is none
abbrev pub behind_function : Word → List ℕ → Option (Command × List ℕ)
behind_function (words.Access word) text = do
  rest ← after_byte byte.opening text
  command ← operands_at word rest
  rest ← after_byte byte.closing command.1
  Some (Access command.0, rest)
behind_function words.Lock text = None
behind_function (words.Alone word) text = Some (command_of word, text)

-- a word, and what the act wants
unfoldable pub acts_at : List ℕ → Option (Command × List ℕ)
acts_at text = act_of (front_letters text) >>= λ word. behind_act word (past_letters text)

-- after '$': a word, and what the function wants
unfoldable pub functions_at : List ℕ → Option (Command × List ℕ)
functions_at text = function_of (front_letters text) >>= λ word. behind_function word (past_letters text)

-- a command, whatever faults it has
unfoldable pub command_at : List ℕ → Option (Command × List ℕ)
command_at text = if begins_with_byte byte.dollar text then functions_at (drop 1 text) else acts_at text

-- ---- operands: references, values and lock names. Reading these takes memory, and nothing else of a line does

-- a command is read as far as its operands: an act's are behind a blank, where LOCK may end too
abbrev pub AreBehindAct : Word → List ℕ → Type 0
AreBehindAct (words.Access word) text = begins_blank text ≡ true
AreBehindAct words.Lock text = (begins_blank text ≡ true) × (0 < length (past_blank text))
AreBehindAct (words.Alone word) text = ⊥

-- a function's are behind a parenthesis
abbrev pub AreBehindFunction : Word → List ℕ → Type 0
AreBehindFunction (words.Access word) text = begins_with_byte byte.opening text ≡ true
AreBehindFunction word text = ⊥

-- an act, or a function without its '$', is read so far
unfoldable pub ActComesToOperands : List ℕ → Type 0
ActComesToOperands text = IsSomeAnd (act_of (front_letters text)) (λ word. AreBehindAct word (past_letters text))

unfoldable pub FunctionComesToOperands : List ℕ → Type 0
FunctionComesToOperands text = IsSomeAnd (function_of (front_letters text)) (λ word. AreBehindFunction word (past_letters text))

-- a command, with a '$' or without
abbrev pub SignedComesToOperands : Bool → List ℕ → Type 0
SignedComesToOperands true text = FunctionComesToOperands (drop 1 text)
SignedComesToOperands false text = ActComesToOperands text

unfoldable pub ComesToOperands : List ℕ → Type 0
ComesToOperands text = SignedComesToOperands (begins_with_byte byte.dollar text) text

-- a value over 32,767 bytes
abbrev pub value_fault : List ℕ → Option Refusal
value_fault value = if nat_lt most_value_bytes (length value) then Some ValueTooLong else None

-- the first fault of a command that looks, from left to right
abbrev pub look_fault : LookCommand → Option Refusal
look_fault (Data r) = ref_fault r
look_fault (Get r default) = option_or (ref_fault r) (option_and_then value_fault default)
look_fault (Order p direction) = spot_fault p
look_fault (Query p direction) = spot_fault p
look_fault (Name start direction) = option_and_then name_fault start

-- the first fault of a data command, from left to right
abbrev pub data_fault : DataCommand → Option Refusal
data_fault (Set r value) = option_or (ref_fault r) (value_fault value)
data_fault (Kill r extent) = ref_fault r
data_fault (Merge target source) = option_or (ref_fault target) (ref_fault source)
data_fault (Increment r number) = option_or (ref_fault r) (value_fault number)
data_fault (Look look) = look_fault look

-- the first fault of a command, from left to right
abbrev pub command_fault : Command → Option Refusal
command_fault (Access command) = data_fault command
command_fault (Lock command) = lock_fault command
command_fault command = None
