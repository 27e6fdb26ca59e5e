-- The grammar of lines: which texts spell which commands. Source: docs/FORMATS.md, "Lines".
-- Read IsLine, then IsCommand; references, names and literals are those of m_text.
use Rattle.std.specs.Prelude.{◌≡◌, ◌<◌, ◌≤◌, ℕ, true, false, List, [], ◌∷◌, ◌++◌, length, Option, None, Some, codes}
use Rattle.std.specs.List.{list_all}
use Rattle.std.specs.Char.{is_ascii_digit}
use Rattle.collation.specs.Bytes as byte
use Rattle.collation.specs.Reference.{Reference, Resource}
use Rattle.collation.specs.declared.direction.Direction.{Direction}
use Rattle.collation.specs.declared.direction.Direction.TheVariants.{Forward}
use Rattle.command.specs.declared.access.DataCommand.{DataCommand}
use Rattle.command.specs.declared.access.DataCommand.TheVariants.{Set, Kill, Merge, Increment, Look}
use Rattle.command.specs.declared.access.Look.TheVariants.{Data, Get, Order, Query, Name}
use Rattle.lock_name.specs.declared.lock.LockCommand.{LockCommand}
use Rattle.lock_name.specs.declared.lock.LockCommand.TheVariants.{Release}
use Rattle.command.specs.declared.request.Command.{Command}
use Rattle.command.specs.declared.request.Command.TheVariants.{Access, Lock}
use Rattle.canonic_number.specs.Number.{is_canonic}
use Rattle.command.specs.declared.access.Extent.{Extent}
use Rattle.m_text.specs.Literal.{number_from}
use Rattle.m_text.specs.Place.{spot_of}
use Rattle.m_text.specs.Forms.{IsLiteral, IsParted, IsNamed, IsReference}
use Rattle.script.specs.declared.word.Word.{Word}
use Rattle.script.specs.declared.word.Word.TheVariants as words
use Rattle.script.specs.declared.word.DataWord.{DataWord}
use Rattle.script.specs.declared.word.DataWord.TheVariants as data_words
use Rattle.script.specs.declared.word.AloneWord.{AloneWord}
use Rattle.script.specs.declared.lock.Form.{Form}
use Rattle.script.specs.declared.lock.Form.TheVariants as forms
use Rattle.script.specs.Words.{is_named, is_function}
use Rattle.script.specs.Locking.{locking}
use Rattle.script.specs.Commands.{is_blank, is_global, direction_of, start_of, command_of}

-- one or more bytes 32 or 9
pub record IsBlank (text : List ℕ) : Type 0 where
  pub bytes : list_all is_blank text ≡ true
  pub some : 0 < length text

-- a word of the table, short or long, in any case of letters
pub record IsWord (word : Word) (letters : List ℕ) : Type 0 where
  pub named : is_named word letters ≡ true

-- nothing, or a comma and a literal
pub data IsDefault : List ℕ → Option (List ℕ) → Type 0 where
  no_default : IsDefault [] None
  default : {text value : List ℕ} → IsLiteral text value → IsDefault (byte.comma ∷ text) (Some value)

-- nothing, which is forward, or a comma and a literal of 1 or -1
pub data IsDirection : List ℕ → Direction → Type 0 where
  no_direction : IsDirection [] Forward
  direction : {text value : List ℕ} {d : Direction} → IsLiteral text value → direction_of value ≡ Some d → IsDirection (byte.comma ∷ text) d

-- nothing, which is 1, or a comma and a literal of a canonic number
pub data IsStep : List ℕ → List ℕ → Type 0 where
  no_step : IsStep [] (codes "1")
  step : {text value : List ℕ} → IsLiteral text value → is_canonic value ≡ true → IsStep (byte.comma ∷ text) value

-- what a word wants after its reference r
pub data IsTail : DataWord → Reference → List ℕ → DataCommand → Type 0 where
  set : {r : Reference} {text value : List ℕ} → IsLiteral text value → IsTail data_words.Set r (byte.equals_sign ∷ text) (Set r value)
  kill : {r : Reference} {extent : Extent} → IsTail (data_words.Kill extent) r [] (Kill r extent)
  merge : {r s : Reference} {text : List ℕ} → IsReference text s → IsTail data_words.Merge r (byte.equals_sign ∷ text) (Merge r s)
  increment : {r : Reference} {text number : List ℕ} → IsStep text number → IsTail data_words.Increment r text (Increment r number)
  data_of : {r : Reference} → IsTail data_words.Data r [] (Look (Data r))
  get_of : {r : Reference} {text : List ℕ} {value : Option (List ℕ)} → IsDefault text value → IsTail data_words.Get r text (Look (Get r value))
  order_of : {r : Reference} {text : List ℕ} {d : Direction} → IsDirection text d → IsTail data_words.Order r text (Look (Order (spot_of r) d))
  query_of : {r : Reference} {text : List ℕ} {d : Direction} → IsDirection text d → IsTail data_words.Query r text (Look (Query (spot_of r) d))

-- a reference, and what the word wants after it
pub record IsPlaced (word : DataWord) (text : List ℕ) (c : DataCommand) : Type 0 where
  pub place : List ℕ
  pub tail : List ℕ
  pub reference : Reference
  pub spelled : IsReference place reference
  pub wanted : IsTail word reference tail c
  pub parts : text ≡ place ++ tail

-- "^$" and the letters of GLOBAL, in parentheses a literal of what the names start from, and a direction
pub record AreNames (text : List ℕ) (c : DataCommand) : Type 0 where
  pub letters : List ℕ
  pub argument : List ℕ
  pub tail : List ℕ
  pub value : List ℕ
  pub towards : Direction
  pub global : is_global letters ≡ true
  pub spelled : IsLiteral argument value
  pub directed : IsDirection tail towards
  pub asked : c ≡ Look (Name (start_of value) towards)
  pub parts : text ≡ byte.caret ∷ (byte.dollar ∷ (letters ++ (byte.opening ∷ (argument ++ (byte.closing ∷ tail)))))

-- a reference and what the word wants after it, or for $ORDER names of globals
pub data IsOperands : DataWord → List ℕ → DataCommand → Type 0 where
  placed : {word : DataWord} {text : List ℕ} {c : DataCommand} → IsPlaced word text c → IsOperands word text c
  names_of : {text : List ℕ} {c : DataCommand} → AreNames text c → IsOperands data_words.Order text c

-- a lock name: a reference, or one without its caret
pub data IsLockName : List ℕ → Resource → Type 0 where
  with_caret : {text : List ℕ} {r : Reference} → IsReference text r → IsLockName text (record { has_caret = true; reference = r })
  without_caret : {text : List ℕ} {r : Reference} → IsNamed text r → IsLockName text (record { has_caret = false; reference = r })

-- a lock name, for the list of it
pub record IsOneName (text : List ℕ) (ns : List Resource) : Type 0 where
  pub name : Resource
  pub spelled : IsLockName text name
  pub alone : ns ≡ name ∷ []

-- a lock name, or several in parentheses with a comma between two
pub data AreLockNames : List ℕ → List Resource → Type 0 where
  one_name : {text : List ℕ} {ns : List Resource} → IsOneName text ns → AreLockNames text ns
  names : {texts : List ℕ} {ns : List Resource} → IsParted IsOneName byte.comma texts ns → AreLockNames (byte.opening ∷ (texts ++ byte.closing ∷ [])) ns

-- nothing, '+' or '-'
pub data IsSign : List ℕ → Form → Type 0 where
  no_sign : IsSign [] forms.Only
  plus : IsSign (byte.plus ∷ []) forms.More
  minus : IsSign (byte.minus ∷ []) forms.Fewer

-- one to nine digits
pub record AreFewDigits (digits : List ℕ) : Type 0 where
  pub bytes : list_all is_ascii_digit digits ≡ true
  pub some : 0 < length digits
  pub few : length digits ≤ 9

-- nothing, or ':' and seconds: one to nine digits, or up to nine, a point and one to nine
pub data IsTimeout : List ℕ → Type 0 where
  no_timeout : IsTimeout []
  whole : {digits : List ℕ} → AreFewDigits digits → IsTimeout (byte.colon ∷ digits)
  fraction : (digits : List ℕ) {parts : List ℕ} → list_all is_ascii_digit digits ≡ true → length digits ≤ 9 → AreFewDigits parts → IsTimeout (byte.colon ∷ (digits ++ byte.point ∷ parts))

-- a sign, lock names and a timeout, which the command doesn't have
pub record IsLocking (text : List ℕ) (c : LockCommand) : Type 0 where
  pub sign : List ℕ
  pub listed : List ℕ
  pub ending : List ℕ
  pub form : Form
  pub resources : List Resource
  pub signed : IsSign sign form
  pub spelled : AreLockNames listed resources
  pub timed : IsTimeout ending
  pub asked : c ≡ locking form resources
  pub parts : text ≡ sign ++ (listed ++ ending)

-- a word, a blank and what the word wants, or a word alone; a function stands after '$', its operands in parentheses
pub data IsCommand : List ℕ → Command → Type 0 where
  act : {word : DataWord} {letters blank text : List ℕ} {c : DataCommand} → is_function (words.Access word) ≡ false → IsWord (words.Access word) letters → IsBlank blank → IsOperands word text c → IsCommand (letters ++ (blank ++ text)) (Access c)
  function : {word : DataWord} {letters text : List ℕ} {c : DataCommand} → is_function (words.Access word) ≡ true → IsWord (words.Access word) letters → IsOperands word text c → IsCommand (byte.dollar ∷ (letters ++ (byte.opening ∷ (text ++ byte.closing ∷ [])))) (Access c)
  release : {letters : List ℕ} → IsWord words.Lock letters → IsCommand letters (Lock Release)
  lock : {letters blank text : List ℕ} {c : LockCommand} → IsWord words.Lock letters → IsBlank blank → IsLocking text c → IsCommand (letters ++ (blank ++ text)) (Lock c)
  alone : {word : AloneWord} {letters : List ℕ} → is_function (words.Alone word) ≡ false → IsWord (words.Alone word) letters → IsCommand letters (command_of word)
  function_alone : {word : AloneWord} {letters : List ℕ} → is_function (words.Alone word) ≡ true → IsWord (words.Alone word) letters → IsCommand (byte.dollar ∷ letters) (command_of word)

-- digits, a blank, a command, and perhaps a blank
pub record IsLine (line : List ℕ) (job : ℕ) (c : Command) : Type 0 where
  pub digits : List ℕ
  pub blank : List ℕ
  pub command : List ℕ
  pub tail : List ℕ
  pub numbered : list_all is_ascii_digit digits ≡ true
  pub some : 0 < length digits
  pub number : job ≡ number_from 0 digits
  pub parted : IsBlank blank
  pub spelled : IsCommand command c
  pub ended : list_all is_blank tail ≡ true
  pub parts : line ≡ digits ++ (blank ++ (command ++ tail))
