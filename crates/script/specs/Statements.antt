-- What ties the reading of lines to their grammar. Each is a clause of a function in `src/laws.rt`.
use Rattle.std.specs.Prelude.{◌≡◌, ◌⊎◌, ℕ, true, List, None, Some, Ok, Err}
use Rattle.refusal.specs.declared.Refusal.TheVariants.{BadLine}
use Rattle.lock_name.specs.declared.lock.LockCommand.TheVariants.{Release}
use Rattle.command.specs.declared.request.Command.{Command}
use Rattle.command.specs.declared.request.Command.TheVariants.{Lock}
use Rattle.script.specs.declared.word.Word.{Word}
use Rattle.script.specs.declared.word.AloneWord.{AloneWord}
use Rattle.script.specs.Words.{is_named, is_function}
use Rattle.script.specs.Commands.{command_fault, command_of}
use Rattle.script.specs.Line.{is_job, judged, reading_of, HasOperands}
use Rattle.script.specs.Grammar.{IsLine}

-- a line that is read is spelled so, its job is one, and its command has no fault
abbrev pub ReadLinesAreSpelled : Type 0
ReadLinesAreSpelled = (line : List ℕ) (job : ℕ) (c : Command) → reading_of line ≡ Ok (job, c) → IsLine line job c × (is_job job ≡ true) × (command_fault c ≡ None)

-- a line that is spelled so is read, or refused for its job, or for its command's first fault
abbrev pub SpelledLinesAreJudged : Type 0
SpelledLinesAreJudged = (line : List ℕ) (job : ℕ) (c : Command) → IsLine line job c → reading_of line ≡ judged job (Some c)

-- only a line that isn't spelled so gets BadLine
abbrev pub BadLinesAreNotSpelled : Type 0
BadLinesAreNotSpelled = (line : List ℕ) (job : ℕ) (c : Command) → reading_of line ≡ Err BadLine → IsLine line job c → ⊥

-- and a line that isn't spelled so gets BadLine, whatever its job
abbrev pub OtherLinesAreBad : Type 0
OtherLinesAreBad = (line : List ℕ) → ((job : ℕ) (c : Command) → IsLine line job c → ⊥) → reading_of line ≡ Err BadLine

-- two acts, or two functions, that letters name are one: no two rows of the table share a word
abbrev pub NoTwoShareAWord : Type 0
NoTwoShareAWord = (v w : Word) (letters : List ℕ) → is_function v ≡ is_function w → is_named v letters ≡ true → is_named w letters ≡ true → v ≡ w

-- a command that is its word alone: LOCK without names, or one that has no operands
abbrev pub IsWordAlone : Command → Type 0
IsWordAlone c = (c ≡ Lock Release) ⊎ ((word : AloneWord) × (c ≡ command_of word))

-- a line that is read as such a command has no operands, so that its reading is never refused memory
abbrev pub WordsAloneHaveNoOperands : Type 0
WordsAloneHaveNoOperands = (line : List ℕ) (job : ℕ) (c : Command) → reading_of line ≡ Ok (job, c) → IsWordAlone c → HasOperands line → ⊥
