-- The words of commands. Source: docs/FORMATS.md, "Lines".
-- Read words_of, then act_of and function_of.
use Rattle.std.specs.Prelude.{ℕ, Bool, true, false, ◌||◌, List, [], ◌∷◌, Option, codes}
use Rattle.std.specs.List.{find}
use Rattle.m_text.specs.Literal.{is_word}
use Rattle.script.specs.declared.word.Word.{Word}
use Rattle.script.specs.declared.word.Word.TheVariants.{Access, Lock, Alone}
use Rattle.script.specs.declared.word.DataWord.TheVariants.{Set, Kill, Merge, Increment, Data, Get, Order, Query}
use Rattle.command.specs.declared.access.Extent.TheVariants.{All, Value, Below}
use Rattle.script.specs.declared.word.AloneWord.TheVariants.{Start, Commit, Rollback, Restart, Halt, Level, Restarts}

-- each word, short and long
abbrev pub words_of : Word → List ℕ × List ℕ
words_of (Access Set) = (codes "S", codes "SET")
words_of (Access (Kill All)) = (codes "K", codes "KILL")
words_of (Access (Kill Value)) = (codes "KV", codes "KVALUE")
words_of (Access (Kill Below)) = (codes "KS", codes "KSUBSCRIPTS")
words_of (Access Merge) = (codes "M", codes "MERGE")
words_of (Access Increment) = (codes "I", codes "INCREMENT")
words_of (Access Data) = (codes "D", codes "DATA")
words_of (Access Get) = (codes "G", codes "GET")
words_of (Access Order) = (codes "O", codes "ORDER")
words_of (Access Query) = (codes "Q", codes "QUERY")
words_of Lock = (codes "L", codes "LOCK")
words_of (Alone Start) = (codes "TS", codes "TSTART")
words_of (Alone Commit) = (codes "TC", codes "TCOMMIT")
words_of (Alone Rollback) = (codes "TRO", codes "TROLLBACK")
words_of (Alone Restart) = (codes "TRE", codes "TRESTART")
words_of (Alone Halt) = (codes "H", codes "HALT")
words_of (Alone Level) = (codes "TL", codes "TLEVEL")
words_of (Alone Restarts) = (codes "TR", codes "TRESTART")

-- those that stand by themselves, and those that stand after '$'
abbrev pub acts : List Word
acts = Access Set ∷ Access (Kill All) ∷ Access (Kill Value) ∷ Access (Kill Below) ∷ Access Merge ∷ Lock ∷ Alone Start ∷ Alone Commit ∷ Alone Rollback ∷ Alone Restart ∷ Alone Halt ∷ []

abbrev pub functions : List Word
functions = Access Increment ∷ Access Data ∷ Access Get ∷ Access Order ∷ Access Query ∷ Alone Level ∷ Alone Restarts ∷ []

-- the letters are one of two words, in any case
abbrev pub is_either : List ℕ → List ℕ → List ℕ → Bool
is_either short long letters = is_word short letters || is_word long letters

abbrev pub is_named : Word → List ℕ → Bool
is_named word letters = is_either (words_of word).0 (words_of word).1 letters

-- the act that letters name
abbrev pub act_of : List ℕ → Option Word
act_of letters = find (λ word. is_named word letters) acts

-- the function that letters name, after its '$'
abbrev pub function_of : List ℕ → Option Word
function_of letters = find (λ word. is_named word letters) functions

-- whether a word stands after '$'
abbrev pub is_function : Word → Bool
is_function (Access Set) = false
is_function (Access (Kill extent)) = false
is_function (Access Merge) = false
is_function (Access Increment) = true
is_function (Access Data) = true
is_function (Access Get) = true
is_function (Access Order) = true
is_function (Access Query) = true
is_function Lock = false
is_function (Alone Start) = false
is_function (Alone Commit) = false
is_function (Alone Rollback) = false
is_function (Alone Restart) = false
is_function (Alone Halt) = false
is_function (Alone Level) = true
is_function (Alone Restarts) = true
