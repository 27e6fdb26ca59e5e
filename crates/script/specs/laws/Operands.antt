-- A command that is its word alone has no operands to be read.
use Rattle.std.proofs.Common.{◌≡◌, inl, inr, ℕ, ◌<◌, Bool, true, false, cond, List, length, drop, Option, Some, None, Ok, refl, sym, ap, ◌∙◌, arith}
use Rattle.std.proofs.lemmas.Bool.{eqb-true}
use Rattle.std.specs.Prelude.{◌==◌, IsSomeAnd}
use Rattle.collation.specs.Reference.{Resource}
use Rattle.command.specs.declared.access.DataCommand.{DataCommand}
use Rattle.command.specs.declared.request.Command.{Command}
use Rattle.command.specs.declared.request.Command.TheVariants.{Access, Lock, Start, Commit, Rollback, Restart, Level, Restarts, Halt}
use Rattle.lock_name.specs.declared.lock.LockCommand.{LockCommand}
use Rattle.lock_name.specs.declared.lock.LockCommand.TheVariants.{Release, Only, More, Fewer}
use Rattle.m_text.specs.Reading.{◌>>=◌, begins_with_byte, after_byte}
use Rattle.m_text.specs.Literal.{front_letters, past_letters, front_digits, past_digits}
use Rattle.script.specs.declared.word.Word.{Word}
use Rattle.script.specs.declared.word.Word.TheVariants as words
use Rattle.script.specs.declared.word.AloneWord.TheVariants as alone_words
use Rattle.script.specs.declared.lock.Form.{Form}
use Rattle.script.specs.declared.lock.Form.TheVariants as forms
use Rattle.script.specs.Words.{act_of, function_of}
use Rattle.script.specs.Locking.{locking, locking_at, lock_names_at, timeout_at, form_of, past_form}
use Rattle.script.specs.Commands.{past_blank, blank_at, operands_at, lock_at, behind_act, behind_function, acts_at, functions_at, command_at, AreBehindAct, AreBehindFunction, ActComesToOperands, FunctionComesToOperands, SignedComesToOperands, ComesToOperands}
use Rattle.script.specs.Line.{end_of, spelled_by, reading_of, HasOperands}
use Rattle.script.specs.Statements.{IsWordAlone}
use Rattle.script.specs.laws.Line.{spelled_read, line_spelled}

-- whether a command has operands
abbrev lock_operands : LockCommand → Bool
lock_operands Release = false
lock_operands (Only ns) = true
lock_operands (More ns) = true
lock_operands (Fewer ns) = true

abbrev operands : Command → Bool
operands (Access c) = true
operands (Lock c) = lock_operands c
operands Start = false
operands Commit = false
operands Rollback = false
operands Restart = false
operands Level = false
operands Restarts = false
operands Halt = false

word_alone : (c : Command) → IsWordAlone c → operands c ≡ false
word_alone c (inl e) = ap operands e
word_alone c (inr (alone_words.Start, e)) = ap operands e
word_alone c (inr (alone_words.Commit, e)) = ap operands e
word_alone c (inr (alone_words.Rollback, e)) = ap operands e
word_alone c (inr (alone_words.Restart, e)) = ap operands e
word_alone c (inr (alone_words.Halt, e)) = ap operands e
word_alone c (inr (alone_words.Level, e)) = ap operands e
word_alone c (inr (alone_words.Restarts, e)) = ap operands e

-- what is read has operands, if anything is
abbrev lock_has : Option (LockCommand × List ℕ) → Bool
lock_has None = true
lock_has (Some x) = lock_operands x.0

abbrev has : Option (Command × List ℕ) → Bool
has None = true
has (Some x) = operands x.0

abbrev line_has : Option Command → Bool
line_has None = true
line_has (Some c) = operands c

-- LOCK with names
locking_has : (form : Form) (ns : List Resource) → lock_operands (locking form ns) ≡ true
locking_has forms.Only ns = refl
locking_has forms.More ns = refl
locking_has forms.Fewer ns = refl

locked : (text : List ℕ) → lock_has (locking_at text) ≡ true
unfolding locking_at
locked text = at (lock_names_at (past_form text))
  where
    behind : (ns : List Resource) (rest : Option (List ℕ)) → lock_has (◌>>=◌ {B = LockCommand × List ℕ} rest (λ rest. Some (locking (form_of text) ns, rest))) ≡ true
    behind ns None = refl
    behind ns (Some rest) = locking_has (form_of text) ns

    at : (names : Option (List Resource × List ℕ)) → lock_has (names >>= λ names. ◌>>=◌ {B = LockCommand × List ℕ} (timeout_at names.1) (λ rest. Some (locking (form_of text) names.0, rest))) ≡ true
    at None = refl
    at (Some names) = behind names.0 (timeout_at names.1)

lock_kept : (read : Option (LockCommand × List ℕ)) → lock_has read ≡ true → has (◌>>=◌ {B = Command × List ℕ} read (λ c. Some (Lock c.0, c.1))) ≡ true
lock_kept None h = refl
lock_kept (Some x) h = h

names_kept : (text : List ℕ) (read : Option (List ℕ)) → has (read >>= λ rest. ◌>>=◌ {B = Command × List ℕ} (locking_at rest) (λ c. Some (Lock c.0, c.1))) ≡ true
names_kept text None = refl
names_kept text (Some rest) = lock_kept (locking_at rest) (locked rest)

-- behind a word
data_kept : (read : Option (DataCommand × List ℕ)) → has (◌>>=◌ {B = Command × List ℕ} read (λ c. Some (Access c.0, c.1))) ≡ true
data_kept None = refl
data_kept (Some x) = refl

some_left : (n : ℕ) → 0 < n → (n == 0) ≡ false
some_left n h = at (n == 0) refl
  where
    at : (t : Bool) → (n == 0) ≡ t → t ≡ false
    at true e = absurd (omega (arith, h, eqb-true n 0 e))
    at false e = refl

act_has : (word : Word) (text : List ℕ) → AreBehindAct word text → has (behind_act word text) ≡ true
unfolding lock_at
act_has (words.Access word) text h = at (blank_at text)
  where
    at : (read : Option (List ℕ)) → has (read >>= λ rest. ◌>>=◌ {B = Command × List ℕ} (operands_at word rest) (λ c. Some (Access c.0, c.1))) ≡ true
    at None = refl
    at (Some rest) = data_kept (operands_at word rest)
act_has words.Lock text h = rw (some_left (length (past_blank text)) h.1) (names_kept text (blank_at text))
act_has (words.Alone word) text h = absurd h

function_has : (word : Word) (text : List ℕ) → AreBehindFunction word text → has (behind_function word text) ≡ true
function_has (words.Access word) text h = at (after_byte 40 text)
  where
    closed : (c : DataCommand) (read : Option (List ℕ)) → has (◌>>=◌ {B = Command × List ℕ} read (λ rest. Some (Access c, rest))) ≡ true
    closed c None = refl
    closed c (Some rest) = refl

    read_one : (read : Option (DataCommand × List ℕ)) → has (read >>= λ command. ◌>>=◌ {B = Command × List ℕ} (after_byte 41 command.1) (λ rest. Some (Access command.0, rest))) ≡ true
    read_one None = refl
    read_one (Some command) = closed command.0 (after_byte 41 command.1)

    at : (read : Option (List ℕ)) → has (read >>= λ rest. operands_at word rest >>= λ command. ◌>>=◌ {B = Command × List ℕ} (after_byte 41 command.1) (λ rest. Some (Access command.0, rest))) ≡ true
    at None = refl
    at (Some rest) = read_one (operands_at word rest)
function_has words.Lock text h = absurd h
function_has (words.Alone word) text h = absurd h

-- a command
acts_have : (text : List ℕ) → ActComesToOperands text → has (acts_at text) ≡ true
unfolding acts_at ActComesToOperands
acts_have text h = at (act_of (front_letters text)) h
  where
    at : (read : Option Word) → IsSomeAnd read (λ word. AreBehindAct word (past_letters text)) → has (read >>= λ word. behind_act word (past_letters text)) ≡ true
    at None g = absurd g
    at (Some word) g = act_has word (past_letters text) g

functions_have : (text : List ℕ) → FunctionComesToOperands text → has (functions_at text) ≡ true
unfolding functions_at FunctionComesToOperands
functions_have text h = at (function_of (front_letters text)) h
  where
    at : (read : Option Word) → IsSomeAnd read (λ word. AreBehindFunction word (past_letters text)) → has (read >>= λ word. behind_function word (past_letters text)) ≡ true
    at None g = absurd g
    at (Some word) g = function_has word (past_letters text) g

command_has : (text : List ℕ) → ComesToOperands text → has (command_at text) ≡ true
unfolding command_at ComesToOperands
command_has text h = at (begins_with_byte 36 text) h
  where
    at : (t : Bool) → SignedComesToOperands t text → has (cond t (functions_at (drop 1 text)) (acts_at text)) ≡ true
    at true g = functions_have (drop 1 text) g
    at false g = acts_have text g

-- a line
ended_has : (read : Option (Command × List ℕ)) → has read ≡ true → line_has (read >>= λ command. end_of command) ≡ true
ended_has None h = refl
ended_has (Some x) h = at (length (past_blank x.1) == 0)
  where
    at : (t : Bool) → line_has (cond t (Some x.0) None) ≡ true
    at true = h
    at false = refl

spelled_has : (line : List ℕ) → HasOperands line → line_has (spelled_by line) ≡ true
unfolding spelled_by
spelled_has line h = rw h.1 (at (length (front_digits line) == 0))
  where
    at : (t : Bool) → line_has (cond t None (command_at (past_blank (past_digits line)) >>= λ command. end_of command)) ≡ true
    at true = refl
    at false = ended_has (command_at (past_blank (past_digits line))) (command_has (past_blank (past_digits line)) h.2)

pub none_behind_words : (line : List ℕ) (job : ℕ) (c : Command) → reading_of line ≡ Ok (job, c) → IsWordAlone c → HasOperands line → ⊥
none_behind_words line job c e alone h =
    let spelled = spelled_read line job c (line_spelled line job c e).0 in
    let clash : true ≡ false = sym (spelled_has line h) ∙ ap line_has spelled.command ∙ word_alone c alone in
    cc
