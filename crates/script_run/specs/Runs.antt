-- What the private functions of a run do to its state and to the writer.
use Rattle.std.specs.Prelude.{◌≡◌, ◌≤◌, ◌⊎◌, ℕ, Bool, List, [], ◌++◌, map, Option, length}
use Rattle.std.specs.Io.KnownBytes.{Appends, Consumes, IsAtEnd}
use Rattle.collation.specs.Database.{Database}
use Rattle.journal.specs.History.{initial, after}
use Rattle.journal.specs.Story.{Machine}
use Rattle.serial.specs.Soundness.{IsGood}
use Rattle.listing.specs.Bytes.{WritesBeginning, WritesFront}
use Rattle.script_run.specs.Lines.{nonempty_line, lines_of, AreLinesBefore}
use Rattle.script_run.specs.Output.{Answer, AreAnswers, AreHalted, left_by, left_open, left_at_end, text_of, noted, ending, IsEndingFront}
use Rattle.script_run.specs.declared.answers.Script.{Script}

-- the lines were answered, one after the other, and each reply was written or is gathered
pub record Ran (lines : List (List ℕ)) (old new : Script) (before now : Option (List ℕ)) : Type 0 where
  pub answers : List Answer
  pub of_lines : map (λ a. a.0) answers ≡ lines
  pub each : AreAnswers old.core.machine answers
  pub machine : new.core.machine ≡ left_by answers old.core.machine
  pub passes : WritesFront before now (old.out.items ++ text_of answers) new.out.items
  pub outcome : new.outcome ≡ noted answers old.outcome
  pub jobs : new.jobs ≡ left_open answers old.jobs
  pub good : IsGood old.core.machine → IsGood new.core.machine

-- the run broke off: the lines have answers of whose text a beginning was written
pub record Broke (lines : List (List ℕ)) (old : Script) (before now : Option (List ℕ)) : Type 0 where
  pub answers : List Answer
  pub of_lines : map (λ a. a.0) answers ≡ lines
  pub each : AreAnswers old.core.machine answers
  pub good : IsGood old.core.machine → IsGood (left_by answers old.core.machine)
  pub begun : WritesBeginning before now (old.out.items ++ text_of answers)

-- lines at the front of the text were answered, up to the rest
pub record RanFront (text rest : List ℕ) (old new : Script) (before now : Option (List ℕ)) : Type 0 where
  pub lines : List (List ℕ)
  pub ran : Ran lines old new before now
  pub split : (more : List ℕ) → lines_of (text ++ more) ≡ lines ++ lines_of (rest ++ more)
  pub cut : AreLinesBefore rest text

-- the run broke off at the front of the text
pub record BrokeFront (text : List ℕ) (old : Script) (before now : Option (List ℕ)) : Type 0 where
  pub lines : List (List ℕ)
  pub rest : List ℕ
  pub broke : Broke lines old before now
  pub split : (more : List ℕ) → lines_of (text ++ more) ≡ lines ++ lines_of (rest ++ more)

-- the last line was answered, the open jobs were halted in the core that is left, and all that was gathered and the ending were written
pub record RanEnd (listed : Bool) (line : List ℕ) (old new : Script) (before now : Option (List ℕ)) : Type 0 where
  pub answers : List Answer
  pub of_lines : map (λ a. a.0) answers ≡ nonempty_line line
  pub each : AreAnswers old.core.machine answers
  pub good : IsGood old.core.machine → IsGood (left_at_end answers old.jobs old.core.machine)
  pub outcome : new.outcome ≡ noted answers old.outcome
  pub machine : AreHalted (left_open answers old.jobs) (left_by answers old.core.machine) new.core.machine
  pub written : Appends before now ((old.out.items ++ text_of answers) ++ ending listed (after (left_at_end answers old.jobs old.core.machine).units initial).map)

-- a beginning of that was written
pub record BrokeEnd (listed : Bool) (line : List ℕ) (old : Script) (before now : Option (List ℕ)) : Type 0 where
  pub answers : List Answer
  pub of_lines : map (λ a. a.0) answers ≡ nonempty_line line
  pub each : AreAnswers old.core.machine answers
  pub good : IsGood old.core.machine → IsGood (left_at_end answers old.jobs old.core.machine)
  pub begun : WritesBeginning before now ((old.out.items ++ text_of answers) ++ ending listed (after (left_at_end answers old.jobs old.core.machine).units initial).map)

-- of all lines these are the answers that were written, with the ending; and the core that is left is what they leave, each open job then halted
pub record HasLeft (start : Machine) (listed : Bool) (bytes : List ℕ) (left : Machine) (before now : Option (List ℕ)) : Type 0 where
  pub answers : List Answer
  pub of_lines : map (λ a. a.0) answers ≡ lines_of bytes
  pub each : AreAnswers start answers
  pub machine : AreHalted (left_open answers []) (left_by answers start) left
  pub written : Appends before now (text_of answers ++ ending listed (after (left_at_end answers [] start).units initial).map)

-- the piece was read, or there was none left
pub record HasRead (old new : Option (List ℕ)) (piece : List ℕ) : Type 0 where
  pub consumed : Consumes old new piece
  pub ended : length piece ≡ 0 → IsAtEnd new

-- ---- where memory was refused

-- some lines were answered, and each of their replies was written or is gathered; the next may have been done, and its reply is lost; the others weren't begun
pub record Stopped (lines : List (List ℕ)) (old new : Script) (before now : Option (List ℕ)) : Type 0 where
  pub answers : List Answer
  pub lost : List Answer
  pub unread : List (List ℕ)
  pub few : length lost ≤ 1
  pub of_lines : map (λ a. a.0) answers ++ (map (λ a. a.0) lost ++ unread) ≡ lines
  pub each : AreAnswers old.core.machine (answers ++ lost)
  pub machine : new.core.machine ≡ left_by (answers ++ lost) old.core.machine
  pub good : IsGood old.core.machine → IsGood (left_by answers old.core.machine)
  pub passes : WritesFront before now (old.out.items ++ text_of answers) new.out.items

-- so at the front of the text
pub record StoppedFront (text : List ℕ) (old new : Script) (before now : Option (List ℕ)) : Type 0 where
  pub lines : List (List ℕ)
  pub rest : List ℕ
  pub stopped : Stopped lines old new before now
  pub split : (more : List ℕ) → lines_of (text ++ more) ≡ lines ++ lines_of (rest ++ more)

-- what was gathered, and a front of what follows the replies, was written or is gathered
pub record EndedFront (listed : Bool) (m : Database) (gathered left : List ℕ) (before now : Option (List ℕ)) : Type 0 where
  pub behind : List ℕ
  pub front : (behind ≡ []) ⊎ IsEndingFront listed [] m behind
  pub passes : WritesFront before now (gathered ++ behind) left

-- so in the last line, in the open jobs' HALTs, or in what follows the replies
pub record StoppedEnd (listed : Bool) (line : List ℕ) (old new : Script) (before now : Option (List ℕ)) : Type 0 where
  pub answers : List Answer
  pub lost : List Answer
  pub unread : List (List ℕ)
  pub behind : List ℕ
  pub few : length lost ≤ 1
  pub of_lines : map (λ a. a.0) answers ++ (map (λ a. a.0) lost ++ unread) ≡ nonempty_line line
  pub each : AreAnswers old.core.machine (answers ++ lost)
  pub machine : (map (λ a. a.0) lost ++ unread ≡ []) ⊎ (new.core.machine ≡ left_by (answers ++ lost) old.core.machine)
  pub good : IsGood old.core.machine → IsGood (left_by answers old.core.machine)
  pub front : (behind ≡ []) ⊎ IsEndingFront listed (map (λ a. a.0) lost ++ unread) (after (left_at_end answers old.jobs old.core.machine).units initial).map behind
  pub passes : WritesFront before now ((old.out.items ++ text_of answers) ++ behind) new.out.items

-- so in a whole script. Where a line has no reply, the machine is what the answered lines and the one whose reply is lost leave
pub record HasGathered (start : Machine) (listed : Bool) (bytes : List ℕ) (new : Script) (before now : Option (List ℕ)) : Type 0 where
  pub answers : List Answer
  pub lost : List Answer
  pub unread : List (List ℕ)
  pub behind : List ℕ
  pub few : length lost ≤ 1
  pub of_lines : lines_of bytes ≡ map (λ a. a.0) answers ++ (map (λ a. a.0) lost ++ unread)
  pub each : AreAnswers start (answers ++ lost)
  pub machine : (map (λ a. a.0) lost ++ unread ≡ []) ⊎ (new.core.machine ≡ left_by (answers ++ lost) start)
  pub good : IsGood (left_by answers start)
  pub front : (behind ≡ []) ⊎ IsEndingFront listed (map (λ a. a.0) lost ++ unread) (after (left_at_end answers [] start).units initial).map behind
  pub passes : WritesFront before now (text_of answers ++ behind) new.out.items
