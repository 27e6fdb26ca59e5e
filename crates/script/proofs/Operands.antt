-- Where operands are read.
use Rattle.std.proofs.Common.{◌≡◌, ◌<◌, ℕ, zero, suc, Bool, true, false, cond, List, length, drop, Option, Some, None, refl, subst, arith}
use Rattle.std.specs.Prelude.{◌==◌}
use Rattle.refusal.specs.declared.Refusal.{Refusal}
use Rattle.refusal.specs.declared.Refusal.TheVariants.{BadLine, OutOfMemory}
use Rattle.m_text.specs.Reading.{begins_with_byte, after_byte, IsRefusedAlways}
use Rattle.m_text.specs.Literal.{front_digits, past_digits}
use Rattle.script.specs.Commands.{begins_blank, past_blank, blank_at, ComesToOperands}
use Rattle.script.specs.Line.{HasOperands}

-- what takes no memory isn't refused any
pub never_memory : {Y : Type 0} {P : Type 0} → (refusal : Refusal) (read : Option Y) → IsRefusedAlways refusal read → refusal ≡ OutOfMemory → P
never_memory BadLine read h e = absurd cc
never_memory refusal read h e = absurd h

-- a blank is there
pub blank_there : (text rest : List ℕ) → blank_at text ≡ Some rest → begins_blank text ≡ true
blank_there text rest e = at (begins_blank text) e
  where
    at : (t : Bool) → cond t (Some (past_blank text)) None ≡ Some rest → t ≡ true
    at true h = refl
    at false h = absurd cc

-- it is what follows
pub blank_past : (text rest : List ℕ) → blank_at text ≡ Some rest → rest ≡ past_blank text
blank_past text rest e = at (begins_blank text) e
  where
    at : (t : Bool) → cond t (Some (past_blank text)) None ≡ Some rest → rest ≡ past_blank text
    at true h = cc
    at false h = absurd cc

-- the byte is there
pub byte_there : (b : ℕ) (text rest : List ℕ) → after_byte b text ≡ Some rest → begins_with_byte b text ≡ true
byte_there b text rest e = at (begins_with_byte b text) e
  where
    at : (t : Bool) → cond t (Some (drop 1 text)) None ≡ Some rest → t ≡ true
    at true h = refl
    at false h = absurd cc

pub ruleset only_there = (never_memory, blank_there, byte_there)

-- operands of a line
pub in_line : (line rest : List ℕ) → (length (front_digits line) == 0) ≡ false → blank_at (past_digits line) ≡ Some rest → ComesToOperands rest → HasOperands line
in_line line rest some blank h = (
  some_of (length (front_digits line)) some,
  blank_there (past_digits line) rest blank,
  subst ComesToOperands (blank_past (past_digits line) rest blank) h,
)
  where
    some_of : (n : ℕ) → (n == 0) ≡ false → 0 < n
    some_of zero e = absurd cc
    some_of (suc n) e = omega arith

pub ruleset of_lines = (never_memory, in_line)
