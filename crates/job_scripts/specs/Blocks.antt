-- Blocks: lines that are done under one hold of the lock. Source: docs/CONCURRENCY.md, "Many jobs at the same time".
use Rattle.std.specs.Prelude.{◌≡◌, ◌⊎◌, ⊤, ℕ, ◌+◌, ◌-◌, ◌<◌, Bool, true, List, [], ◌∷◌, ◌++◌, Option, Some, None, min}
use Rattle.refusal.specs.declared.Refusal.{Refusal}
use Rattle.collation.specs.Limits.{most_levels}
use Rattle.command.specs.declared.request.Command.{Command}
use Rattle.command.specs.declared.request.Command.TheVariants.{Access, Lock, Start, Commit, Rollback, Restart, Level, Restarts, Halt}
use Rattle.command.specs.declared.request.Reply.{Reply}
use Rattle.command.specs.declared.request.Reply.TheVariants.{Refused}
use Rattle.job_scripts.specs.Lines.{Asks, IsRefusedAs}
use Rattle.job_scripts.specs.Timeouts.{timeout_in}

-- the level of a transaction after a command in it, as if memory and stamps were there
abbrev pub level_after : Command → ℕ → ℕ
level_after (Access command) level = level
level_after (Lock command) level = level
level_after Start level = min (level + 1) most_levels
level_after Commit level = level - 1
level_after Rollback level = 0
level_after Restart level = 1
level_after Level level = level
level_after Restarts level = level
level_after Halt level = 0

-- the level of a transaction after commands in it
abbrev pub level_behind : ℕ → List Command → ℕ
level_behind level [] = level
level_behind level (c ∷ cs) = level_behind (level_after c level) cs

-- the transaction stays open behind each of these commands but the last
abbrev pub IsOneBlock : ℕ → List Command → Type 0
IsOneBlock level [] = Unit {0}
IsOneBlock level (c ∷ []) = Unit {0}
IsOneBlock level (c ∷ (d ∷ cs)) = (0 < level_after c level) × IsOneBlock (level_after c level) (d ∷ cs)

-- replies in the places of lines: a refused line gets its refusal, another the next reply
abbrev pub in_place : List (Option Refusal) → List Reply → List Reply
in_place [] replies = []
in_place (Some refusal ∷ places) replies = Refused refusal ∷ in_place places replies
in_place (None ∷ places) [] = []
in_place (None ∷ places) (reply ∷ replies) = reply ∷ in_place places replies

-- each of a job's lines is refused so, or asks for the next command
abbrev pub AreAsked : ℕ → List (List ℕ) → List (Option Refusal) → List Command → Type 0
AreAsked job [] [] [] = ⊤
AreAsked job [] [] (command ∷ commands) = ⊥
AreAsked job [] (place ∷ places) commands = ⊥
AreAsked job (line ∷ lines) [] commands = ⊥
AreAsked job (line ∷ lines) (Some refusal ∷ places) commands = IsRefusedAs job line refusal × AreAsked job lines places commands
AreAsked job (line ∷ lines) (None ∷ places) [] = ⊥
AreAsked job (line ∷ lines) (None ∷ places) (command ∷ commands) = Asks job line command × AreAsked job lines places commands

-- each of the lines that asks for a command has to have its names, if that is a LOCK, where it has no timeout
abbrev pub AreMusts : List (List ℕ) → List (Option Refusal) → List Bool → Type 0
AreMusts [] [] [] = ⊤
AreMusts [] [] (must ∷ musts) = ⊥
AreMusts [] (place ∷ places) musts = ⊥
AreMusts (line ∷ lines) [] musts = ⊥
AreMusts (line ∷ lines) (Some refusal ∷ places) musts = AreMusts lines places musts
AreMusts (line ∷ lines) (None ∷ places) [] = ⊥
AreMusts (line ∷ lines) (None ∷ places) (must ∷ musts) = (timeout_in line ≡ None → must ≡ true) × AreMusts lines places musts

-- lines stand at the front of a text's lines, before those of the rest, and these places and commands are theirs
pub record AreInFront (job : ℕ) (all rest : List (List ℕ)) (places : List (Option Refusal)) (commands : List Command) (musts : List Bool) : Type 0 where
  pub front : List (List ℕ)
  pub split : all ≡ front ++ rest
  pub asked : AreAsked job front places commands
  pub timed : AreMusts front places musts

-- behind these commands no transaction is open, or no line is left, or the next one asks for HALT
abbrev pub EndsBlock : ℕ → List Command → List (List ℕ) → Type 0
EndsBlock job commands [] = ⊤
EndsBlock job commands (line ∷ lines) = (level_behind 1 commands ≡ 0) ⊎ Asks job line Halt
