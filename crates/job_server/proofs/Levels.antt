-- A block that was cut at a LOCK has not ended its transaction: each command leaves a level that is no lower than the block's own count.
use Rattle.std.proofs.Common.{◌≡◌, ℕ, ◌+◌, ◌-◌, ◌≤◌, ◌<◌, Bool, true, false, List, [], ◌∷◌, ◌++◌, refl, sym, ap, ◌∙◌, subst, arith, true≢false}
use Rattle.std.specs.Prelude.{Option, Some, None, Result, Ok, Err, nat_lt, min, if◌then◌else◌}
use Rattle.std.proofs.Math.Nat.{min-le_left, min-le_right}
use Rattle.refusal.specs.declared.Refusal.{Refusal}
use Rattle.collation.specs.Limits.{most_levels}
use Rattle.lock_name.specs.declared.lock.LockCommand.{LockCommand}
use Rattle.command.specs.declared.access.DataCommand.{DataCommand}
use Rattle.command.specs.declared.access.Answer.{Answer}
use Rattle.command.specs.declared.request.Command.{Command}
use Rattle.command.specs.declared.request.Command.TheVariants.{Access, Lock as lock_command, Start, Commit, Rollback, Restart, Level, Restarts, Halt}
use Rattle.command.specs.declared.request.Reply.{Reply}
use Rattle.command.specs.declared.request.Reply.TheVariants.{Answered, Finished, Had, Count, AtLevel, Committed, Restarted, Refused}
use Rattle.journal.specs.declared.unit.Unit.{Unit as JournalUnit}
use Rattle.journal.specs.History.{initial, after}
use Rattle.job_core.specs.Sessions.{Session as JobSession, after_lock, IsAnsweredOrRefused}
use Rattle.shared_engine.specs.Sessions.{Held, noted_lock}
use Rattle.shared_engine.specs.Blocks.{said, IsReadAt, IsTried, IsDeeper, IsLower, IsRestarted, HasDone, AreDone, is_blocked}
use Rattle.job_scripts.specs.Blocks.{level_after, IsOneBlock}
use Rattle.job_server.specs.Steps.{IsNoEnd}
use Rattle.job_server.proofs.Stepping.{AreNoEnds, other_no_end, command_no_end, lock_no_end}

-- ---- one command

-- it ended no transaction, and left no lower level than its block counts
record GoesOn (command : Command) (reply : Reply) (level : ℕ) (new : Held) : Type 0 where
  pub none : IsNoEnd command reply
  pub level_is : level_after command level ≤ new.state.level

same_level : (a b : Held) → a ≡ b → a.state.level ≡ b.state.level
same_level a b is = ap (λ (h : Held). h.state.level) is

answered_level : (command : DataCommand) (result : Result Answer Refusal) (base : List JournalUnit) (old new : JobSession) → IsAnsweredOrRefused command result (after base initial).map old new → new.level ≡ old.level
answered_level command (Ok answer) base old new h = h.level
answered_level command (Err refusal) base old new h = ap (λ (s : JobSession). s.level) h.same

read_level : (start : Option (List JournalUnit)) (command : DataCommand) (result : Result Answer Refusal) (old new : JobSession) → IsReadAt start command result old new → new.level ≡ old.level
read_level None command result old new h = absurd h
read_level (Some base) command result old new h = answered_level command result base old new h

noted_level : (s : JobSession) → (noted_lock s).level ≡ s.level
noted_level s = by_test (nat_lt 0 s.level)
  where
    by_test : (b : Bool) → (if b then after_lock s else s).level ≡ s.level
    by_test true = refl
    by_test false = refl

tried_level : (command : LockCommand) (result : Result Bool Refusal) (units more : List JournalUnit) (old new : Held) → IsTried command result units more old new → new.state.level ≡ old.state.level
tried_level command (Ok had) units more old new h = ap (λ (x : Held). x.state.level) h.1.1 ∙ noted_level old.state
tried_level command (Err refusal) units more old new h = ap (λ (x : Held). x.state.level) h.1.1

deeper_level : (result : Result ℕ Refusal) (units more : List JournalUnit) (old new : Held) (level : ℕ) → level ≤ old.state.level → IsDeeper result units more old new → min (level + 1) most_levels ≤ new.state.level
deeper_level (Ok now) units more old new level below h = omega (arith, below, min-le_left (level + 1) most_levels, h.0.0, ap (λ (x : Held). x.state.level) h.1.1)
deeper_level (Err refusal) units more old new level below h = omega (arith, min-le_right (level + 1) most_levels, h.0.1, ap (λ (x : Held). x.state.level) h.1.1)

restarted_level : (result : Result ℕ Refusal) (units more : List JournalUnit) (old new : Held) → 1 ≤ old.state.level → IsRestarted result units more old new → 1 ≤ new.state.level
restarted_level (Ok restarts) units more old new one h = omega (arith, ap (λ (x : Held). x.state.level) h.1.1)
restarted_level (Err refusal) units more old new one h = omega (arith, one, ap (λ (x : Held). x.state.level) h.1.1)

lower_reply : (level : ℕ) (reply : Reply) → reply ≡ AtLevel level → IsNoEnd Commit reply
lower_reply level reply is = subst (IsNoEnd Commit) (sym is) (other_no_end Commit (AtLevel level) (λ e. absurd (cc)) (λ e. absurd (cc)))

goes_on : (command : Command) (reply : Reply) (units more : List JournalUnit) (old new : Held) (level : ℕ) → 1 ≤ level → level ≤ old.state.level → 0 < level_after command level → HasDone command reply units more old new → GoesOn command reply level new
goes_on (Access command) reply units more old new level one below stays h = record {
  none = command_no_end (Access command) reply (λ e. absurd (cc)) (λ e. absurd (cc)) (λ e. absurd (cc));
  level_is = omega (arith, below, read_level old.start command h.0 old.state new.state (h.3 (omega (arith, one, below))).0);
}
goes_on (lock_command command) reply units more old new level one below stays h = record {
  none = lock_no_end command reply;
  level_is = omega (arith, below, tried_level command h.0 units more old new h.2);
}
goes_on Start reply units more old new level one below stays h = record {
  none = command_no_end Start reply (λ e. absurd (cc)) (λ e. absurd (cc)) (λ e. absurd (cc));
  level_is = deeper_level h.0 units more old new level below (h.3 (omega (arith, one, below)));
}
goes_on Commit reply units more old new level one below stays h =
    let lower : IsLower h.0 units more old new = h.4 (omega (arith, stays, below)) in record {
      none = lower_reply (old.state.level - 1) reply (h.1 ∙ ap (said (λ (r : Reply). r)) lower.0);
      level_is = omega (arith, below, one, ap (λ (x : Held). x.state.level) lower.1.1);
    }
goes_on Rollback reply units more old new level one below stays h = absurd (omega (arith, stays))
goes_on Restart reply units more old new level one below stays h = record {
  none = command_no_end Restart reply (λ e. absurd (cc)) (λ e. absurd (cc)) (λ e. absurd (cc));
  level_is = restarted_level h.0 units more old new (omega (arith, one, below)) (h.3 (omega (arith, one, below)));
}
goes_on Level reply units more old new level one below stays h = record {
  none = command_no_end Level reply (λ e. absurd (cc)) (λ e. absurd (cc)) (λ e. absurd (cc));
  level_is = omega (arith, below, same_level new old h.1.1);
}
goes_on Restarts reply units more old new level one below stays h = record {
  none = command_no_end Restarts reply (λ e. absurd (cc)) (λ e. absurd (cc)) (λ e. absurd (cc));
  level_is = omega (arith, below, same_level new old h.1.1);
}
goes_on Halt reply units more old new level one below stays h = absurd h

-- ---- a block

no_more : (before : List Reply) (last : Reply) (units more : List JournalUnit) (old new : Held) → AreDone [] (before ++ last ∷ []) units more old new → ⊥
no_more [] last units more old new h = absurd h
no_more (reply ∷ before) last units more old new h = absurd h

none_behind : (commands : List Command) → AreNoEnds commands []
none_behind [] = tt
none_behind (command ∷ commands) = tt

-- those up to the last that was done, which may be replied so
pub cut_no_ends : (level : ℕ) (front back : List Command) (before : List Reply) (last : Reply) (units more : List JournalUnit) (old new : Held) → 1 ≤ level → level ≤ old.state.level → IsOneBlock level (front ++ back) → AreDone front (before ++ last ∷ []) units more old new
    → ((command : Command) → IsNoEnd command last) → AreNoEnds front (before ++ last ∷ [])
cut_no_ends level [] back before last units more old new one below block done none = absurd (no_more before last units more old new done)
cut_no_ends level (command ∷ front) back [] last units more old new one below block done none = (none command, none_behind front)
cut_no_ends level (command ∷ []) back (reply ∷ before) last units more old new one below block done none = absurd (no_more before last done.0 more done.1 new done.3)
cut_no_ends level (command ∷ (next ∷ front)) back (reply ∷ before) last units more old new one below block done none =
    let on : GoesOn command reply level done.1 = goes_on command reply units done.0 old done.1 level one below block.0 done.2 in
    (on.none, cut_no_ends (level_after command level) (next ∷ front) back before last done.0 more done.1 new (omega (arith, block.0)) on.level_is block.1 done.3 none)

-- a LOCK that was blocked
pub blocked_no_end : (must : Bool) (reply : Reply) → is_blocked must reply ≡ true → (command : Command) → IsNoEnd command reply
blocked_no_end false reply is command = absurd (true≢false (sym is))
blocked_no_end true (Answered answer) is command = absurd (true≢false (sym is))
blocked_no_end true Finished is command = absurd (true≢false (sym is))
blocked_no_end true (Had had) is command = other_no_end command (Had had) (λ e. absurd (cc)) (λ e. absurd (cc))
blocked_no_end true (Count n) is command = absurd (true≢false (sym is))
blocked_no_end true (AtLevel n) is command = absurd (true≢false (sym is))
blocked_no_end true Committed is command = absurd (true≢false (sym is))
blocked_no_end true (Restarted n) is command = absurd (true≢false (sym is))
blocked_no_end true (Refused refusal) is command = absurd (true≢false (sym is))
