-- What a session has seen behind a command of a block.
use Rattle.std.proofs.Common.{◌≡◌, ℕ, zero, suc, ◌<◌, ◌≤◌, Bool, true, false, List, [], ◌∷◌, ◌++◌, refl, sym, ap, ◌∙◌, arith, Result, Ok, Err}
use Rattle.std.specs.Prelude.{if◌then◌else◌}
use Rattle.refusal.specs.declared.Refusal.{Refusal}
use Rattle.lock_name.specs.declared.lock.LockCommand.{LockCommand}
use Rattle.command.specs.declared.access.DataCommand.{DataCommand}
use Rattle.command.specs.declared.access.Answer.{Answer}
use Rattle.command.specs.declared.request.Command.{Command}
use Rattle.command.specs.declared.request.Command.TheVariants.{Access, Lock as lock_command, Start, Commit, Rollback, Restart, Level, Restarts, Halt}
use Rattle.command.specs.declared.request.Reply.{Reply}
use Rattle.journal.specs.declared.unit.Unit.{Unit as JournalUnit}
use Rattle.journal.specs.declared.unit.Unit.TheVariants.{Back}
use Rattle.shared_engine.specs.Sessions.{Held, rolled_back}
use Rattle.shared_engine.specs.Engines.{HasEnded, gone_back}
use Rattle.shared_engine.specs.declared.locked.Ended.{Ended}
use Rattle.shared_engine.specs.declared.locked.Ended.TheVariants.{Committed, Restarted}
use Rattle.shared_engine.specs.Blocks.{HasSeen, AreSame, IsLone, IsTried, IsOpened, IsDeeper, IsCommitted, IsRolledBack, IsRestarted, HasDone}

-- ---- a command of a block: the session has seen all units before it, and so behind it

same_seen : (units more : List JournalUnit) (old new : Held) → AreSame units more old new → old.seen ≡ units → new.seen ≡ more
same_seen units more old new h seen = ap (λ (s : Held). s.seen) h.1 ∙ (seen ∙ sym h.0)

now_seen : (units more : List JournalUnit) (old new : Held) → HasSeen units more old new → new.seen ≡ more
now_seen units more old new h = ap (λ (s : Held). s.seen) h.1 ∙ sym h.0

pub lone_seen : (command : DataCommand) (result : Result Answer Refusal) (units more : List JournalUnit) (old new : Held) → IsLone command result units more old new → new.seen ≡ more
lone_seen command (Ok answer) units more old new h = ap (λ (s : Held). s.seen) h.1.1 ∙ sym h.1.0
lone_seen command (Err refusal) units more old new h = now_seen units more old new h.1

pub tried_seen : (command : LockCommand) (result : Result Bool Refusal) (units more : List JournalUnit) (old new : Held) → IsTried command result units more old new → new.seen ≡ more
tried_seen command (Ok had) units more old new h = ap (λ (s : Held). s.seen) h.1.1 ∙ sym h.1.0
tried_seen command (Err refusal) units more old new h = now_seen units more old new h.1

opened_seen : (result : Result ℕ Refusal) (units more : List JournalUnit) (old new : Held) → IsOpened result units more old new → new.seen ≡ more
opened_seen (Ok level) units more old new h = ap (λ (s : Held). s.seen) h.1.1.is ∙ sym h.1.0
opened_seen (Err refusal) units more old new h = absurd h

deeper_seen : (result : Result ℕ Refusal) (units more : List JournalUnit) (old new : Held) → IsDeeper result units more old new → old.seen ≡ units → new.seen ≡ more
deeper_seen (Ok level) units more old new h seen = ap (λ (s : Held). s.seen) h.1.1 ∙ (seen ∙ sym h.1.0)
deeper_seen (Err refusal) units more old new h seen = same_seen units more old new h.1 seen

pub ended_seen : (end : Ended) (units more : List JournalUnit) (old new : Held) → HasEnded end units more old new → new.seen ≡ more
ended_seen Committed units more old new h = ap (λ (s : Held). s.seen) h.1.1 ∙ sym h.1.0
ended_seen (Restarted restarts) units more old new h = ap (λ (s : Held). s.seen) h.1.1.0

committed_seen : (result : Result Reply Refusal) (units more : List JournalUnit) (old new : Held) → IsCommitted result units more old new → new.seen ≡ more
committed_seen (Ok reply) units more old new h = ended_seen Committed units more old new h.1
committed_seen (Err refusal) units more old new h = now_seen units more old new h.1

rolled_seen : (units more : List JournalUnit) (old : Held) → more ≡ gone_back old.state units → old.seen ≡ units → (rolled_back more old).seen ≡ more
rolled_seen units more old is seen = by_took old.state.took_lock is
  where
    by_took : (b : Bool) → more ≡ (if b then units ++ Back old.state.work.job ∷ [] else units) → (if b then more else old.seen) ≡ more
    by_took true e = refl
    by_took false e = seen ∙ sym e

back_seen : (result : Result (Unit {0}) Refusal) (units more : List JournalUnit) (old new : Held) → IsRolledBack result units more old new → old.seen ≡ units → new.seen ≡ more
back_seen (Ok done) units more old new h seen = ap (λ (s : Held). s.seen) h.1 ∙ rolled_seen units more old h.0 seen
back_seen (Err refusal) units more old new h seen = now_seen units more old new h.1

anew_seen : (result : Result ℕ Refusal) (units more : List JournalUnit) (old new : Held) → IsRestarted result units more old new → new.seen ≡ more
anew_seen (Ok restarts) units more old new h = ap (λ (s : Held). s.seen) h.1.1
anew_seen (Err refusal) units more old new h = now_seen units more old new h.1

by_level : {P : Type 0} (n : ℕ) → (n ≡ 0 → P) → (1 ≤ n → P) → P
by_level zero outside inside = outside refl
by_level (suc n) outside inside = inside (omega arith)

by_levels : {P : Type 0} (n : ℕ) → (n ≡ 0 → P) → (n ≡ 1 → P) → (1 < n → P) → P
by_levels zero outside outermost inside = outside refl
by_levels (suc zero) outside outermost inside = outermost refl
by_levels (suc (suc n)) outside outermost inside = inside (omega arith)

pub done_seen : (command : Command) (reply : Reply) (units more : List JournalUnit) (old new : Held) → HasDone command reply units more old new → old.seen ≡ units → new.seen ≡ more
done_seen (Access command) reply units more old new h seen =
    by_level {P = new.seen ≡ more} old.state.level (λ none. lone_seen command h.0 units more old new (h.2 none)) (λ deep. let read = h.3 deep in read.1.1.1.1.1 ∙ sym read.1.0)
done_seen (lock_command command) reply units more old new h seen = tried_seen command h.0 units more old new h.2
done_seen Start reply units more old new h seen =
    by_level {P = new.seen ≡ more} old.state.level (λ none. opened_seen h.0 units more old new (h.2 none)) (λ deep. deeper_seen h.0 units more old new (h.3 deep) seen)
done_seen Commit reply units more old new h seen =
    by_levels {P = new.seen ≡ more} old.state.level (λ none. same_seen units more old new (h.2 none).1 seen) (λ one. committed_seen h.0 units more old new (h.3 one))
    (λ deep. let lower = h.4 deep in ap (λ (s : Held). s.seen) lower.1.1 ∙ (seen ∙ sym lower.1.0))
done_seen Rollback reply units more old new h seen =
    by_level {P = new.seen ≡ more} old.state.level (λ none. same_seen units more old new (h.2 none).1 seen) (λ deep. back_seen h.0 units more old new (h.3 deep) seen)
done_seen Restart reply units more old new h seen =
    by_level {P = new.seen ≡ more} old.state.level (λ none. same_seen units more old new (h.2 none).1 seen) (λ deep. anew_seen h.0 units more old new (h.3 deep))
done_seen Level reply units more old new h seen = same_seen units more old new h.1 seen
done_seen Restarts reply units more old new h seen = same_seen units more old new h.1 seen
done_seen Halt reply units more old new h seen = absurd h
