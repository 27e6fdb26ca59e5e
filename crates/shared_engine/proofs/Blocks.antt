-- A block command by command.
use Rattle.std.proofs.Common.{◌≡◌, ◌≢◌, ℕ, zero, suc, ◌+◌, ◌≤◌, List, [], ◌∷◌, ◌++◌, length, refl, sym, ap, ◌∙◌, subst, arith, append_assoc, append-nil, length-append, true≢false}
use Rattle.std.specs.Prelude.{Bool, true, false, Result, Ok, Err, Option, Some, None, IfSome, IsSome}
use Rattle.std.specs.List.{All}
use Rattle.std.proofs.lemmas.List.Elements.{All-rest}
use Rattle.refusal.specs.declared.Refusal.{Refusal}
use Rattle.command.specs.declared.access.DataCommand.{DataCommand}
use Rattle.command.specs.declared.access.Answer.{Answer}
use Rattle.command.specs.declared.request.Command.{Command}
use Rattle.command.specs.declared.request.Command.TheVariants.{Commit, Halt}
use Rattle.command.specs.declared.request.Reply.{Reply}
use Rattle.command.specs.declared.request.Reply.TheVariants.{Answered, Finished, Had, Count, AtLevel, Committed, Restarted, Refused}
use Rattle.journal.specs.declared.unit.Unit.{Unit as JournalUnit}
use Rattle.journal.specs.History.{initial, after}
use Rattle.job_core.specs.Sessions.{Session as JobSession, IsAnsweredOrRefused}
use Rattle.shared_engine.specs.Sessions.{Held, begun_anew}
use Rattle.shared_engine.specs.declared.serial_run.SerialRun.{SerialRun}
use Rattle.shared_engine.specs.Blocks.{said, IsCommitted, IsReadAt, HasDone, AreDone, is_blocked, must_in, AreHad, IsCut, HasCome, IsNoRestart, NoneRestarts}

-- what a test of the last reply tells, at the place of its command
pub told_blocked : (musts : List Bool) (place count : ℕ) (must told : Bool) (reply : Reply) → place ≡ count → must ≡ must_in musts place → told ≡ is_blocked must reply → is_blocked (must_in musts count) reply ≡ told
told_blocked musts place count must told reply at is test =
    ap (λ (n : ℕ). is_blocked (must_in musts n) reply) (sym at) ∙ (ap (λ (m : Bool). is_blocked m reply) (sym is) ∙ sym test)

-- one more is done behind others
done_more : (commands : List Command) (replies : List Reply) (units between more : List JournalUnit) (old middle new : Held) (command : Command) (reply : Reply) → AreDone commands replies units between old middle → HasDone command reply between more middle new
    → AreDone (commands ++ command ∷ []) (replies ++ reply ∷ []) units more old new
done_more [] [] units between more old middle new command reply first last =
    (more, new, subst (λ (h : Held). HasDone command reply units more h new) first.1 (subst (λ (us : List JournalUnit). HasDone command reply us more middle new) first.0 last), (refl, refl))
done_more [] (r ∷ rs) units between more old middle new command reply first last = absurd first
done_more (c ∷ cs) [] units between more old middle new command reply first last = absurd first
done_more (c ∷ cs) (r ∷ rs) units between more old middle new command reply first last = (first.0, first.1, first.2, done_more cs rs first.0 between more first.1 middle new command reply first.3 last)

-- the commands in front of the rest were done
pub record IsSoFar (block rest : List Command) (replies : List Reply) (first units : List JournalUnit) (begun now : Held) : Type 0 where
  pub front : List Command
  pub split : block ≡ front ++ rest
  pub done : AreDone front replies first units begun now

pub so_far_begun : (block : List Command) (first : List JournalUnit) (begun : Held) → IsSoFar block block [] first first begun begun
so_far_begun block first begun = record { front = []; split = refl; done = (refl, refl) }

-- none yet
pub so_far_first : (block rest : List Command) (replies : List Reply) (first units : List JournalUnit) (begun now : Held) → rest ≡ block → replies ≡ [] → units ≡ first → now ≡ begun → IsSoFar block rest replies first units begun now
so_far_first block rest replies first units begun now all none same is = record { front = []; split = sym all; done = subst (λ (rs : List Reply). AreDone [] rs first units begun now) (sym none) (same, is) }

pub so_far_next : (block rest : List Command) (command : Command) (replies : List Reply) (reply : Reply) (first units between : List JournalUnit) (begun now middle : Held) → IsSoFar block (command ∷ rest) replies first units begun now
    → HasDone command reply units between now middle → IsSoFar block rest (replies ++ reply ∷ []) first between begun middle
so_far_next block rest command replies reply first units between begun now middle before done = record {
  front = before.front ++ command ∷ [];
  split = before.split ∙ sym (append_assoc before.front (command ∷ []) rest);
  done = done_more before.front replies first units between begun now middle command reply before.done done;
}

pub so_far_all : (block rest : List Command) (replies : List Reply) (first units : List JournalUnit) (begun now : Held) → rest ≡ [] → IsSoFar block rest replies first units begun now → AreDone block replies first units begun now
so_far_all block rest replies first units begun now none is =
    subst (λ (cs : List Command). AreDone cs replies first units begun now) (sym (is.split ∙ (ap (λ (cs : List Command). is.front ++ cs) none ∙ append-nil is.front))) is.done

-- as many replies as commands
pub done_each : (commands : List Command) (replies : List Reply) (units more : List JournalUnit) (old new : Held) → AreDone commands replies units more old new → length replies ≡ length commands
done_each [] [] units more old new h = refl
done_each [] (reply ∷ replies) units more old new h = absurd h
done_each (command ∷ commands) [] units more old new h = absurd h
done_each (command ∷ commands) (reply ∷ replies) units more old new h = ap suc (done_each commands replies h.0 more h.1 new h.3)

-- the command behind those that were done is the last
pub cut_at : (musts : List Bool) (place : ℕ) (block rest : List Command) (command : Command) (replies : List Reply) (reply : Reply) (first units between : List JournalUnit) (begun now middle : Held) → IsSoFar block (command ∷ rest) replies first units begun now
    → HasDone command reply units between now middle → place ≡ length replies → is_blocked (must_in musts (length replies)) reply ≡ true → IsCut musts place block first between begun middle
cut_at musts place block rest command replies reply first units between begun now middle before done at blocked =
    let next : IsSoFar block rest (replies ++ reply ∷ []) first between begun middle = so_far_next block rest command replies reply first units between begun now middle before done in record {
      front = next.front;
      back = rest;
      before = replies;
      last = reply;
      split = next.split;
      at = sym at;
      done = next.done;
      blocked = subst (λ (n : ℕ). is_blocked (must_in musts n) reply ≡ true) (sym at) blocked;
    }

-- no reply
none_after : (musts : List Bool) → AreHad musts []
none_after [] = tt
none_after (must ∷ musts) = tt

pub none_had : (musts : List Bool) (replies : List Reply) → replies ≡ [] → AreHad musts replies
none_had musts replies none = subst (λ (rs : List Reply). AreHad musts rs) (sym none) (none_after musts)

-- a reply more that isn't of a blocked LOCK which has to have its names
pub had_more : (musts : List Bool) (replies : List Reply) (reply : Reply) → AreHad musts replies → is_blocked (must_in musts (length replies)) reply ≡ false → AreHad musts (replies ++ reply ∷ [])
had_more [] replies reply had next = tt
had_more (must ∷ musts) [] reply had next = (next, none_after musts)
had_more (must ∷ musts) (r ∷ rs) reply had next = (had.0, had_more musts rs reply had.1 next)

abbrev is_anew : Reply → Bool
is_anew (Answered answer) = false
is_anew Finished = false
is_anew (Had had) = false
is_anew (Count n) = false
is_anew (AtLevel level) = false
is_anew Committed = false
is_anew (Restarted restarts) = true
is_anew (Refused refusal) = false

abbrev is_ok_anew : Result Reply Refusal → Bool
is_ok_anew (Ok reply) = is_anew reply
is_ok_anew (Err refusal) = false

said_anew : (result : Result Reply Refusal) → is_anew (said (λ r. r) result) ≡ is_ok_anew result
said_anew (Ok reply) = refl
said_anew (Err refusal) = refl

committed_anew : (result : Result Reply Refusal) (units more : List JournalUnit) (old new : Held) → IsCommitted result units more old new → is_ok_anew result ≡ false
committed_anew (Ok reply) units more old new h = ap is_anew h.0
committed_anew (Err refusal) units more old new h = refl

commit_anew : (level : ℕ) (reply : Reply) (units more : List JournalUnit) (old new : Held) → old.state.level ≡ level → HasDone Commit reply units more old new → is_anew reply ≡ false
commit_anew zero reply units more old new is h = ap is_anew h.1 ∙ (said_anew h.0 ∙ ap is_ok_anew (h.2 is).0)
commit_anew (suc zero) reply units more old new is h = ap is_anew h.1 ∙ (said_anew h.0 ∙ committed_anew h.0 units more old new (h.3 is))
commit_anew (suc (suc n)) reply units more old new is h = ap is_anew h.1 ∙ (said_anew h.0 ∙ ap is_ok_anew (h.4 (omega (arith, is))).0)

no_restart : (command : Command) (reply : Reply) (units more : List JournalUnit) (old new : Held) → HasDone command reply units more old new → IsNoRestart command reply
no_restart command reply units more old new h is n says =
    let commit : HasDone Commit reply units more old new = subst (λ (c : Command). HasDone c reply units more old new) is h in
    true≢false (sym (ap is_anew says) ∙ commit_anew old.state.level reply units more old new refl commit)

pub none_restarts : (commands : List Command) (replies : List Reply) (units more : List JournalUnit) (old new : Held) → AreDone commands replies units more old new → NoneRestarts commands replies
none_restarts [] replies units more old new h = tt
none_restarts (command ∷ commands) [] units more old new h = absurd h
none_restarts (command ∷ commands) (reply ∷ replies) units more old new h =
    (no_restart command reply units h.0 old h.1 h.2, none_restarts commands replies h.0 more h.1 new h.3)

-- what a transaction that is open was answered
pub read_at : (start : Option (List JournalUnit)) (command : DataCommand) (result : Result Answer Refusal) (old new : JobSession) → IsSome start → IfSome start (λ base. IsAnsweredOrRefused command result (after base initial).map old new) → IsReadAt start command result old new
read_at None command result old new is h = absurd (true≢false (sym is))
read_at (Some base) command result old new is h = h

-- ---- the loop over a block

pub others_left : (all rest : List Command) (command : Command) → all ≡ command ∷ rest → All (λ (c : Command). c ≢ Halt) all → All (λ (c : Command). c ≢ Halt) rest
others_left all rest command is go = All-rest (λ (c : Command). c ≢ Halt) command rest all is go

-- there is room for a reply more
pub taken_one : (all rest : List Command) (replies : List Reply) (reply : Reply) (command : Command) (room : ℕ) → all ≡ command ∷ rest → length replies + length all ≤ room → length (replies ++ reply ∷ []) + length rest ≤ room
taken_one all rest replies reply command room is h = omega (arith, ap length is, length-append replies (reply ∷ []))

pub none_left : (rest : List Command) → length rest ≡ 0 → rest ≡ []
none_left [] none = refl
none_left (command ∷ rest) none = absurd (omega (arith, none))

-- ---- from where a transaction has begun anew

pub come_anew : (musts : List Bool) (block : List Command) (run : SerialRun) (units back more : List JournalUnit) (old start new : Held) → units ≡ back → start ≡ begun_anew units old → HasCome musts block run units more start new → HasCome musts block run back more (begun_anew back old) new
come_anew musts block run units back more old start new same is come =
    subst (λ (us : List JournalUnit). HasCome musts block run us more (begun_anew us old) new) same (subst (λ (s : Held). HasCome musts block run units more s new) is come)
