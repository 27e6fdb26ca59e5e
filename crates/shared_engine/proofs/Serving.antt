-- A hold command by command.
use Rattle.std.proofs.Common.{◌≡◌, ◌≢◌, ℕ, ◌+◌, ◌≤◌, ◌<◌, List, [], ◌∷◌, ◌++◌, length, refl, sym, ap, ◌∙◌, subst, arith, true≢false}
use Rattle.std.specs.Prelude.{Bool, true, false, Result, Ok, Err, IsErrOf, IfOk, IfErr, OnOk, OnErr, Some, None, IfSome, IsSome}
use Rattle.std.specs.List.{All}
use Rattle.std.proofs.lemmas.List.{length-map}
use Rattle.std.proofs.lemmas.List.Elements.{All-head}
use Rattle.refusal.specs.declared.Refusal.{Refusal}
use Rattle.collation.specs.Reference.{Reference}
use Rattle.command.specs.declared.access.DataCommand.{DataCommand}
use Rattle.command.specs.declared.access.DataCommand.TheVariants.{Set, Kill, Merge, Increment, Look}
use Rattle.command.specs.declared.access.Answer.{Answer}
use Rattle.command.specs.declared.access.Answer.TheVariants.{Done, Value}
use Rattle.command.specs.declared.request.Command.{Command}
use Rattle.command.specs.declared.request.Command.TheVariants.{Access}
use Rattle.command.specs.declared.request.Reply.{Reply}
use Rattle.command.specs.declared.request.Reply.TheVariants.{Answered}
use Rattle.command.specs.Data.{data_refusal, data_reply}
use Rattle.globals.specs.Answering.{early_refusal}
use Rattle.journal.specs.declared.unit.Unit.{Unit as JournalUnit}
use Rattle.journal.specs.declared.unit.Unit.TheVariants.{Lone}
use Rattle.journal.specs.History.{initial, after}
use Rattle.job_core.specs.Causes.{IsCauseOf}
use Rattle.job_core.specs.Lent.{value_at, done_answer, got_answer}
use Rattle.job_core.specs.Sessions.{IsAnsweredOrRefused}
use Rattle.shared_engine.specs.Sessions.{Held, IsJournalOf, knowing, and_receipt}
use Rattle.shared_engine.specs.Blocks.{said, HasDone, AreDone}
use Rattle.shared_engine.specs.Holds.{Asking, Telling, accesses, get_of, IsSet, IsAskedBy}
use Rattle.shared_engine.specs.Serving.{HasServed}
use Rattle.shared_engine.specs.declared.asked.Ask.{Ask}
use Rattle.shared_engine.specs.declared.asked.Ask.TheVariants.{Set as ask_set, Get as ask_get, Other as ask_other}
use Rattle.shared_engine.proofs.Blocks.{IsSoFar, so_far_next, so_far_all, done_each, read_at}

-- ---- the replies

pub done_said : (tried : Result (Unit {0}) Refusal) → said (λ _. Answered Done) tried ≡ said Answered (done_answer tried)
done_said (Ok done) = refl
done_said (Err refusal) = refl

pub got_said : (value : List ℕ) (got : Result ℕ Refusal) → said (λ _. Answered (Value value)) got ≡ said Answered (got_answer value got)
got_said value (Ok size) = refl
got_said value (Err refusal) = refl

-- ---- outside a transaction

pub lone_set_done : (tried : Result (Unit {0}) Refusal) (key : Reference) (value : List ℕ) (units more : List JournalUnit) (old new : Held) → old.state.level ≡ 0
    → OnOk tried (more ≡ units ++ Lone old.state.work.job (Set key value) Done ∷ []) → OnOk tried (new ≡ and_receipt units (Lone old.state.work.job (Set key value) Done) old) → OnErr tried ((more ≡ units) × (new ≡ knowing units old))
    → IfErr tried (λ refusal. IsCauseOf refusal (Set key value) (after units initial).map (length units)) → HasDone (Access (Set key value)) (said (λ _. Answered Done) tried) units more old new
lone_set_done (Ok done) key value units more old new level wrote is same cause = (Ok Done, refl, (λ _. ((refl, refl), (wrote, is))), λ deep. absurd (omega (arith, level, deep)))
lone_set_done (Err refusal) key value units more old new level wrote is same cause = (Err refusal, refl, (λ _. ((cause, λ rule early. absurd (cc)), same)), λ deep. absurd (omega (arith, level, deep)))

pub lone_get_done : (got : Result ℕ Refusal) (key : Reference) (units more : List JournalUnit) (old new : Held) → old.state.level ≡ 0
    → OnOk got (more ≡ units ++ Lone old.state.work.job (get_of key) (Value (value_at key (after units initial).map)) ∷ []) → OnOk got (new ≡ and_receipt units (Lone old.state.work.job (get_of key) (Value (value_at key (after units initial).map))) old)
    → OnErr got ((more ≡ units) × (new ≡ knowing units old)) → IfErr got (λ refusal. IsCauseOf refusal (get_of key) (after units initial).map (length units))
    → HasDone (Access (get_of key)) (said (λ _. Answered (Value (value_at key (after units initial).map))) got) units more old new
lone_get_done (Ok size) key units more old new level wrote is same cause = (Ok (Value (value_at key (after units initial).map)), refl, (λ _. ((refl, refl), (wrote, is))), λ deep. absurd (omega (arith, level, deep)))
lone_get_done (Err refusal) key units more old new level wrote is same cause = (Err refusal, refl, (λ _. ((cause, λ rule early. absurd (cc)), same)), λ deep. absurd (omega (arith, level, deep)))

pub lone_done : (result : Result Answer Refusal) (command : DataCommand) (units more : List JournalUnit) (old new : Held) → old.state.level ≡ 0 → IfOk result (λ answer. answer ≡ data_reply command (after units initial).map)
    → OnOk result (data_refusal command (after units initial).map ≡ None) → IfOk result (λ answer. more ≡ units ++ Lone old.state.work.job command answer ∷ []) → IfOk result (λ answer. new ≡ and_receipt units (Lone old.state.work.job command answer) old)
    → OnErr result ((more ≡ units) × (new ≡ knowing units old)) → ((refusal : Refusal) → early_refusal command ≡ Some refusal → IsErrOf result refusal) → IfErr result (λ refusal. IsCauseOf refusal command (after units initial).map (length units))
    → HasDone (Access command) (said Answered result) units more old new
lone_done (Ok answer) command units more old new level right accepted wrote is same early cause = (Ok answer, refl, (λ _. ((right, accepted), (wrote, is))), λ deep. absurd (omega (arith, level, deep)))
lone_done (Err refusal) command units more old new level right accepted wrote is same early cause = (Err refusal, refl, (λ _. ((cause, early), same)), λ deep. absurd (omega (arith, level, deep)))

-- the level stays 0
pub level_after : {A : Type 0} (r : Result A Refusal) (units : List JournalUnit) (unit : JournalUnit) (old new : Held) → old.state.level ≡ 0 → OnOk r (new ≡ and_receipt units unit old) → OnErr r (new ≡ knowing units old) → new.state.level ≡ 0
level_after (Ok a) units unit old new level is same = ap (λ (h : Held). h.state.level) is ∙ level
level_after (Err refusal) units unit old new level is same = ap (λ (h : Held). h.state.level) same ∙ level

-- ---- in a transaction

pub inside_done : (command : DataCommand) (result : Result Answer Refusal) (reply : Reply) (units : List JournalUnit) (old new : Held) → reply ≡ said Answered result → 1 ≤ old.state.level → IsSome old.start
    → IfSome old.start (λ base. IsAnsweredOrRefused command result (after base initial).map old.state new.state) → (new.start ≡ old.start) × (new.receipts ≡ old.receipts) → (new.others ≡ old.others) × (new.seen ≡ old.seen) → old.seen ≡ units
    → HasDone (Access command) reply units units old new
inside_done command result reply units old new is level begun answered same others seen =
    (result, is, (λ none. absurd (omega (arith, level, none))), λ _. (read_at old.start command result old.state new.state begun answered, (refl, (same.0, (same.1, (others.0, others.1 ∙ seen))))))

-- ---- the first command

pub set_first : (commands left rest : List DataCommand) (key k : Reference) (text t : List ℕ) → commands ≡ Set key text ∷ rest → k ≡ key → t ≡ text → left ≡ rest → commands ≡ Set k t ∷ left
set_first commands left rest key k text t is keys texts same = rw (keys, texts, same) is

pub get_first : (commands left rest : List DataCommand) (key k : Reference) → commands ≡ get_of key ∷ rest → k ≡ key → left ≡ rest → commands ≡ get_of k ∷ left
get_first commands left rest key k is keys same = rw (keys, same) is

pub one_first : (ask : Ask) (commands : List DataCommand) → IsAskedBy ask commands → 1 ≤ length commands
one_first ask_set commands is = omega (arith, ap length is.3)
one_first ask_get commands is = omega (arith, ap length is.2)
one_first ask_other commands is = omega (arith, ap length is.2)

abbrev is_get : Ask → Bool
is_get ask_set = false
is_get ask_get = true
is_get ask_other = false

abbrev is_set : DataCommand → Bool
is_set (Set key value) = true
is_set (Kill key extent) = false
is_set (Merge a b) = false
is_set (Increment key n) = false
is_set (Look look) = false

-- among SETs none is a $GET
pub no_get : (ask : Ask) (commands : List DataCommand) → IsAskedBy ask commands → All IsSet commands → ask ≢ ask_get
no_get ask_set commands is sets same = true≢false (sym (ap is_get same))
no_get ask_get commands is sets same =
    let set : IsSet (get_of is.0) = All-head IsSet (get_of is.0) is.1 (subst (λ (cs : List DataCommand). All IsSet cs) is.2 sets) in
    true≢false (sym (ap is_set set.2))
no_get ask_other commands is sets same = true≢false (sym (ap is_get same))

-- ---- the lines

pub served_so_far : (block : List Command) (asked left : Asking) (told more_told : Telling) (first units between : List JournalUnit) (begun now middle : Held) → IsSoFar block (accesses asked.commands) told.served first units begun now
    → HasServed asked left told more_told units between now middle → IsSoFar block (accesses left.commands) more_told.served first between begun middle
served_so_far block asked left told more_told first units between begun now middle before h =
    subst (λ (rs : List Reply). IsSoFar block (accesses left.commands) rs first between begun middle) (sym h.replied)
    (so_far_next block (accesses left.commands) (Access h.command) told.served h.reply first units between begun now middle (subst (λ (cs : List DataCommand). IsSoFar block (accesses cs) told.served first units begun now) h.first before) h.done)

-- on the units that the session has seen
pub served_same : (asked left : Asking) (told more_told : Telling) (units seen : List JournalUnit) (old new : Held) → seen ≡ units → HasServed asked left told more_told seen seen old new → HasServed asked left told more_told units units old new
served_same asked left told more_told units seen old new is h = subst (λ (us : List JournalUnit). HasServed asked left told more_told us us old new) is h

-- there is room for those that are left
pub room_for_left : (asked left : Asking) (told more_told : Telling) (units more : List JournalUnit) (old new : Held) → HasServed asked left told more_told units more old new → length asked.commands ≤ told.room → length left.commands ≤ more_told.room
room_for_left asked left told more_told units more old new h room = omega (arith, ap length h.first, h.room, room)

pub counted_left : (asked left : Asking) (told more_told : Telling) (units more : List JournalUnit) (old new : Held) (all first : ℕ) → HasServed asked left told more_told units more old new → told.room + all ≡ first + length asked.commands → more_told.room + all ≡ first + length left.commands
counted_left asked left told more_told units more old new all first h count = omega (arith, ap length h.first, h.room, count)

pub fewer_left : (asked left : Asking) (told more_told : Telling) (units more : List JournalUnit) (old new : Held) → HasServed asked left told more_told units more old new → length left.commands < length asked.commands
fewer_left asked left told more_told units more old new h = omega (arith, ap length h.first)

pub all_served : (commands left : List DataCommand) (replies : List Reply) (first units : List JournalUnit) (begun now : Held) → left ≡ [] → IsSoFar (accesses commands) (accesses left) replies first units begun now → AreDone (accesses commands) replies first units begun now
all_served commands left replies first units begun now none is = so_far_all (accesses commands) (accesses left) replies first units begun now (ap accesses none) is

-- as many replies as commands
pub served_each : (commands : List DataCommand) (replies : List Reply) (units more : List JournalUnit) (old new : Held) → AreDone (accesses commands) replies units more old new → length replies ≡ length commands
served_each commands replies units more old new h = done_each (accesses commands) replies units more old new h ∙ length-map commands Access

-- what was done is told of the journal that the session has seen then
pub done_at : (units more : List JournalUnit) (old new : Held) (P : List JournalUnit → List JournalUnit → Type 0) → IsJournalOf units old → new.seen ≡ more → P units more → (us : List JournalUnit) × IsJournalOf us old × P us new.seen
done_at units more old new P journal seen h = (units, journal, subst (λ (us : List JournalUnit). P units us) (sym seen) h)
