-- Steps of a job, one behind the other, and how replies show them.
use Rattle.std.proofs.Common.{◌≡◌, ◌≢◌, ◌⊎◌, inl, inr, ℕ, ◌≤◌, List, [], ◌∷◌, ◌++◌, length, get_or, true, false, refl, sym, ap, ◌∙◌, subst, arith, append_assoc, append-nil}
use Rattle.std.specs.Prelude.{⊤, Bool, Option, Some, None, is_some, Result, Ok, Err}
use Rattle.std.specs.List.{All}
use Rattle.std.proofs.lemmas.List.Elements.{All-nil, All-cons, All-append, All-same}
use Rattle.refusal.specs.declared.Refusal.{Refusal}
use Rattle.lock_name.specs.declared.lock.LockCommand.{LockCommand}
use Rattle.command.specs.declared.access.DataCommand.{DataCommand}
use Rattle.command.specs.declared.request.Command.{Command}
use Rattle.command.specs.declared.request.Command.TheVariants.{Access, Lock as lock_command, Start, Commit, Rollback, Restart, Halt}
use Rattle.command.specs.declared.request.Reply.{Reply}
use Rattle.command.specs.declared.request.Reply.TheVariants.{Finished, Had, AtLevel, Committed, Restarted, Refused}
use Rattle.journal.specs.declared.unit.Unit.{Unit as JournalUnit}
use Rattle.serial.specs.Interleaving.{Told}
use Rattle.job_core.specs.Sessions.{idle}
use Rattle.pin_board.specs.Slips.{IsBeginning}
use Rattle.shared_engine.specs.Receipts.{Book}
use Rattle.shared_engine.specs.Sessions.{Held, held, knowing, halted}
use Rattle.shared_engine.specs.Steps.{step_at}
use Rattle.shared_engine.specs.Blocks.{HasDone, AreDone, is_blocked, AreHad}
use Rattle.shared_engine.specs.laws.Prefixes.{begins_itself, begins_through}
use Rattle.shared_engine.specs.laws.Seen.{done_seen}
use Rattle.job_scripts.specs.Blocks.{in_place, AreAsked, AreMusts, AreInFront}
use Rattle.job_scripts.specs.Lines.{Asks}
use Rattle.job_scripts.specs.Timeouts.{timeout_in}
use Rattle.job_scripts.specs.laws.Timed.{timed_where}
use Rattle.job_server.specs.Steps.{Past, and_book, SessionsSoFar, sessions_so_far, KnowsMore, IsDoneOnce, WasDoneBy, AreBefore, IsOver, IsBetweenIn, IsBetween, IsStepIn, AreSteps, HasDoneSteps, IsNoStep, IsStepWith, IsReplied, IsHad, IsShownBy, OneAsks, IsNoEnd, IsOfTry, EndWith, AreTries, AreShown, AreShownToEnd}
use Rattle.job_server.specs.Telling.{IsUnblocked, AreWithin}
use Rattle.job_server.proofs.Lasting.{no_restart}

-- ---- between two steps

pub knows_itself : (h : Held) → KnowsMore h h
knows_itself h = (h.seen, begins_itself h.seen, refl)

knows_through : (a b c : Held) → KnowsMore a b → KnowsMore b c → KnowsMore a c
knows_through a b c first second = (
  second.0,
  begins_through second.0 first.0 a.seen (subst (λ (h : Held). IsBeginning second.0 h.seen) first.2 second.1) first.1,
  second.2 ∙ ap (λ (h : Held). knowing second.0 h) first.2,
)

pub before_more : (n m : ℕ) (books : List Book) → n ≤ m → AreBefore n books → AreBefore m books
before_more n m [] more before = tt
before_more n m (b ∷ bs) more before = (omega (arith, more, before.0), before_more n m bs more before.1)

between_itself : (job : ℕ) (p : Past) (session : Option Held) → IsBetweenIn job p session session
between_itself job p None = tt
between_itself job p (Some h) = knows_itself h

between_in : (job : ℕ) (p : Past) (a b c : Option Held) → IsBetweenIn job p a b → IsBetweenIn job p b c → IsBetweenIn job p a c
between_in job p None None None first second = tt
between_in job p None None (Some z) first second = second
between_in job p None (Some y) None first second = absurd second
between_in job p None (Some y) (Some z) first second =
    let knows : IsBeginning second.0 first.0 = subst (λ (h : Held). IsBeginning second.0 h.seen) first.2 second.1 in
    (second.0, (omega (arith, first.1.0, knows.within), before_more (length first.0) (length second.0) p.books knows.within first.1.1), second.2 ∙ ap (λ (h : Held). knowing second.0 h) first.2)
between_in job p (Some x) None c first second = absurd first
between_in job p (Some x) (Some y) None first second = absurd second
between_in job p (Some x) (Some y) (Some z) first second = knows_through x y z first second

between_then : (job : ℕ) (a b c : SessionsSoFar) → IsBetween job a b → IsBetween job b c → IsBetween job a c
between_then job a b c first second = (second.0 ∙ first.0, between_in job a.past a.session b.session c.session first.1 (subst (λ (q : Past). IsBetweenIn job q b.session c.session) first.0 second.1))

-- nothing has changed
pub between_same : (job : ℕ) (p more : Past) (session later : Option Held) → more ≡ p → later ≡ session → IsBetween job (sessions_so_far p session) (sessions_so_far more later)
between_same job p more session later same is = (same, subst (λ (o : Option Held). IsBetweenIn job p session o) (sym is) (between_itself job p session))

-- a session has seen more, or begins
pub between_knowing : (job : ℕ) (p : Past) (units : List JournalUnit) (h : Held) → IsBeginning units h.seen → IsBetween job (sessions_so_far p (Some h)) (sessions_so_far p (Some (knowing units h)))
between_knowing job p units h goes_on = (refl, (units, goes_on, refl))

pub between_opened : (job : ℕ) (p : Past) (units : List JournalUnit) → IsOver p (length units) → IsBetween job (sessions_so_far p None) (sessions_so_far p (Some (held (idle job) None [] [] units)))
between_opened job p units before = (refl, (units, before, refl))

-- ---- steps behind others

pub no_steps : (job : ℕ) (now : SessionsSoFar) → AreSteps job [] now now
no_steps job now = (refl, between_itself job now.past now.session)

pub steps_behind : (job : ℕ) (xs : List Told) (a b c : SessionsSoFar) → IsBetween job a b → AreSteps job xs b c → AreSteps job xs a c
steps_behind job [] a b c first second = between_then job a b c first second
steps_behind job (x ∷ xs) a b c first second = (second.0, second.1, between_then job a b second.0 first second.2, second.3, second.4)

pub steps_then : (job : ℕ) (xs ys : List Told) (a b c : SessionsSoFar) → AreSteps job xs a b → AreSteps job ys b c → AreSteps job (xs ++ ys) a c
steps_then job [] ys a b c first second = steps_behind job ys a b c first second
steps_then job (x ∷ xs) ys a b c first second = (first.0, first.1, first.2, first.3, steps_then job xs ys first.1 b c first.4 second)

pub done_then : (shows : List Told → Type 0) (job : ℕ) (a b c : SessionsSoFar) → HasDoneSteps IsNoStep job a b → HasDoneSteps shows job b c → HasDoneSteps shows job a c
done_then shows job a b c first second =
    (second.0, second.1, subst (λ (ys : List Told). AreSteps job (ys ++ second.0) a c) first.1 (steps_then job first.0 second.0 a b c first.2 second.2))

pub none_done : (job : ℕ) (old new : SessionsSoFar) → IsBetween job old new → HasDoneSteps IsNoStep job old new
none_done job old new between = ([], refl, between)

pub shows_other : (shows other : List Told → Type 0) (job : ℕ) (old new : SessionsSoFar) → ((xs : List Told) → shows xs → other xs) → HasDoneSteps shows job old new → HasDoneSteps other job old new
shows_other shows other job old new each h = (h.0, each h.0 h.1, h.2)

-- ---- a call of a session

-- it is a step of the job
one_step : (job : ℕ) (p : Past) (command : Command) (reply : Reply) (old new : Held) → IsDoneOnce command reply old new → (x : Told) × ((x.command ≡ command) × (x.reply ≡ reply)) × AreSteps job (x ∷ []) (sessions_so_far p (Some old)) (sessions_so_far p (Some new))
one_step job p command reply old new h =
    let x : Told = step_at old.state.work.job command reply h.0 (length new.seen) in (
      x,
      (refl, refl),
      (sessions_so_far p (Some old), sessions_so_far p (Some new), (refl, knows_itself old), (record { units = h.0; goes_on = h.1; at = refl; done = h.2 }, refl), (refl, knows_itself new)),
    )

-- a call of no LOCK
pub one_call : (job : ℕ) (p : Past) (command : DataCommand) (reply : Reply) (old new : Held) → WasDoneBy (Access command) reply old new → (x : Told) × ((x.command ≡ Access command) × (x.reply ≡ reply)) × AreSteps job (x ∷ []) (sessions_so_far p (Some old)) (sessions_so_far p (Some new))
one_call job p command reply old new (inl once) = one_step job p (Access command) reply old new once
one_call job p command reply old new (inr twice) = absurd (no_lock twice.0 twice.1)
  where
    no_lock : (c : LockCommand) → Access command ≡ lock_command c → ⊥
    no_lock c is = absurd (cc)

pub call_steps : (job : ℕ) (p : Past) (command : Command) (reply : Reply) (old new : Held) → WasDoneBy command reply old new → HasDoneSteps (IsReplied command reply) job (sessions_so_far p (Some old)) (sessions_so_far p (Some new))
call_steps job p command reply old new (inl once) =
    let step = one_step job p command reply old new once in
    (step.0 ∷ [], step.1, step.2)
call_steps job p command reply old new (inr twice) =
    let first = one_step job p command (Had false) old twice.2 twice.3 in
    let second = one_step job p command reply twice.2 new twice.5 in (
      first.0 ∷ (second.0 ∷ []),
      (first.1, second.1, twice.4, refl),
      steps_then job (first.0 ∷ []) (second.0 ∷ []) (sessions_so_far p (Some old)) (sessions_so_far p (Some twice.2)) (sessions_so_far p (Some new)) first.2 second.2,
    )

-- ---- a block

-- each step is of its command, which was replied so
abbrev pub AreStepsFor : List Command → List Reply → List Told → Type 0
AreStepsFor [] [] [] = ⊤
AreStepsFor [] [] (x ∷ xs) = ⊥
AreStepsFor [] (reply ∷ replies) xs = ⊥
AreStepsFor (command ∷ commands) [] xs = ⊥
AreStepsFor (command ∷ commands) (reply ∷ replies) [] = ⊥
AreStepsFor (command ∷ commands) (reply ∷ replies) (x ∷ xs) = ((x.command ≡ command) × (x.reply ≡ reply)) × AreStepsFor commands replies xs

pub block_steps : (job : ℕ) (p : Past) (commands : List Command) (replies : List Reply) (units more : List JournalUnit) (old new : Held) → old.seen ≡ units → AreDone commands replies units more old new
    → HasDoneSteps (AreStepsFor commands replies) job (sessions_so_far p (Some old)) (sessions_so_far p (Some new))
block_steps job p [] [] units more old new seen done = ([], tt, between_same job p p (Some old) (Some new) refl (ap (λ (h : Held). Some h) done.1))
block_steps job p [] (reply ∷ replies) units more old new seen done = absurd done
block_steps job p (command ∷ commands) [] units more old new seen done = absurd done
block_steps job p (command ∷ commands) (reply ∷ replies) units more old new seen done =
    let middle : Held = done.1 in
    let now : middle.seen ≡ done.0 = done_seen command reply units done.0 old middle done.2 seen in
    let here : HasDone command reply units middle.seen old middle = subst (λ (us : List JournalUnit). HasDone command reply units us old middle) (sym now) done.2 in
    let goes_on : IsBeginning units old.seen = subst (λ (us : List JournalUnit). IsBeginning us old.seen) seen (begins_itself old.seen) in
    let first = one_step job p command reply old middle (units, goes_on, λ stands. inl here) in
    let rest = block_steps job p commands replies done.0 more middle new now done.3 in
    (first.0 ∷ rest.0, (first.1, rest.1), steps_then job (first.0 ∷ []) rest.0 (sessions_so_far p (Some old)) (sessions_so_far p (Some middle)) (sessions_so_far p (Some new)) first.2 rest.2)

-- what is no number of milliseconds is no timeout
none_timed : (o : Option ℕ) → is_some o ≡ false → o ≡ None
none_timed None is = refl
none_timed (Some n) is = absurd (cc is)

-- a LOCK without a timeout has its names
pub had_untimed : (line : List ℕ) (reply : Reply) → IsUnblocked line reply → IsHad line reply
had_untimed line reply had none blocked = absurd (cc (sym (had (none_timed (timeout_in line) (sym (timed_where line) ∙ none))) ∙ ap (is_blocked true) blocked))

had_where : (line : List ℕ) (must : Bool) (reply : Reply) → (timeout_in line ≡ None → must ≡ true) → is_blocked must reply ≡ false → IsHad line reply
had_where line must reply untimed had = had_untimed line reply (λ none. subst (λ (b : Bool). is_blocked b reply ≡ false) (untimed none) had)

-- no try
pub no_tries : (job : ℕ) (all : List (List ℕ)) → AreTries job all []
no_tries job all = (All-nil (IsOfTry job all), tt)

-- the lines that ask for the commands show them
pub block_shown : (job : ℕ) (left lines : List (List ℕ)) (places : List (Option Refusal)) (commands : List Command) (musts : List Bool) (replies : List Reply) (units more : List JournalUnit) (old new : Held) (xs : List Told)
    → AreAsked job lines places commands → AreMusts lines places musts → AreDone commands replies units more old new → AreHad musts replies → AreStepsFor commands replies xs → AreShown job left lines (in_place places replies) xs
block_shown job left [] [] [] musts [] units more old new [] asked timed done had steps = refl
block_shown job left [] [] [] musts [] units more old new (x ∷ xs) asked timed done had steps = absurd steps
block_shown job left [] [] [] musts (reply ∷ replies) units more old new xs asked timed done had steps = absurd steps
block_shown job left [] [] (command ∷ commands) musts replies units more old new xs asked timed done had steps = absurd asked
block_shown job left [] (place ∷ places) commands musts replies units more old new xs asked timed done had steps = absurd asked
block_shown job left (line ∷ lines) [] commands musts replies units more old new xs asked timed done had steps = absurd asked
block_shown job left (line ∷ lines) (Some refusal ∷ places) commands musts replies units more old new xs asked timed done had steps =
    ([], [], xs, refl, inl (refusal, asked.0, refl, refl), inr refl, no_tries job (lines ++ left), block_shown job left lines places commands musts replies units more old new xs asked.1 timed done had steps)
block_shown job left (line ∷ lines) (None ∷ places) [] musts replies units more old new xs asked timed done had steps = absurd asked
block_shown job left (line ∷ lines) (None ∷ places) (command ∷ commands) [] replies units more old new xs asked timed done had steps = absurd timed
block_shown job left (line ∷ lines) (None ∷ places) (command ∷ commands) (must ∷ musts) [] units more old new xs asked timed done had steps = absurd steps
block_shown job left (line ∷ lines) (None ∷ places) (command ∷ commands) (must ∷ musts) (reply ∷ replies) units more old new [] asked timed done had steps = absurd steps
block_shown job left (line ∷ lines) (None ∷ places) (command ∷ commands) (must ∷ musts) (reply ∷ replies) units more old new (x ∷ xs) asked timed done had steps = (
  x ∷ [],
  [],
  xs,
  refl,
  inr (command, asked.0, had_where line must reply timed.0 had.0, no_restart command reply units done.0 old done.1 done.2, steps.0),
  inr refl,
  no_tries job (lines ++ left),
  block_shown job left lines places commands musts replies done.0 more done.1 new xs asked.1 timed.1 done.3 had.1 steps.1,
)

-- ---- lines that are shown

-- one line
pub line_shown : (job : ℕ) (left : List (List ℕ)) (line : List ℕ) (reply : Reply) (xs : List Told) → IsShownBy job line reply xs → AreShown job left (line ∷ []) (reply ∷ []) xs
line_shown job left line reply xs shown = (xs, [], [], sym (append-nil xs), shown, inr refl, no_tries job left, refl)

-- lines behind others
shown_then : (job : ℕ) (left front back : List (List ℕ)) (replies more : List Reply) (xs ys : List Told) → AreShown job (back ++ left) front replies xs → AreShown job left back more ys → AreShown job left (front ++ back) (replies ++ more) (xs ++ ys)
shown_then job left [] back [] more xs ys first second = subst (λ (zs : List Told). AreShown job left back more (zs ++ ys)) (sym first) second
shown_then job left [] back (reply ∷ replies) more xs ys first second = absurd first
shown_then job left (line ∷ front) back [] more xs ys first second = absurd first
shown_then job left (line ∷ front) back (reply ∷ replies) more xs ys first second =
    let own : List Told = first.0 in
    let tries : List Told = first.1 in
    let rest : List Told = first.2 in (
      own,
      tries,
      rest ++ ys,
      ap (λ (zs : List Told). zs ++ ys) first.3 ∙ (append_assoc own (tries ++ rest) ys ∙ ap (λ (zs : List Told). own ++ zs) (append_assoc tries rest ys)),
      first.4,
      first.5,
      subst (λ (ls : List (List ℕ)). AreTries job ls tries) (sym (append_assoc front back left)) first.6,
      shown_then job left front back replies more rest ys first.7 second,
    )

-- where more lines ask
abbrev pub AsksOf : ℕ → List (List ℕ) → List (List ℕ) → Type 0
AsksOf job lines others = (command : Command) → OneAsks job lines command → OneAsks job others command

of_try_more : (job : ℕ) (lines others : List (List ℕ)) (x : Told) → AsksOf job lines others → IsOfTry job lines x → IsOfTry job others x
of_try_more job lines others x each (asked, none) = (by_asked asked, none)
  where
    by_asked : (x.command ≡ Restart) ⊎ OneAsks job lines x.command → (x.command ≡ Restart) ⊎ OneAsks job others x.command
    by_asked (inl anew) = inl anew
    by_asked (inr asks) = inr (each x.command asks)

all_more : (job : ℕ) (lines others : List (List ℕ)) (xs : List Told) → AsksOf job lines others → All (IsOfTry job lines) xs → All (IsOfTry job others) xs
all_more job lines others xs each all k x lt = of_try_more job lines others (get_or xs k x) each (all k x lt)

-- ---- tries

-- the step began the transaction anew
abbrev pub IsAnew : Told → Type 0
IsAnew x = (restarts : ℕ) × (x.reply ≡ Restarted restarts)

end_then : (is : Told → Type 0) (xs ys : List Told) → EndWith is xs → EndWith is ys → EndWith is (xs ++ ys)
end_then is [] ys first second = second
end_then is (x ∷ []) [] first second = first
end_then is (x ∷ []) (y ∷ ys) first second = second
end_then is (x ∷ (z ∷ zs)) ys first second = end_then is (z ∷ zs) ys first second

pub tries_then : (job : ℕ) (lines : List (List ℕ)) (xs ys : List Told) → AreTries job lines xs → AreTries job lines ys → AreTries job lines (xs ++ ys)
tries_then job lines xs ys first second = (All-append (IsOfTry job lines) xs ys first.0 second.0, end_then IsAnew xs ys first.1 second.1)

-- steps of which the last began the transaction anew
end_by : (is : Told → Type 0) (xs ys : List Told) → EndWith is ys → (ys ≡ [] → ⊥) → EndWith is (xs ++ ys)
end_by is [] ys anew some = anew
end_by is (x ∷ []) [] anew some = absurd (some refl)
end_by is (x ∷ []) (y ∷ ys) anew some = anew
end_by is (x ∷ (z ∷ zs)) ys anew some = end_by is (z ∷ zs) ys anew some

pub tries_by : (job : ℕ) (lines : List (List ℕ)) (xs ys : List Told) → All (IsOfTry job lines) xs → AreTries job lines ys → (ys ≡ [] → ⊥) → AreTries job lines (xs ++ ys)
tries_by job lines xs ys all last some = (All-append (IsOfTry job lines) xs ys all last.0, end_by IsAnew xs ys last.1 some)

-- ---- the end of a session

pub halt_call : (job : ℕ) (p : Past) (now : List JournalUnit) (h : Held) → IsBeginning now h.seen → (x : Told) × ((x.command ≡ Halt) × (x.reply ≡ Finished)) × AreSteps job (x ∷ []) (sessions_so_far p (Some h)) (sessions_so_far (and_book p (halted now h)) None)
halt_call job p now h goes_on =
    let after : SessionsSoFar = sessions_so_far (and_book p (halted now h)) None in
    (step_at h.state.work.job Halt Finished now (length (halted now h).seen), (refl, refl), (sessions_so_far p (Some h), after, (refl, knows_itself h), (now, goes_on, refl, refl), (refl, tt)))

pub halt_steps : (job : ℕ) (p : Past) (now : List JournalUnit) (h : Held) → IsBeginning now h.seen → HasDoneSteps (IsReplied Halt Finished) job (sessions_so_far p (Some h)) (sessions_so_far (and_book p (halted now h)) None)
halt_steps job p now h goes_on =
    let x = halt_call job p now h goes_on in (x.0 ∷ [], x.1, x.2)

-- ---- lines that ask

-- the command of what was read
abbrev command_in : Result (ℕ × Command) Refusal → Command → Command
command_in (Ok step) other = step.1
command_in (Err refusal) other = other

-- a line asks for one command
pub asks_once : (job : ℕ) (line : List ℕ) (a b : Command) → Asks job line a → Asks job line b → a ≡ b
asks_once job line a b first second = ap (λ (r : Result (ℕ × Command) Refusal). command_in r a) (sym first ∙ second)

one_behind : (job : ℕ) (front back : List (List ℕ)) (command : Command) → OneAsks job back command → OneAsks job (front ++ back) command
one_behind job [] back command h = h
one_behind job (line ∷ front) back command h = inr (one_behind job front back command h)

one_front : (job : ℕ) (front back : List (List ℕ)) (command : Command) → OneAsks job front command → OneAsks job (front ++ back) command
one_front job [] back command h = absurd h
one_front job (line ∷ front) back command (inl asks) = inl asks
one_front job (line ∷ front) back command (inr later) = inr (one_front job front back command later)

pub shown_behind : (job : ℕ) (left front middle back : List (List ℕ)) (replies more : List Reply) (a b c : SessionsSoFar) → middle ≡ back ++ left → HasDoneSteps (AreShown job middle front replies) job a b → HasDoneSteps (AreShown job left back more) job b c
    → HasDoneSteps (AreShown job left (front ++ back) (replies ++ more)) job a c
shown_behind job left front middle back replies more a b c split h k =
    (h.0 ++ k.0, shown_then job left front back replies more h.0 k.0 (subst (λ (ls : List (List ℕ)). AreShown job ls front replies h.0) split h.1) k.1, steps_then job h.0 k.0 a b c h.2 k.2)

-- ---- what tries are made of

-- one of the lines asks for it, or the server does
abbrev pub IsAskedIn : ℕ → List (List ℕ) → Command → Type 0
IsAskedIn job lines command = (command ≡ Restart) ⊎ OneAsks job lines command

of_try : (job : ℕ) (lines : List (List ℕ)) (command : Command) (reply : Reply) (x : Told) → IsAskedIn job lines command → IsNoEnd command reply → IsStepWith command reply x → IsOfTry job lines x
of_try job lines command reply x asked none is = (
  subst (IsAskedIn job lines) (sym is.0) asked,
  subst (λ (c : Command). IsNoEnd c x.reply) (sym is.0) (subst (IsNoEnd command) (sym is.1) none),
)

-- replies that end no transaction
pub other_no_end : (command : Command) (reply : Reply) → reply ≢ Committed → reply ≢ Finished → IsNoEnd command reply
other_no_end command reply uncommitted undone = ((λ is. uncommitted), (λ is. undone))

had_no_end : (command : Command) (had : Bool) → IsNoEnd command (Had had)
had_no_end command had = other_no_end command (Had had) (λ e. absurd (cc)) (λ e. absurd (cc))

anew_no_end : (command : Command) (restarts : ℕ) → IsNoEnd command (Restarted restarts)
anew_no_end command restarts = other_no_end command (Restarted restarts) (λ e. absurd (cc)) (λ e. absurd (cc))

pub refused_no_end : (command : Command) (refusal : Refusal) → IsNoEnd command (Refused refusal)
refused_no_end command refusal = other_no_end command (Refused refusal) (λ e. absurd (cc)) (λ e. absurd (cc))

-- commands that end none
pub command_no_end : (command : Command) (reply : Reply) → command ≢ Commit → command ≢ Rollback → command ≢ Halt → IsNoEnd command reply
command_no_end command reply no_commit no_rollback no_halt = ((λ is. absurd (no_commit is)), either)
  where
    either : (command ≡ Rollback) ⊎ (command ≡ Halt) → reply ≢ Finished
    either (inl is) = absurd (no_rollback is)
    either (inr is) = absurd (no_halt is)

pub lock_no_end : (command : LockCommand) (reply : Reply) → IsNoEnd (lock_command command) reply
lock_no_end command reply = command_no_end (lock_command command) reply (λ e. absurd (cc)) (λ e. absurd (cc)) (λ e. absurd (cc))

-- a command that is replied
replied_of : (job : ℕ) (lines : List (List ℕ)) (command : Command) (reply : Reply) (xs : List Told) → IsAskedIn job lines command → IsNoEnd command reply → IsReplied command reply xs → All (IsOfTry job lines) xs
replied_of job lines command reply [] asked none h = absurd h
replied_of job lines command reply (x ∷ []) asked none h = All-cons (IsOfTry job lines) x [] (of_try job lines command reply x asked none h) (All-nil (IsOfTry job lines))
replied_of job lines command reply (x ∷ (y ∷ ys)) asked none h =
    All-cons (IsOfTry job lines) x (y ∷ ys) (of_try job lines command (Had false) x asked (had_no_end command false) h.0)
    (All-cons (IsOfTry job lines) y ys (of_try job lines command reply y asked none h.1) (All-same (IsOfTry job lines) ys [] h.3 (All-nil (IsOfTry job lines))))

-- lines that are shown, of all that ask
shown_asked : (job : ℕ) (all left lines : List (List ℕ)) (replies : List Reply) (xs : List Told) → AsksOf job (lines ++ left) all → AreWithin job lines replies → AreShown job left lines replies xs → All (IsOfTry job all) xs
shown_asked job all left [] [] xs each within h = All-same (IsOfTry job all) xs [] h (All-nil (IsOfTry job all))
shown_asked job all left [] (reply ∷ replies) xs each within h = absurd h
shown_asked job all left (line ∷ lines) [] xs each within h = absurd h
shown_asked job all left (line ∷ lines) (reply ∷ replies) xs each within h =
    All-same (IsOfTry job all) xs (h.0 ++ (h.1 ++ h.2)) h.3
    (All-append (IsOfTry job all) h.0 (h.1 ++ h.2) (own h.4)
    (All-append (IsOfTry job all) h.1 h.2 (all_more job (lines ++ left) all h.1 (λ command asks. each command (inr asks)) h.6.0) (shown_asked job all left lines replies h.2 (λ command asks. each command (inr asks)) within.1 h.7)))
  where
    own : IsShownBy job line reply h.0 → All (IsOfTry job all) h.0
    own (inl none) = All-same (IsOfTry job all) h.0 [] none.3 (All-nil (IsOfTry job all))
    own (inr asked) = replied_of job all asked.0 reply h.0 (inr (each asked.0 (inl asked.1))) (within.0 asked.0 asked.1) asked.4

-- tries up to one that began the transaction anew
pub record AreTriesTo (job : ℕ) (lines : List (List ℕ)) (xs : List Told) : Type 0 where
  pub tries : AreTries job lines xs
  pub some : xs ≡ [] → ⊥

replied_anew : (command : Command) (restarts : ℕ) (xs : List Told) → IsReplied command (Restarted restarts) xs → EndWith IsAnew xs
replied_anew command restarts [] h = absurd h
replied_anew command restarts (x ∷ []) h = (restarts, h.1)
replied_anew command restarts (x ∷ (y ∷ ys)) h = subst (λ (zs : List Told). EndWith IsAnew (y ∷ zs)) (sym h.3) (restarts, h.1.1)

replied_some : (command : Command) (reply : Reply) (xs : List Told) → IsReplied command reply xs → xs ≡ [] → ⊥
replied_some command reply [] h none = absurd h
replied_some command reply (x ∷ xs) h none = absurd (cc)

replied_to : (job : ℕ) (lines : List (List ℕ)) (command : Command) (restarts : ℕ) (xs : List Told) → IsAskedIn job lines command → IsReplied command (Restarted restarts) xs → AreTriesTo job lines xs
replied_to job lines command restarts xs asked h = record {
  tries = (replied_of job lines command (Restarted restarts) xs asked (anew_no_end command restarts) h, replied_anew command restarts xs h);
  some = λ none. replied_some command (Restarted restarts) xs h none;
}

tries_to : (job : ℕ) (lines : List (List ℕ)) (a b c : SessionsSoFar) → HasDoneSteps (All (IsOfTry job lines)) job a b → HasDoneSteps (AreTriesTo job lines) job b c → HasDoneSteps (AreTriesTo job lines) job a c
tries_to job lines a b c h k = (
  h.0 ++ k.0,
  record { tries = tries_by job lines h.0 k.0 h.1 k.1.tries k.1.some; some = λ none. k.1.some (back_none h.0 k.0 none) },
  steps_then job h.0 k.0 a b c h.2 k.2,
)
  where
    back_none : (xs ys : List Told) → xs ++ ys ≡ [] → ys ≡ []
    back_none [] ys e = e
    back_none (x ∷ xs) ys e = absurd (cc)

all_tried : (job : ℕ) (lines : List (List ℕ)) (a b : SessionsSoFar) → HasDoneSteps (AreTriesTo job lines) job a b → HasDoneSteps (All (IsOfTry job lines)) job a b
all_tried job lines a b h = (h.0, h.1.tries.0, h.2)

pub tries_done : (job : ℕ) (lines : List (List ℕ)) (a b : SessionsSoFar) → HasDoneSteps (AreTriesTo job lines) job a b → HasDoneSteps (AreTries job lines) job a b
tries_done job lines a b h = (h.0, h.1.tries, h.2)

-- the command of one of the lines began the transaction anew, and those in front of it ended none
pub tried_to : (job : ℕ) (lines front left next : List (List ℕ)) (line : List ℕ) (replies : List Reply) (command : Command) (restarts : ℕ) (a b c : SessionsSoFar) → lines ≡ front ++ left → left ≡ line ∷ next → Asks job line command → AreWithin job front replies
    → HasDoneSteps (AreShown job left front replies) job a b → HasDoneSteps (IsReplied command (Restarted restarts)) job b c → HasDoneSteps (AreTries job lines) job a c
tried_to job lines front left next line replies command restarts a b c split first asks within h k =
    tries_done job lines a c
    (tries_to job lines a b c (h.0, shown_asked job lines left front replies h.0 (λ other one. subst (λ (ls : List (List ℕ)). OneAsks job ls other) (sym split) one) within h.1, h.2)
    (k.0, replied_to job lines command restarts k.0 (inr here) k.1, k.2))
  where
    here : OneAsks job lines command
    here = subst (λ (ls : List (List ℕ)). OneAsks job ls command) (sym (split ∙ ap (λ (ls : List (List ℕ)). front ++ ls) first)) (one_behind job front (line ∷ next) command (inl asks))

-- a TRESTART by the server
pub restart_tries : (job : ℕ) (lines : List (List ℕ)) (p : Past) (restarts : ℕ) (old new : Held) → WasDoneBy Restart (Restarted restarts) old new → HasDoneSteps (AreTriesTo job lines) job (sessions_so_far p (Some old)) (sessions_so_far p (Some new))
restart_tries job lines p restarts old new done =
    shows_other (IsReplied Restart (Restarted restarts)) (AreTriesTo job lines) job (sessions_so_far p (Some old)) (sessions_so_far p (Some new)) (λ xs replied. replied_to job lines Restart restarts xs (inl refl) replied)
    (call_steps job p Restart (Restarted restarts) old new done)

-- the lines ask for all of the commands
abbrev pub AreAllAsked : ℕ → List (List ℕ) → List Command → Type 0
AreAllAsked job lines [] = ⊤
AreAllAsked job lines (command ∷ commands) = OneAsks job lines command × AreAllAsked job lines commands

commands_asked : (job : ℕ) (all lines : List (List ℕ)) (places : List (Option Refusal)) (commands : List Command) → AsksOf job lines all → AreAsked job lines places commands → AreAllAsked job all commands
commands_asked job all [] [] [] each asked = tt
commands_asked job all [] [] (command ∷ commands) each asked = absurd asked
commands_asked job all [] (place ∷ places) commands each asked = absurd asked
commands_asked job all (line ∷ lines) [] commands each asked = absurd asked
commands_asked job all (line ∷ lines) (Some refusal ∷ places) commands each asked = commands_asked job all lines places commands (λ command later. each command (inr later)) asked.1
commands_asked job all (line ∷ lines) (None ∷ places) [] each asked = absurd asked
commands_asked job all (line ∷ lines) (None ∷ places) (command ∷ commands) each asked = (each command (inl asked.0), commands_asked job all lines places commands (λ c later. each c (inr later)) asked.1)

asked_in_front : (job : ℕ) (lines : List (List ℕ)) (front back : List Command) → AreAllAsked job lines (front ++ back) → AreAllAsked job lines front
asked_in_front job lines [] back h = tt
asked_in_front job lines (command ∷ front) back h = (h.0, asked_in_front job lines front back h.1)

-- none of the commands has ended a transaction
abbrev pub AreNoEnds : List Command → List Reply → Type 0
AreNoEnds [] replies = ⊤
AreNoEnds (command ∷ commands) [] = ⊤
AreNoEnds (command ∷ commands) (reply ∷ replies) = IsNoEnd command reply × AreNoEnds commands replies

steps_asked : (job : ℕ) (lines : List (List ℕ)) (commands : List Command) (replies : List Reply) (xs : List Told) → AreAllAsked job lines commands → AreNoEnds commands replies → AreStepsFor commands replies xs → All (IsOfTry job lines) xs
steps_asked job lines [] [] [] asked none steps = All-nil (IsOfTry job lines)
steps_asked job lines [] [] (x ∷ xs) asked none steps = absurd steps
steps_asked job lines [] (reply ∷ replies) xs asked none steps = absurd steps
steps_asked job lines (command ∷ commands) [] xs asked none steps = absurd steps
steps_asked job lines (command ∷ commands) (reply ∷ replies) [] asked none steps = absurd steps
steps_asked job lines (command ∷ commands) (reply ∷ replies) (x ∷ xs) asked none steps =
    All-cons (IsOfTry job lines) x xs (of_try job lines command reply x (inr asked.0) none.0 steps.0) (steps_asked job lines commands replies xs asked.1 none.1 steps.1)

-- those of a block
pub front_asked : (job : ℕ) (all rest : List (List ℕ)) (places : List (Option Refusal)) (commands : List Command) (musts : List Bool) → AreInFront job all rest places commands musts → AreAllAsked job all commands
front_asked job all rest places commands musts h =
    commands_asked job all h.front places commands (λ command one. subst (λ (ls : List (List ℕ)). OneAsks job ls command) (sym h.split) (one_front job h.front rest command one)) h.asked

pub cut_tries : (job : ℕ) (p : Past) (all rest : List (List ℕ)) (places : List (Option Refusal)) (musts : List Bool) (commands front back : List Command) (replies : List Reply) (units more : List JournalUnit) (old new : Held) → AreInFront job all rest places commands musts → commands ≡ front ++ back
    → AreNoEnds front replies → old.seen ≡ units → AreDone front replies units more old new → HasDoneSteps (All (IsOfTry job all)) job (sessions_so_far p (Some old)) (sessions_so_far p (Some new))
cut_tries job p all rest places musts commands front back replies units more old new in_front split none seen done =
    let asked : AreAllAsked job all commands = front_asked job all rest places commands musts in_front in
    shows_other (AreStepsFor front replies) (All (IsOfTry job all)) job (sessions_so_far p (Some old)) (sessions_so_far p (Some new))
    (λ xs steps. steps_asked job all front replies xs (asked_in_front job all front back (subst (AreAllAsked job all) split asked)) none steps)
    (block_steps job p front replies units more old new seen done)

pub lock_tries : (job : ℕ) (p : Past) (lines : List (List ℕ)) (command : LockCommand) (reply : Reply) (old new : Held) → OneAsks job lines (lock_command command) → WasDoneBy (lock_command command) reply old new → HasDoneSteps (All (IsOfTry job lines)) job (sessions_so_far p (Some old)) (sessions_so_far p (Some new))
lock_tries job p lines command reply old new asks done =
    shows_other (IsReplied (lock_command command) reply) (All (IsOfTry job lines)) job (sessions_so_far p (Some old)) (sessions_so_far p (Some new))
    (λ xs replied. replied_of job lines (lock_command command) reply xs (inr asks) (lock_no_end command reply) replied) (call_steps job p (lock_command command) reply old new done)

-- a block that began anew was cut, and then its LOCK was waited for
pub waited_tries : (job : ℕ) (lines : List (List ℕ)) (a b c d e f : SessionsSoFar) → HasDoneSteps (AreTriesTo job lines) job a b → HasDoneSteps (All (IsOfTry job lines)) job b c → HasDoneSteps (AreTriesTo job lines) job c d → HasDoneSteps (All (IsOfTry job lines)) job d e
    → HasDoneSteps (AreTriesTo job lines) job e f → HasDoneSteps (AreTries job lines) job a f
waited_tries job lines a b c d e f first cut second lock last =
    tries_done job lines a f (tries_to job lines a b f (all_tried job lines a b first) (tries_to job lines b c f cut (tries_to job lines c d f (all_tried job lines c d second) (tries_to job lines d e f lock last))))

-- ---- tries behind a TSTART

pub shown_tried : (job : ℕ) (line : List ℕ) (left : List (List ℕ)) (a b c : SessionsSoFar) → Asks job line Start → HasDoneSteps (AreShown job left (line ∷ []) (AtLevel 1 ∷ [])) job a b → HasDoneSteps (AreTries job left) job b c
    → HasDoneSteps (AreShown job left (line ∷ []) (AtLevel 1 ∷ [])) job a c
shown_tried job line left a b c asks h k =
    let own : List Told = h.1.0 in
    let tries : List Told = h.1.1 in
    let whole : h.0 ≡ own ++ tries = h.1.3 ∙ (ap (λ (zs : List Told). own ++ (tries ++ zs)) h.1.7 ∙ ap (λ (zs : List Told). own ++ zs) (append-nil tries)) in (
      h.0 ++ k.0,
      (
        own,
        tries ++ k.0,
        [],
        ap (λ (zs : List Told). zs ++ k.0) whole ∙ (append_assoc own tries k.0 ∙ ap (λ (zs : List Told). own ++ zs) (sym (append-nil (tries ++ k.0)))),
        h.1.4,
        inl (asks, refl),
        tries_then job left tries k.0 h.1.6 k.1,
        refl,
      ),
      steps_then job h.0 k.0 a b c h.2 k.2,
    )

-- ---- the end of a job's lines

-- no session is left only where there was none
none_between : (job : ℕ) (p : Past) (old new : Option Held) → new ≡ None → IsBetweenIn job p old new → old ≡ None
none_between job p None new is between = refl
none_between job p (Some old) None is between = absurd between
none_between job p (Some old) (Some new) is between = absurd (cc)

-- a step that leaves none ended it
halted_by : (x : Told) (p more : Past) (old new : Option Held) → new ≡ None → IsStepIn x p old more new → IsStepWith Halt Finished x
halted_by x p more None new is step = absurd step
halted_by x p more (Some old) None is step = (ap (λ (y : Told). y.command) step.2, ap (λ (y : Told). y.reply) step.2)
halted_by x p more (Some old) (Some new) is step = absurd (cc)

-- where a job has no session any more its last step ended one
end_halted : (job : ℕ) (xs : List Told) (old new : SessionsSoFar) → new.session ≡ None → AreSteps job xs old new → EndWith (IsStepWith Halt Finished) xs
end_halted job [] old new none steps = tt
end_halted job (x ∷ []) old new none steps =
    let after : SessionsSoFar = steps.1 in halted_by x steps.0.past after.past steps.0.session after.session (none_between job after.past after.session new.session none steps.4.1) steps.3
end_halted job (x ∷ (y ∷ ys)) old new none steps = end_halted job (y ∷ ys) steps.1 new none steps.4

pub shown_to_end : (job : ℕ) (lines : List (List ℕ)) (replies : List Reply) (a b c : SessionsSoFar) → c.session ≡ None → HasDoneSteps (AreShown job [] lines replies) job a b → ((c ≡ b) ⊎ HasDoneSteps (IsReplied Halt Finished) job b c) → HasDoneSteps (AreShownToEnd job lines replies) job a c
shown_to_end job lines replies a b c none h (inl same) =
    let steps : AreSteps job h.0 a c = subst (λ (s : SessionsSoFar). AreSteps job h.0 a s) (sym same) h.2 in
    (h.0, (end_halted job h.0 a c none steps, h.0, [], sym (append-nil h.0), h.1, inl refl), steps)
shown_to_end job lines replies a b c none h (inr over) =
    let steps : AreSteps job (h.0 ++ over.0) a c = steps_then job h.0 over.0 a b c h.2 over.2 in
    (h.0 ++ over.0, (end_halted job (h.0 ++ over.0) a c none steps, h.0, over.0, refl, h.1, inr over.1), steps)
