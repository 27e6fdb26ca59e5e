-- $GETs of a hold that were gathered before.
use Rattle.std.proofs.Common.{◌≡◌, ℕ, suc, true≢false, ◌+◌, ◌<◌, ◌≤◌, List, [], ◌∷◌, ◌++◌, take, length, refl, sym, ap, ◌∙◌, subst, length-append, append_assoc, append-nil, arith}
use Rattle.std.specs.Prelude.{map, true, is_ok, Result, Ok, Err, Option, Some, None, OnSome, OnOk, OnErr, IfErr, IfSome}
use Rattle.std.specs.List.{All}
use Rattle.std.proofs.lemmas.List.{length-map}
use Rattle.std.proofs.lemmas.List.Elements.{All-nil, All-cons, All-head, All-tail}
use Rattle.collation.specs.Reference.{Reference}
use Rattle.collation.specs.Database.{Database}
use Rattle.command.specs.declared.access.DataCommand.{DataCommand}
use Rattle.command.specs.declared.access.Answer.TheVariants.{Value}
use Rattle.command.specs.declared.request.Command.{Command}
use Rattle.command.specs.declared.request.Command.TheVariants.{Access}
use Rattle.command.specs.declared.request.Reply.{Reply}
use Rattle.command.specs.declared.request.Reply.TheVariants.{Answered}
use Rattle.journal.specs.declared.unit.Unit.{Unit as JournalUnit}
use Rattle.journal.specs.Gathered.{Gathered, got, IsGetOf, AreGets}
use Rattle.journal.specs.History.{State, initial, after}
use Rattle.journal.specs.Kept.{Claim, claims_of, job_of}
use Rattle.serial.specs.Machine.{state_at}
use Rattle.validate_commit.specs.Gathering.{IsRightGet, AreRightGets}
use Rattle.validate_commit.specs.laws.Gathering.{gets_leave_behind}
use Rattle.job_core.specs.Lent.{value_at}
use Rattle.job_core.specs.Sessions.{Session as JobSession}
use Rattle.pin_board.specs.declared.view.DeskView.{DeskView}
use Rattle.pin_board.specs.declared.view.PinView.{PinView}
use Rattle.pin_board.specs.Views.{wrote}
use Rattle.pin_board.specs.Slips.{AreInJournal, IsBeginning, IsNext}
use Rattle.shared_engine.specs.Receipts.{has_receipt}
use Rattle.shared_engine.specs.Sessions.{Held, knowing, and_receipt, and_receipts, IsJournalOf, IsSession}
use Rattle.shared_engine.specs.Blocks.{HasDone, AreDone}
use Rattle.shared_engine.specs.laws.Prefixes.{begins_through}
use Rattle.shared_engine.specs.Holds.{accesses, get_of, gets_on, values_on, AreGathered, IsAhead}
use Rattle.shared_engine.proofs.Serving.{lone_get_done}
use Rattle.shared_engine.proofs.Writing.{shown, session_taken, view_taken}

-- they are right on the map
pub gets_right : (job : ℕ) (m : Database) (keys : List Reference) → AreRightGets m (gets_on job m keys)
gets_right job m [] = All-nil (IsRightGet m)
gets_right job m (key ∷ keys) = All-cons (IsRightGet m) (got job key (value_at key m)) (gets_on job m keys) (job, key, value_at key m, refl, refl) (gets_right job m keys)

-- the map is still as it was when they were read
pub map_known : (base units : List JournalUnit) (number : ℕ) → IsBeginning units base → number ≡ length base → (after units initial).map ≡ (state_at number units).map → (after base initial).map ≡ (after units initial).map
map_known base units number begins counted same = ap (λ (us : List JournalUnit). (after us initial).map) (begins.is ∙ ap (λ n. take n units) (sym counted)) ∙ sym same

-- so they are right there
pub right_known : (job number : ℕ) (base units : List JournalUnit) (commands : List DataCommand) (gets : Gathered) (served : List Reply) → IsBeginning units base → IsAhead job number base commands gets served → (after units initial).map ≡ (state_at number units).map
    → AreRightGets (after units initial).map gets.units
right_known job number base units commands gets served begins is same =
    subst (λ us. AreRightGets (after units initial).map us) (sym is.are.gathered) (subst (λ m. AreRightGets m (gets_on job (after base initial).map is.keys)) (map_known base units number begins is.are.counted same) (gets_right job (after base initial).map is.keys))

pub some_known : (job number : ℕ) (base : List JournalUnit) (commands : List DataCommand) (gets : Gathered) (served : List Reply) → IsAhead job number base commands gets served → 1 ≤ length gets.units
some_known job number base commands gets served is = omega (arith, is.some, ap length is.are.gathered, length-map is.keys (λ key. got job key (value_at key (after base initial).map)))

-- ---- some at a time

-- those of further keys are gathered as the session sees the journal now
pub gathered_on : {A : Type 0} (r : Option A) (units : List JournalUnit) (old new : Held) (number next : ℕ) (keys : List Reference) (gets more : Gathered) (served told : List Reply) → IsJournalOf units old → new ≡ knowing units old
    → OnSome r ((job : ℕ) (base : List JournalUnit) (before : List Reference) → IsBeginning units base → AreGathered job number base before gets served → AreGathered job next units (before ++ keys) more told)
    → OnSome r ((job : ℕ) (before : List Reference) → AreGathered job number old.seen before gets served → AreGathered job next new.seen (before ++ keys) more told)
gathered_on (Some x) units old new number next keys gets more served told journal same all =
    λ job before are. subst (λ us. AreGathered job next us (before ++ keys) more told) (sym (ap (λ (s : Held). s.seen) same)) (all job old.seen before journal.goes_on are)
gathered_on None units old new number next keys gets more served told journal same all = all

-- a piece of the keys that are left
pub asked_on : (commands : List DataCommand) (before left piece behind : List Reference) → left ≡ piece ++ behind → commands ≡ map get_of (before ++ left) → commands ≡ map get_of ((before ++ piece) ++ behind)
asked_on commands before left piece behind split asked = asked ∙ ap (λ ks. map get_of ks) (ap (λ ks. before ++ ks) split ∙ sym (append_assoc before piece behind))

pub some_on : (before left piece behind : List Reference) → left ≡ piece ++ behind → 1 ≤ length (before ++ left) → 1 ≤ length ((before ++ piece) ++ behind)
some_on before left piece behind split some = subst (λ ks. 1 ≤ length ks) (ap (λ ks. before ++ ks) split ∙ sym (append_assoc before piece behind)) some

-- none is left
pub gathered_all : (job number : ℕ) (units : List JournalUnit) (commands : List DataCommand) (before left : List Reference) (gets : Gathered) (served : List Reply) → left ≡ [] → commands ≡ map get_of (before ++ left) → 1 ≤ length (before ++ left) → AreGathered job number units before gets served → IsAhead job number units commands gets served
gathered_all job number units commands before left gets served none asked some are =
    let all : before ++ left ≡ before = ap (λ ks. before ++ ks) none ∙ append-nil before in
    record { keys = before; some = subst (λ ks. 1 ≤ length ks) all some; asked = asked ∙ ap (λ ks. map get_of ks) all; are = are }

-- $GETs one after the other, each done
pub gets_done : (job : ℕ) (m : Database) (keys : List Reference) (units : List JournalUnit) (s : Held) → s.state.level ≡ 0 → s.state.work.job ≡ job → (after units initial).map ≡ m
    → AreDone (accesses (map get_of keys)) (values_on m keys) units (units ++ gets_on job m keys) s (and_receipts units (gets_on job m keys) s)
gets_done job m [] units s level owner now = (append-nil units, refl)
gets_done job m (key ∷ keys) units s level owner now =
    let unit = got job key (value_at key m) in
    let more = units ++ unit ∷ [] in
    let next = and_receipt units unit s in
    let same : unit ≡ got s.state.work.job key (value_at key (after units initial).map) = λ i. got (sym owner i) key (value_at key (sym now i)) in
    let first : HasDone (Access (get_of key)) (Answered (Value (value_at key (after units initial).map))) units more s next = lone_get_done (Ok 0) key units more s next level (ap (λ u. units ++ u ∷ []) same) (ap (λ u. and_receipt units u s) same) tt tt in
    let left : (after more initial).map ≡ m = ap (λ (t : State). t.map) (gets_leave_behind units (unit ∷ []) m initial (gets_right job m (key ∷ []))) ∙ now in (
      more,
      next,
      subst (λ v. HasDone (Access (get_of key)) (Answered (Value (value_at key v))) units more s next) now first,
      subst (λ us. AreDone (accesses (map get_of keys)) (values_on m keys) more us next (and_receipts more (gets_on job m keys) next)) (append_assoc units (unit ∷ []) (gets_on job m keys)) (gets_done job m keys more next level owner left),
    )

-- all of a hold
pub known_done : (job number : ℕ) (base units more : List JournalUnit) (commands : List DataCommand) (gets : Gathered) (served told : List Reply) (old new : Held) → IsBeginning units base → IsAhead job number base commands gets served → (after units initial).map ≡ (state_at number units).map → old.state.level ≡ 0
    → job ≡ old.state.work.job → more ≡ units ++ gets.units → new ≡ and_receipts units gets.units old → told ≡ served → AreDone (accesses commands) told units more old new
known_done job number base units more commands gets served told old new begins is same level owner longer receipts are =
    let m = (after base initial).map in
    let all = gets_done job m is.keys units old level (sym owner) (sym (map_known base units number begins is.are.counted same)) in
    rw (is.asked, are ∙ is.are.told, longer ∙ ap (λ us. units ++ us) is.are.gathered, receipts ∙ ap (λ us. and_receipts units us old) is.are.gathered) all

-- ---- receipts, one by one

-- the units that receipts are left for stand behind those that the board has
pub record AreNoted (state : JobSession) (all : List JournalUnit) (receipts : List Claim) (log : List JournalUnit) (pin : PinView) (numbers : List ℕ) (last : Held) : Type 0 where
  pub left : List JournalUnit
  pub claims : receipts ≡ claims_of (length log + 1) left
  pub rest : all ≡ log ++ left
  pub own : All (IsGetOf state.work.job) left
  pub session : IsSession state pin numbers
  pub view : and_receipts log left (shown state pin) ≡ last

-- a job's $GETs
pub gets_own : (job : ℕ) (m : Database) (keys : List Reference) → All (IsGetOf job) (gets_on job m keys)
gets_own job m [] = All-nil (IsGetOf job)
gets_own job m (key ∷ keys) = All-cons (IsGetOf job) (got job key (value_at key m)) (gets_on job m keys) (key, value_at key m, refl) (gets_own job m keys)

pub own_known : (job number : ℕ) (base : List JournalUnit) (commands : List DataCommand) (gets : Gathered) (served : List Reply) → IsAhead job number base commands gets served → AreGets gets
own_known job number base commands gets served is = subst (λ j. All (IsGetOf j) gets.units) (sym is.are.owner) (subst (All (IsGetOf job)) (sym is.are.gathered) (gets_own job (after base initial).map is.keys))

-- before the first of them
pub noted_first : (state : JobSession) (units all gets : List JournalUnit) (receipts : List Claim) (log : List JournalUnit) (pin : PinView) (ns numbers : List ℕ) → IsSession state pin ns → numbers ≡ ns → log ≡ units → all ≡ units ++ gets → receipts ≡ claims_of (length units + 1) gets → All (IsGetOf state.work.job) gets
    → AreNoted state all receipts log pin numbers (and_receipts units gets (shown state pin))
noted_first state units all gets receipts log pin ns numbers is same here longer claims own = record {
  left = gets;
  claims = claims ∙ ap (λ (us : List JournalUnit). claims_of (length us + 1) gets) (sym here);
  rest = longer ∙ ap (λ us. us ++ gets) (sym here);
  own = own;
  session = subst (IsSession state pin) (sym same) is;
  view = ap (λ us. and_receipts us gets (shown state pin)) here;
}

first_or : Claim → List Claim → Claim
first_or x [] = x
first_or x (y ∷ ys) = y

rest_after : List Claim → List Claim
rest_after [] = []
rest_after (y ∷ ys) = ys

-- each unit has one
claims_each : (n : ℕ) (us : List JournalUnit) → length (claims_of n us) ≡ length us
claims_each n [] = refl
claims_each n (u ∷ us) = ap suc (claims_each (n + 1) us)

pub room_for : (n : ℕ) (us : List JournalUnit) (receipts : List Claim) → receipts ≡ claims_of n us → length receipts ≡ length us
room_for n us receipts is = ap length is ∙ claims_each n us

-- the next one is that of the unit behind those on the board
pub noted_is : (state : JobSession) (all : List JournalUnit) (receipts rest : List Claim) (receipt : Claim) (log : List JournalUnit) (pin : PinView) (numbers : List ℕ) (last : Held) → AreNoted state all receipts log pin numbers last → receipts ≡ receipt ∷ rest
    → (u : JournalUnit) × (us : List JournalUnit) × (h : AreNoted state all receipts log pin numbers last) × (h.left ≡ u ∷ us) × (receipt ≡ record { job = job_of u; number = length log + 1; unit = u }) × (rest ≡ claims_of (length log + 1 + 1) us)
unfolding first_or rest_after
noted_is state all receipts rest receipt log pin numbers last h next = by_left h.left refl
  where
    by_left : (left : List JournalUnit) → h.left ≡ left → (u : JournalUnit) × (us : List JournalUnit) × (h : AreNoted state all receipts log pin numbers last) × (h.left ≡ u ∷ us) × (receipt ≡ record { job = job_of u; number = length log + 1; unit = u }) × (rest ≡ claims_of (length log + 1 + 1) us)
    by_left [] none = let empty : receipt ∷ rest ≡ [] = sym next ∙ (h.claims ∙ ap (claims_of (length log + 1)) none) in absurd (cc)
    by_left (u ∷ us) some =
        let both : receipt ∷ rest ≡ (record { job = job_of u; number = length log + 1; unit = u }) ∷ claims_of (length log + 1 + 1) us = sym next ∙ (h.claims ∙ ap (claims_of (length log + 1)) some) in
        (u, us, h, some, ap (first_or receipt) both, ap rest_after both)

pub noted_next : (state : JobSession) (all : List JournalUnit) (receipts rest : List Claim) (receipt : Claim) (log : List JournalUnit) (pin : PinView) (numbers : List ℕ) (last : Held) → AreNoted state all receipts log pin numbers last → receipts ≡ receipt ∷ rest → IsNext log receipt
noted_next state all receipts rest receipt log pin numbers last h next =
    let is = (noted_is state all receipts rest receipt log pin numbers last h next).4 in
    record { number = ap (λ (c : Claim). c.number) is; job = ap (λ (c : Claim). c.job) is ∙ ap job_of (sym (ap (λ (c : Claim). c.unit) is)) }

pub noted_more : (state : JobSession) (all : List JournalUnit) (receipts rest : List Claim) (receipt : Claim) (desk : DeskView) (log : List JournalUnit) (pin later : PinView) (numbers more : List ℕ) (last : Held) → AreNoted state all receipts desk.log pin numbers last → receipts ≡ receipt ∷ rest
    → AreInJournal desk.log pin.mine → IsBeginning desk.log pin.seen → log ≡ desk.log ++ receipt.unit ∷ [] → later ≡ wrote desk pin receipt → more ≡ numbers ++ receipt.number ∷ [] → AreNoted state all rest log later more last
noted_more state all receipts rest receipt desk log pin later numbers more last before next in_log goes_on logged step numbered =
    let found = noted_is state all receipts rest receipt desk.log pin numbers last before next in
    let u = found.0 in
    let us = found.1 in
    let h = found.2 in
    let behind = noted_next state all receipts rest receipt desk.log pin numbers last before next in
    let unit : receipt.unit ≡ u = ap (λ (c : Claim). c.unit) found.4 in
    let mine = All-head (IsGetOf state.work.job) u us (subst (All (IsGetOf state.work.job)) found.3 h.own) in
    let has : has_receipt receipt.unit ≡ true = ap has_receipt (unit ∙ mine.2) in
    let own : job_of receipt.unit ≡ state.work.job = ap job_of (unit ∙ mine.2) in
    let here : log ≡ desk.log ++ u ∷ [] = logged ∙ ap (λ x. desk.log ++ x ∷ []) unit in
    let long : length log ≡ length desk.log + 1 = ap length here ∙ length-append desk.log (u ∷ []) in
    record {
      left = us;
      claims = found.5 ∙ ap (λ n. claims_of (n + 1) us) (sym long);
      rest = h.rest ∙ (ap (λ vs. desk.log ++ vs) found.3 ∙ (sym (append_assoc desk.log (u ∷ []) us) ∙ ap (λ vs. vs ++ us) (sym here)));
      own = All-tail (IsGetOf state.work.job) u us (subst (All (IsGetOf state.work.job)) found.3 h.own);
      session = session_taken desk state pin later numbers more receipt h.session in_log goes_on behind step numbered has own;
      view = (λ i. and_receipts (here i) us (shown state later))
          ∙ (ap (and_receipts (desk.log ++ u ∷ []) us) (view_taken desk state pin later receipt behind step has ∙ ap (λ x. and_receipt desk.log x (shown state pin)) unit)
          ∙ (ap (λ vs. and_receipts desk.log vs (shown state pin)) (sym found.3) ∙ h.view));
    }

-- all are on the board
pub noted_all : (state : JobSession) (all : List JournalUnit) (receipts : List Claim) (log : List JournalUnit) (pin : PinView) (numbers : List ℕ) (last : Held) → AreNoted state all receipts log pin numbers last → receipts ≡ [] → (log ≡ all) × (shown state pin ≡ last)
noted_all state all receipts log pin numbers last h none = by_left h.left refl
  where
    by_left : (left : List JournalUnit) → h.left ≡ left → (log ≡ all) × (shown state pin ≡ last)
    by_left [] is = (sym (h.rest ∙ (ap (λ vs. log ++ vs) is ∙ append-nil log)), ap (λ vs. and_receipts log vs (shown state pin)) (sym is) ∙ h.view)
    by_left (u ∷ us) is = let empty : claims_of (length log + 1) (u ∷ us) ≡ [] = ap (claims_of (length log + 1)) (sym is) ∙ (sym h.claims ∙ none) in absurd (cc)

-- ---- the hold

pub on_ok : {A E : Type 0} (r : Result A E) (P : Type 0) → is_ok r ≡ true → OnOk r P → P
on_ok (Ok a) P is h = h
on_ok (Err e) P is h = absurd (true≢false (sym is))

-- the session has seen its units
pub receipts_seen : (units gets : List JournalUnit) (s : Held) → s.seen ≡ units → (and_receipts units gets s).seen ≡ units ++ gets
receipts_seen units [] s seen = seen ∙ sym (append-nil units)
receipts_seen units (u ∷ us) s seen = receipts_seen (units ++ u ∷ []) us (and_receipt units u s) refl ∙ append_assoc units (u ∷ []) us

-- the session had seen less before its $GETs were read
pub done_from : (commands : List Command) (served : List Reply) (old middle new : Held) → middle ≡ knowing middle.seen old → IsBeginning middle.seen old.seen → ((units : List JournalUnit) × IsJournalOf units middle × AreDone commands served units new.seen (knowing units middle) new)
    → (units : List JournalUnit) × IsJournalOf units old × AreDone commands served units new.seen (knowing units old) new
done_from commands served old middle new is begins h =
    let journal = h.1 in
    let start = subst (λ o. IfSome o (λ (base : List JournalUnit). base ≡ take (length base) h.0)) (ap (λ (s : Held). s.start) is) journal.start in
    let receipts = subst (AreInJournal h.0) (ap (λ (s : Held). s.receipts) is) journal.receipts in (
      h.0,
      record { legal = journal.legal; goes_on = begins_through h.0 middle.seen old.seen journal.goes_on begins; start = start; receipts = receipts },
      subst (λ (s : Held). AreDone commands served h.0 new.seen s new) (ap (λ (s : Held). knowing h.0 s) is) h.2,
    )
