-- Settings that are done one after the other are the first units of a journal.
use Rattle.std.proofs.Common.{◌≡◌, ◌≤◌, ◌<◌, ℕ, zero, suc, ◌+◌, ◌-◌, List, [], ◌∷◌, ◌++◌, length, map, take, drop, get_or, length-append, refl, sym, ap, subst, ◌∙◌, arith}
use Rattle.std.specs.Prelude.{Some, None, slice_get, Result, Ok, Err, IfOk}
use Rattle.std.specs.List.{All}
use Rattle.collation.specs.Reference.{Reference}
use Rattle.command.specs.declared.access.Answer.{Answer}
use Rattle.command.specs.declared.access.Answer.TheVariants.{Done}
use Rattle.command.specs.declared.access.DataCommand.TheVariants.{Set}
use Rattle.command.specs.declared.request.Command.{Command}
use Rattle.command.specs.declared.request.Command.TheVariants.{Access, Halt}
use Rattle.command.specs.declared.request.Reply.{Reply}
use Rattle.command.specs.declared.request.Reply.TheVariants.{Answered, Finished}
use Rattle.journal.specs.declared.unit.Unit.{Unit as JournalUnit}
use Rattle.journal.specs.declared.unit.Unit.TheVariants.{Lone, End}
use Rattle.journal.specs.Kept.{Claim}
use Rattle.serial.specs.Interleaving.{Told}
use Rattle.job_core.specs.Sessions.{idle}
use Rattle.pin_board.specs.Slips.{IsInJournal, AreInJournal, IsBeginning}
use Rattle.shared_engine.specs.Blocks.{IsLone}
use Rattle.shared_engine.specs.Receipts.{Book, book, claim, number_of, RisesFrom}
use Rattle.shared_engine.specs.Sessions.{Held, held, and_receipt, halted}
use Rattle.loading.specs.Settings.{Setting, TextFault, before, settings_of}
use Rattle.loading.specs.Pending.{Pending, asked_of}
use Rattle.loading.specs.Loaded.{units_of}
use Rattle.loading.specs.laws.Before.{before_none, before_next, before_end, fault_before}
use Rattle.loading.specs.declared.fault.LoadFault.TheVariants as load_faults
use Rattle.job_server.specs.Loads.{unit_of, claims_from, load_book, load_books, BeginsWith, AreSets, AreLoadSteps, HasRunLoad, AreReceiptsOf, HasSet, HasSetTo, HasSetAll, IsBookOf, IsLoaded, IsOfAnyLoad, IsUnservedOf}
use Rattle.job_server.specs.Steps.{past, SessionsSoFar, sessions_so_far, none_since, WasDoneBy, AreSteps, HasDoneSteps}
use Rattle.job_server.proofs.Stepped.{lone_stepped}
use Rattle.job_server.proofs.Stepping.{between_opened, steps_then, one_call, halt_call}
use Rattle.job_server.specs.declared.fault.Unserved.{Unserved}
use Rattle.job_server.specs.declared.fault.Unserved.TheVariants.{Load, Jobs}

-- ---- receipts

receipt_more : (ss : List Setting) (cs : List Claim) (s : Setting) (n : ℕ) → AreReceiptsOf ss cs → AreReceiptsOf (ss ++ s ∷ []) (cs ++ claim n (unit_of s) ∷ [])
receipt_more [] [] s n h = (refl, tt)
receipt_more [] (c ∷ cs) s n h = absurd h
receipt_more (x ∷ ss) [] s n h = absurd h
receipt_more (x ∷ ss) (c ∷ cs) s n h = (h.0, receipt_more ss cs s n h.1)

-- the last of numbers, or n
abbrev last_from : ℕ → List ℕ → ℕ
last_from n [] = n
last_from n (x ∷ xs) = last_from x xs

last_at : (n k : ℕ) (xs : List ℕ) → k + 1 ≡ length xs → get_or xs k 0 ≡ last_from n xs
last_at n k [] e = let f : k + 1 ≡ 0 = e in absurd (omega (arith, f))
last_at n zero (x ∷ []) e = refl
last_at n (suc k) (x ∷ []) e = let f : suc k + 1 ≡ 1 = e in absurd (omega (arith, f))
last_at n zero (x ∷ y ∷ ys) e = let f : 1 ≡ suc (suc (length ys)) = e in absurd (omega (arith, f))
last_at n (suc k) (x ∷ y ∷ ys) e = let f : suc k + 1 ≡ suc (suc (length ys)) = e in let rest : k + 1 ≡ suc (length ys) = omega (arith, f) in last_at x k (y ∷ ys) rest

length_numbers : (cs : List Claim) → length (map number_of cs) ≡ length cs
length_numbers [] = refl
length_numbers (c ∷ cs) = ap (λ (n : ℕ). suc n) (length_numbers cs)

-- numbers that rise are no lower than if they rose by one
least : (n : ℕ) (cs : List Claim) → RisesFrom n cs → n + length cs ≤ last_from n (map number_of cs)
least n [] h = let same : n + 0 ≤ n = omega arith in same
least n (c ∷ cs) h =
    let more : c.number + length cs ≤ last_from c.number (map number_of cs) = least c.number cs h.1 in
    let first : n < c.number = h.0 in
    let all : n + suc (length cs) ≤ last_from c.number (map number_of cs) = omega (arith, more, first) in
    all

-- where the last is no higher, they do
exact : (n : ℕ) (ss : List Setting) (cs : List Claim) → RisesFrom n cs → AreReceiptsOf ss cs → last_from n (map number_of cs) ≡ n + length cs → cs ≡ claims_from (n + 1) ss
exact n [] [] rises are last = refl
exact n [] (c ∷ cs) rises are last = absurd are
exact n (s ∷ ss) [] rises are last = absurd are
exact n (s ∷ ss) (c ∷ cs) rises are last =
    let low : c.number + length cs ≤ last_from c.number (map number_of cs) = least c.number cs rises.1 in
    let first : n < c.number = rises.0 in
    let high : last_from c.number (map number_of cs) ≡ n + suc (length cs) = last in
    let number : c.number ≡ n + 1 = omega (arith, low, first, high) in
    let left : last_from c.number (map number_of cs) ≡ c.number + length cs = omega (arith, low, first, high) in
    let rest : cs ≡ claims_from (c.number + 1) ss = exact c.number ss cs rises.1 are.1 left in
    ap (λ (l : List Claim). c ∷ l) rest
    ∙ ap (λ (d : Claim). d ∷ claims_from (c.number + 1) ss) are.0
    ∙ ap (λ (k : ℕ). claim k (unit_of s) ∷ claims_from (k + 1) ss) number

last_is : (ns : List ℕ) → get_or ns (length ns - 1) 0 ≡ length ns → last_from 0 ns ≡ length ns
last_is [] h = refl
last_is (x ∷ xs) h = let whole : suc (length xs) - 1 + 1 ≡ suc (length xs) = omega arith in sym (last_at 0 (suc (length xs) - 1) (x ∷ xs) whole) ∙ h

count_up : (ss : List Setting) (cs : List Claim) (ns : List ℕ) → map number_of cs ≡ ns → RisesFrom 0 cs → AreReceiptsOf ss cs → get_or ns (length ns - 1) 0 ≡ length ns → cs ≡ claims_from 1 ss
count_up ss cs ns same rises are h =
    let last : last_from 0 (map number_of cs) ≡ length cs = ap (last_from 0) same ∙ last_is ns h ∙ sym (ap length same) ∙ length_numbers cs in
    exact 0 ss cs rises are (omega (arith, last))

-- ---- steps

sets_push : (ss : List Setting) (s : Setting) (xs : List Told) (x : Told) → AreSets ss xs → (x.command ≡ Access (Set s.0 s.1)) × (x.reply ≡ Answered Done) → AreSets (ss ++ s ∷ []) (xs ++ x ∷ [])
sets_push [] s [] x are is = (is, tt)
sets_push [] s (y ∷ ys) x are is = absurd are
sets_push (t ∷ ts) s [] x are is = absurd are
sets_push (t ∷ ts) s (y ∷ ys) x are is = (are.0, sets_push ts s ys x are.1 is)

sets_then : (ss : List Setting) (s : Setting) (a b c : SessionsSoFar) → HasDoneSteps (AreSets ss) 1 a b → (x : Told) × ((x.command ≡ Access (Set s.0 s.1)) × (x.reply ≡ Answered Done)) × AreSteps 1 (x ∷ []) b c → HasDoneSteps (AreSets (ss ++ s ∷ [])) 1 a c
sets_then ss s a b c h one = (h.0 ++ one.0 ∷ [], sets_push ss s h.0 one.0 h.1 one.1, steps_then 1 h.0 (one.0 ∷ []) a b c h.2 one.2)

-- a step's command and reply
abbrev what : Told → Command × Reply
what x = (x.command, x.reply)

abbrev set_what : Setting → Command × Reply
set_what s = (Access (Set s.0 s.1), Answered Done)

sets_then_halt : (ss : List Setting) (xs : List Told) (last : Told) → AreSets ss xs → (last.command ≡ Halt) × (last.reply ≡ Finished) → map what (xs ++ last ∷ []) ≡ map set_what ss ++ (Halt, Finished) ∷ []
sets_then_halt [] [] last are is = λ i. (is.0 i, is.1 i) ∷ []
sets_then_halt [] (x ∷ xs) last are is = absurd are
sets_then_halt (s ∷ ss) [] last are is = absurd are
sets_then_halt (s ∷ ss) (x ∷ xs) last are is = λ i. (are.0.0 i, are.0.1 i) ∷ sets_then_halt ss xs last are.1 is i

load_steps : (ss : List Setting) (h : Held) (b : Book) (units : List JournalUnit) → IsBeginning units h.seen → b ≡ halted units h → HasDoneSteps (AreSets ss) 1 (none_since 0) (sessions_so_far (past 0 []) (Some h)) → HasDoneSteps (AreLoadSteps ss) 1 (none_since 0) (sessions_so_far (past 0 (b ∷ [])) None)
load_steps ss h b units goes_on is sets =
    let end = halt_call 1 (past 0 []) units h goes_on in
    subst (λ (p : Book). HasDoneSteps (AreLoadSteps ss) 1 (none_since 0) (sessions_so_far (past 0 (p ∷ [])) None)) (sym is)
    (sets.0 ++ end.0 ∷ [], sets_then_halt ss sets.0 end.0 sets.1 end.1, steps_then 1 sets.0 (end.0 ∷ []) (none_since 0) (sessions_so_far (past 0 []) (Some h)) (sessions_so_far (past 0 (halted units h ∷ [])) None) sets.2 end.2)

-- ---- the session

-- no transaction is open
pub level_set : (ss : List Setting) (h : Held) → HasSet ss h → h.state.level ≡ 0
level_set ss h set = ap (λ (x : Held). x.state.level) set.is

-- nothing was done
pub none_set : (h : Held) → ((units : List JournalUnit) × (h ≡ held (idle 1) None [] [] units)) → HasSet [] h
none_set h begun = record {
  receipts = [];
  seen = begun.0;
  are_of = tt;
  is = begun.1;
  steps = subst (λ (x : Held). HasDoneSteps (AreSets []) 1 (none_since 0) (sessions_so_far (past 0 []) (Some x))) (sym begun.1) ([], tt, between_opened 1 (past 0 []) begun.0 (omega arith, tt));
}

-- one setting more
pub set_more : (ss : List Setting) (s : Setting) (units : List JournalUnit) (old new : Held) → HasSet ss old → new ≡ and_receipt units (unit_of s) old → WasDoneBy (Access (Set s.0 s.1)) (Answered Done) old new → HasSet (ss ++ s ∷ []) new
set_more ss s units old new set is done = record {
  receipts = set.receipts ++ claim (length units + 1) (unit_of s) ∷ [];
  seen = units ++ unit_of s ∷ [];
  are_of = receipt_more ss set.receipts s (length units + 1) set.are_of;
  is = is ∙ ap (and_receipt units (unit_of s)) set.is;
  steps = sets_then ss s (none_since 0) (sessions_so_far (past 0 []) (Some old)) (sessions_so_far (past 0 []) (Some new)) set.steps (one_call 1 (past 0 []) (Set s.0 s.1) (Answered Done) old new done);
}

-- the same, of what the engine answered
pub set_by_lone : (key : Reference) (value : List ℕ) (answer : Answer) (old new : Held) → ((units : List JournalUnit) × IsBeginning units old.seen × IsLone (Set key value) (Ok answer) units new.seen old new) → answer ≡ Done → (ss : List Setting) → HasSet ss old → HasSet (ss ++ (key, value) ∷ []) new
set_by_lone key value answer old new h done ss set =
    let job : old.state.work.job ≡ 1 = ap (λ (x : Held). x.state.work.job) set.is in
    set_more ss (key, value) h.0 old new set (h.2.1.1 ∙ ap (λ (j : ℕ). and_receipt h.0 (Lone j (Set key value) answer) old) job ∙ ap (λ (a : Answer). and_receipt h.0 (Lone 1 (Set key value) a) old) done)
    (subst (λ (a : Answer). WasDoneBy (Access (Set key value)) (Answered a) old new) done (lone_stepped (Set key value) (Ok answer) old new (level_set ss old set) h))

pub first_set : (first : Setting) (asked : Result (List Setting) TextFault) (h : Held) → HasSet (first ∷ []) h → HasSetTo first asked asked h
first_set first asked h set = record { more = []; goes_on = before_none asked; set = set }

pub next_set : (first s : Setting) (asked left later : Result (List Setting) TextFault) (old new : Held) → HasSetTo first asked left old → left ≡ before (s ∷ []) later → ((before : List Setting) → HasSet before old → HasSet (before ++ s ∷ []) new)
    → HasSetTo first asked later new
next_set first s asked left later old new so next step = record {
  more = so.more ++ s ∷ [];
  goes_on = before_next so.more s asked left later so.goes_on next;
  set = step (first ∷ so.more) so.set;
}

pub last_set : (first : Setting) (asked left : Result (List Setting) TextFault) (h : Held) → HasSetTo first asked left h → left ≡ Ok [] → HasSetAll first asked h
last_set first asked left h so none = record { more = so.more; is = before_end so.more asked left so.goes_on none; set = so.set }

-- its book
pub closed_book : (ss : List Setting) (h : Held) (b : Book) (ns : List ℕ) → HasSet ss h → map number_of h.receipts ≡ ns → RisesFrom 0 h.receipts → get_or ns (length ns - 1) 0 ≡ length ns → ((units : List JournalUnit) × IsBeginning units h.seen × (b ≡ halted units h))
    → (ended : List JournalUnit) × (b ≡ load_book ended ss) × HasDoneSteps (AreLoadSteps ss) 1 (none_since 0) (sessions_so_far (past 0 (b ∷ [])) None)
closed_book ss h b ns set same rises last closed =
    let units : List JournalUnit = closed.0 in
    let now : List JournalUnit = units ++ End 1 ∷ [] in
    let receipts : h.receipts ≡ set.receipts = ap (λ (x : Held). x.receipts) set.is in
    let are : AreReceiptsOf ss h.receipts = subst (AreReceiptsOf ss) (sym receipts) set.are_of in
    let number : length units + 1 ≡ length now = sym (length-append units (End 1 ∷ [])) in
    let ended : halted units h ≡ book 1 h.receipts (claim (length now) (End 1) ∷ []) now =
    ap (halted units) set.is ∙ (ap (λ (cs : List Claim). book 1 cs (claim (length units + 1) (End 1) ∷ []) now) (sym receipts) ∙ ap (λ (n : ℕ). book 1 h.receipts (claim n (End 1) ∷ []) now) number) in
    (now, closed.2 ∙ ended ∙ ap (λ (cs : List Claim). book 1 cs (claim (length now) (End 1) ∷ []) now) (count_up ss h.receipts ns same rises are last), load_steps ss h b units closed.1 closed.2 set.steps)

-- the same, where its session closes
pub book_on : {E : Type 0} (r : Result Book E) (first : Setting) (asked : Result (List Setting) TextFault) (h : Held) → HasSetAll first asked h → IfOk r (λ b. (s : Setting) (more : List Setting) → HasSet (s ∷ more) h → (ended : List JournalUnit) × (b ≡ load_book ended (s ∷ more)) × HasRunLoad (s ∷ more) (b ∷ []))
    → IfOk r (IsBookOf first asked)
book_on (Ok b) first asked h set is = let last = is first set.more set.set in record { more = set.more; ended = last.0; is = set.is; book_is = last.1; has_run = last.2 }
book_on (Err e) first asked h set is = tt

-- ---- faults

-- a fault of no line is one whatever is asked for
pub any_fault : (asked : Result (List Setting) TextFault) (fault : Unserved) → IsOfAnyLoad fault → IsUnservedOf asked fault
any_fault asked (Load (load_faults.Line line)) h = absurd h
any_fault asked (Load load_faults.Memory) h = tt
any_fault asked (Jobs fault) h = tt

-- a fault of what is left
pub fault_left : (so_far : List Setting) (asked left : Result (List Setting) TextFault) (fault : Unserved) → asked ≡ before so_far left → IsUnservedOf left fault → IsUnservedOf asked fault
fault_left so_far asked left (Load fault) is h = fault_before so_far asked left fault is h
fault_left so_far asked left (Jobs fault) is h = tt

-- ---- the listing

-- it sets nothing
pub none_loaded : (listing : List ℕ) (p : Pending) → settings_of listing ≡ asked_of p → asked_of p ≡ Ok [] → IsLoaded listing []
none_loaded listing p is none = record { settings = []; ended = []; asked = is ∙ none; books_are = refl; has_run = tt }

-- its settings have a book
pub book_loaded : (listing : List ℕ) (first : Setting) (p later : Pending) (b : Book) (books : List Book) → settings_of listing ≡ asked_of p → asked_of p ≡ before (first ∷ []) (asked_of later) → IsBookOf first (asked_of later) b → books ≡ b ∷ [] → IsLoaded listing books
book_loaded listing first p later b books is next h are = record {
  settings = first ∷ h.more;
  ended = h.ended;
  asked = is ∙ next ∙ ap (before (first ∷ [])) h.is;
  books_are = are ∙ ap (λ (x : Book). x ∷ []) h.book_is;
  has_run = subst (λ (bs : List Book). HasRunLoad (first ∷ h.more) bs) (sym are) h.has_run;
}

-- ---- the journal

drop_head : (units : List JournalUnit) (n : ℕ) (u : JournalUnit) → slice_get units n ≡ Some u → drop n units ≡ u ∷ drop (n + 1) units
drop_head units n u is = from units n is ∙ ap (λ (k : ℕ). u ∷ drop k units) (sym (plus_one n))
  where
    plus_one : (k : ℕ) → k + 1 ≡ suc k
    plus_one k = omega arith

    from : (us : List JournalUnit) (k : ℕ) → slice_get us k ≡ Some u → drop k us ≡ u ∷ drop (suc k) us
    from [] zero e = absurd (cc)
    from [] (suc k) e = absurd (cc)
    from (x ∷ us) zero e = ap (λ (y : JournalUnit). y ∷ us) (some_same e)
      where
        some_same : Some x ≡ Some u → x ≡ u
        some_same f = cc
    from (x ∷ us) (suc k) e = from us k e

same_place : (units : List JournalUnit) (n k : ℕ) (u : JournalUnit) → n + 1 ≡ k + 1 → slice_get units k ≡ Some u → slice_get units n ≡ Some u
same_place units n k u e is = let same : n ≡ k = omega (arith, e) in ap (slice_get units) same ∙ is

begins_from : (n : ℕ) (ss : List Setting) (units : List JournalUnit) → All (IsInJournal units) (claims_from (n + 1) ss) → take (length ss) (drop n units) ≡ units_of ss
begins_from n [] units h = take_none (drop n units)
  where
    take_none : (us : List JournalUnit) → take 0 us ≡ []
    take_none [] = refl
    take_none (u ∷ us) = refl
begins_from n (s ∷ ss) units h =
    let first : 0 < suc (length (claims_from (n + 1 + 1) ss)) = omega arith in
    let there : IsInJournal units (claim (n + 1) (unit_of s)) = h 0 (claim (n + 1) (unit_of s)) first in
    let rest : All (IsInJournal units) (claims_from (n + 1 + 1) ss) = λ k d lt. h (suc k) d (omega (arith, lt)) in
    let head : drop n units ≡ unit_of s ∷ drop (n + 1) units = drop_head units n (unit_of s) (same_place units n there.0 (unit_of s) there.1 there.2) in
    ap (take (suc (length ss))) head ∙ ap (λ (us : List JournalUnit). unit_of s ∷ us) (begins_from (n + 1) ss units rest)

drop_none : (us : List JournalUnit) → us ≡ drop 0 us
drop_none [] = refl
drop_none (u ∷ us) = refl

pub begins : (ended : List JournalUnit) (ss : List Setting) (units : List JournalUnit) (loaded more all : List Book) → loaded ≡ load_books ended ss → all ≡ loaded ++ more → All (λ (b : Book). AreInJournal units b.receipts) all → BeginsWith ss units
begins ended [] units loaded more all is joined h = ap (take 0) (drop_none units) ∙ begins_from 0 [] units (λ k d lt. absurd (none k lt))
  where
    none : (k : ℕ) → k < 0 → ⊥
    none k lt = omega (arith, lt)
begins ended (s ∷ ss) units loaded more all is joined h =
    let b : Book = load_book ended (s ∷ ss) in
    let whole : All (λ (x : Book). AreInJournal units x.receipts) (b ∷ more) = subst (λ (bs : List Book). All (λ (x : Book). AreInJournal units x.receipts) bs) (joined ∙ ap (λ (bs : List Book). bs ++ more) is) h in
    let first : 0 < suc (length more) = omega arith in
    let there : AreInJournal units (claims_from 1 (s ∷ ss)) = whole 0 b first in
    ap (take (suc (length ss))) (drop_none units) ∙ begins_from 0 (s ∷ ss) units there.each
