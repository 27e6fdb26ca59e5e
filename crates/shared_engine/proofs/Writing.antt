-- A session's seat after a step, and what is seen of the session then.
use Rattle.std.proofs.Common.{◌≡◌, ℕ, ◌+◌, true, false, List, [], ◌∷◌, ◌++◌, length, length-append, refl, sym, ap, ◌∙◌, subst}
use Rattle.std.specs.Prelude.{Option, None, Bool}
use Rattle.journal.specs.declared.unit.Unit.{Unit as JournalUnit}
use Rattle.journal.specs.declared.unit.Unit.TheVariants.{Back, End}
use Rattle.journal.specs.Kept.{Claim, job_of}
use Rattle.validate_commit.specs.Working.{Working}
use Rattle.job_core.specs.Common.{Common, HasAdded}
use Rattle.job_core.specs.Sessions.{Session as JobSession, idle}
use Rattle.pin_board.specs.declared.view.DeskView.{DeskView}
use Rattle.pin_board.specs.declared.view.PinView.{PinView}
use Rattle.pin_board.specs.Views.{wrote, aware, rested}
use Rattle.pin_board.specs.Slips.{AreInJournal, IsBeginning, IsNext}
use Rattle.shared_engine.specs.Receipts.{has_receipt, receipts_in, others_in, claim, book, IsBook}
use Rattle.shared_engine.specs.Sessions.{Held, held, start_in, GoesOnFromStart, IsSession, knowing, and_receipt, went_back, halted, noted_lock}
use Rattle.shared_engine.specs.laws.Told.{others_back}
use Rattle.shared_engine.proofs.Booking.{book_push, receipts_push, others_quiet, book_nothing, receipts_nothing, booked_next, booked_quiet, received, received_none, others_same, others_more, others_nothing}
use Rattle.shared_engine.proofs.Starting.{start_free, at_noted, noted_work}
use Rattle.shared_engine.proofs.Prefixes.{start_later, start_longer, start_none}

-- what is seen of a session with this state and this seat
abbrev pub shown : JobSession → PinView → Held
shown s p = held s (start_in p) (receipts_in p.mine) (others_in p.mine) p.seen

-- it has seen the journal up to the unit that it wrote
pub seen_next : (u : JournalUnit) (told : Claim) (oldest : Option ℕ) (old new : Common) (desk : DeskView) (pin later : PinView) → desk.log ≡ old.units → HasAdded u told oldest old new → later ≡ wrote desk pin told → later.seen ≡ old.units ++ u ∷ []
seen_next u told oldest old new desk pin later same h step = ap (λ (p : PinView). p.seen) step ∙ (λ i. same i ++ (ap (λ (c : Claim). c.unit) h.receipt) i ∷ [])

-- its number is how many units there are then
pub number_of_end : (u : JournalUnit) (told : Claim) (oldest : Option ℕ) (old new : Common) (n : ℕ) (seen : List JournalUnit) → HasAdded u told oldest old new → n ≡ told.number → seen ≡ old.units ++ u ∷ [] → n ≡ length seen
number_of_end u told oldest old new n seen h is last = is ∙ (ap (λ (c : Claim). c.number) h.receipt ∙ ap length (h.units ∙ sym last))

-- what it has seen goes on from its start
start_written : (desk : DeskView) (told : Claim) (pin later : PinView) → later ≡ wrote desk pin told → IsBeginning desk.log pin.seen → GoesOnFromStart (start_in pin) pin.seen → GoesOnFromStart (start_in later) later.seen
start_written desk told pin later step goes_on from = subst (λ (p : PinView). GoesOnFromStart (start_in p) p.seen) (sym step) (start_longer (start_in pin) pin.seen desk.log (told.unit ∷ []) goes_on from)

-- a unit that gives a receipt
pub session_next : (u : JournalUnit) (told : Claim) (oldest : Option ℕ) (old new : Common) (desk : DeskView) (s : JobSession) (pin later : PinView) (ns more : List ℕ) → IsSession s pin ns → desk.log ≡ old.units → HasAdded u told oldest old new
    → AreInJournal desk.log pin.mine → IsBeginning desk.log pin.seen → later ≡ wrote desk pin told → more ≡ ns ++ told.number ∷ [] → has_receipt u ≡ true → job_of u ≡ s.work.job → IsSession s later more
session_next u told oldest old new desk s pin later ns more is same h in_log goes_on step m has own = record {
  place = ap (λ (p : PinView). p.place + 1) step ∙ is.place;
  slip = ap (λ (p : PinView). p.slips) step ∙ is.slip;
  at = rw (ap start_in step) is.at;
  start = start_written desk told pin later step goes_on is.start;
  book = booked_next u told oldest old new desk.log s.work.job ns more pin.mine later.mine is.book same h in_log (ap (λ (p : PinView). p.mine) step) m has own;
}

pub view_next : (u : JournalUnit) (told : Claim) (oldest : Option ℕ) (old new : Common) (desk : DeskView) (s : JobSession) (pin later : PinView) → desk.log ≡ old.units → HasAdded u told oldest old new → later ≡ wrote desk pin told → has_receipt u ≡ true
    → shown s later ≡ and_receipt old.units u (shown s pin)
view_next u told oldest old new desk s pin later log h step has =
    let start : start_in later ≡ start_in pin = ap start_in step in
    let more = received u told oldest old new pin.mine later.mine h (ap (λ (p : PinView). p.mine) step) has in
    let same = others_same u told oldest old new pin.mine later.mine h (ap (λ (p : PinView). p.mine) step) has in
    let seen = seen_next u told oldest old new desk pin later log h step in
    λ i. held s (start i) (more i) (same i) (seen i)

-- a receipt that was told of the unit behind those on the board
pub session_taken : (desk : DeskView) (s : JobSession) (pin later : PinView) (ns more : List ℕ) (c : Claim) → IsSession s pin ns → AreInJournal desk.log pin.mine → IsBeginning desk.log pin.seen → IsNext desk.log c → later ≡ wrote desk pin c → more ≡ ns ++ c.number ∷ [] → has_receipt c.unit ≡ true
    → job_of c.unit ≡ s.work.job → IsSession s later more
session_taken desk s pin later ns more c is in_log goes_on next step m has own = record {
  place = ap (λ (p : PinView). p.place + 1) step ∙ is.place;
  slip = ap (λ (p : PinView). p.slips) step ∙ is.slip;
  at = rw (ap start_in step) is.at;
  start = start_written desk c pin later step goes_on is.start;
  book = rw (ap (λ (p : PinView). p.mine) step, m) (book_push s.work.job ns pin.mine desk.log c is.book in_log next has own);
}

pub view_taken : (desk : DeskView) (s : JobSession) (pin later : PinView) (c : Claim) → IsNext desk.log c → later ≡ wrote desk pin c → has_receipt c.unit ≡ true → shown s later ≡ and_receipt desk.log c.unit (shown s pin)
view_taken desk s pin later c next step has =
    let told : c ≡ claim (length desk.log + 1) c.unit = λ i. record { job = next.job i; number = next.number i; unit = c.unit } in
    let mine = ap (λ (p : PinView). p.mine) step in
    let start : start_in later ≡ start_in pin = ap start_in step in
    let more = ap receipts_in mine ∙ (receipts_push pin.mine c has ∙ ap (λ (x : Claim). receipts_in pin.mine ++ x ∷ []) told) in
    let same = ap others_in mine ∙ others_quiet pin.mine c has in
    let seen = ap (λ (p : PinView). p.seen) step in
    λ i. held s (start i) (more i) (same i) (seen i)

-- a unit that gives none
pub session_quiet : (u : JournalUnit) (told : Claim) (oldest : Option ℕ) (old new : Common) (desk : DeskView) (s : JobSession) (pin later : PinView) (ns : List ℕ) → IsSession s pin ns → HasAdded u told oldest old new → IsBeginning desk.log pin.seen → later ≡ wrote desk pin told → has_receipt u ≡ false → job_of u ≡ s.work.job
    → IsSession s later ns
session_quiet u told oldest old new desk s pin later ns is h goes_on step has own = record {
  place = ap (λ (p : PinView). p.place + 1) step ∙ is.place;
  slip = ap (λ (p : PinView). p.slips) step ∙ is.slip;
  at = rw (ap start_in step) is.at;
  start = start_written desk told pin later step goes_on is.start;
  book = booked_quiet u told oldest old new s.work.job ns pin.mine later.mine is.book h (ap (λ (p : PinView). p.mine) step) has own;
}

-- one unit more, the last of these, which gives no receipt
abbrev and_other : List JournalUnit → JournalUnit → Held → Held
and_other units unit s = held s.state s.start s.receipts (s.others ++ claim (length units) unit ∷ []) units

view_quiet : (u : JournalUnit) (told : Claim) (oldest : Option ℕ) (old new : Common) (desk : DeskView) (s : JobSession) (pin later : PinView) → desk.log ≡ old.units → HasAdded u told oldest old new → later ≡ wrote desk pin told → has_receipt u ≡ false
    → shown s later ≡ and_other new.units u (shown s pin)
view_quiet u told oldest old new desk s pin later log h step has =
    let start : start_in later ≡ start_in pin = ap start_in step in
    let same = received_none u told oldest old new pin.mine later.mine h (ap (λ (p : PinView). p.mine) step) has in
    let more = others_more u told oldest old new pin.mine later.mine h (ap (λ (p : PinView). p.mine) step) has in
    let seen : later.seen ≡ new.units = seen_next u told oldest old new desk pin later log h step ∙ sym h.units in
    λ i. held s (start i) (same i) (more i) (seen i)

pub back_written : (units : List JournalUnit) (s : Held) → s.state.took_lock ≡ true → and_other units (Back s.state.work.job) s ≡ went_back units s
back_written units s took = ap (λ (b : Bool). others_back b units s) (sym took)

pub view_back : (told : Claim) (oldest : Option ℕ) (old new : Common) (desk : DeskView) (s : JobSession) (pin later : PinView) (job : ℕ) (h : Held) → desk.log ≡ old.units → HasAdded (Back job) told oldest old new → later ≡ wrote desk pin told → job ≡ s.work.job → s.took_lock ≡ true
    → shown s pin ≡ h → shown s later ≡ went_back new.units h
view_back told oldest old new desk s pin later job h log added step own took is =
    let owner : job ≡ h.state.work.job = own ∙ ap (λ (x : Held). x.state.work.job) is in
    view_quiet (Back job) told oldest old new desk s pin later log added step refl
    ∙ ((λ i. and_other new.units (Back (owner i)) (is i)) ∙ back_written new.units h (sym (ap (λ (x : Held). x.state.took_lock) is) ∙ took))

-- the session is over
pub view_halted : (told : Claim) (oldest : Option ℕ) (old new : Common) (s : JobSession) (start : Option (List JournalUnit)) (mine longer : List Claim) (seen last : List JournalUnit) (job : ℕ) (h : Held) → HasAdded (End job) told oldest old new → longer ≡ mine ++ told ∷ []
    → last ≡ old.units ++ End job ∷ [] → job ≡ s.work.job → held s start (receipts_in mine) (others_in mine) seen ≡ h → book job (receipts_in longer) (others_in longer) last ≡ halted old.units h
view_halted told oldest old new s start mine longer seen last job h added step knows own is =
    let owner : job ≡ h.state.work.job = own ∙ ap (λ (x : Held). x.state.work.job) is in
    let receipts = received_none (End job) told oldest old new mine longer added step refl ∙ ap (λ (x : Held). x.receipts) is in
    let number : length new.units ≡ length old.units + 1 = ap length added.units ∙ length-append old.units (End job ∷ []) in
    let others = others_more (End job) told oldest old new mine longer added step refl ∙ ap (λ (n : ℕ). others_in mine ++ claim n (End job) ∷ []) number in
    (λ i. book (owner i) (receipts i) (others i) (knows i))
    ∙ (λ i. book h.state.work.job h.receipts ((is i).others ++ claim (length old.units + 1) (End (owner i)) ∷ []) (old.units ++ End (owner i) ∷ []))

-- the number of its receipt, where room was made first
pub numbers_next : (ns kept more : List ℕ) (n m : ℕ) → more ≡ kept ++ n ∷ [] → kept ≡ ns → n ≡ m → more ≡ ns ++ m ∷ []
numbers_next ns kept more n m push same is = push ∙ (λ i. same i ++ is i ∷ [])

-- the seat has met the desk
pub session_met : (s : JobSession) (desk : DeskView) (pin met : PinView) (ns : List ℕ) → IsSession s pin ns → IsBeginning desk.log pin.seen → met ≡ aware desk pin → IsSession s met ns
session_met s desk pin met ns is goes_on step =
    subst (λ (p : PinView). IsSession s p ns) (sym step) (record { place = is.place; slip = is.slip; at = is.at; start = start_later (start_in pin) pin.seen desk.log goes_on is.start; book = is.book })

pub view_met : (units : List JournalUnit) (desk : DeskView) (s : JobSession) (pin met : PinView) → met ≡ aware desk pin → desk.log ≡ units → shown s met ≡ knowing units (shown s pin)
view_met units desk s pin met step log = ap (shown s) step ∙ ap (held s (start_in pin) (receipts_in pin.mine) (others_in pin.mine)) log

-- a LOCK is noted
pub session_noted : (s : JobSession) (pin : PinView) (ns : List ℕ) → IsSession s pin ns → IsSession (noted_lock s) pin ns
session_noted s pin ns is =
    let job : (noted_lock s).work.job ≡ s.work.job = ap (λ (w : Working). w.job) (noted_work s) in record {
      place = is.place ∙ sym job;
      slip = is.slip;
      at = at_noted (start_in pin) s is.at;
      start = is.start;
      book = subst (λ (j : ℕ). IsBook j ns pin.mine) (sym job) is.book;
    }

-- the transaction is over, and the seat has left
pub session_left : (s : JobSession) (pin later : PinView) (ns : List ℕ) → IsSession s pin ns → later ≡ rested pin → IsSession (idle s.work.job) later ns
session_left s pin later ns is step = record {
  place = ap (λ (p : PinView). p.place + 1) step ∙ is.place;
  slip = ap (λ (p : PinView). p.slips) step ∙ is.slip;
  at = rw (ap start_in step) refl;
  start = start_none later (ap (λ (p : PinView). p.settled) step);
  book = subst (λ (m : List Claim). IsBook s.work.job ns m) (sym (ap (λ (p : PinView). p.mine) step)) is.book;
}

-- a session begins
pub session_opened : (s : JobSession) (job : ℕ) (log : List JournalUnit) (pin later : PinView) (ns : List ℕ) → s ≡ idle job → later ≡ record pin { slips = 1; seen = log } → pin.place + 1 ≡ job → pin.settled ≡ false → pin.mine ≡ [] → ns ≡ [] → IsSession s later ns
session_opened s job log pin later ns is step here free empty none =
    let own : s.work.job ≡ job = ap (λ (t : JobSession). t.work.job) is in
    let mine : later.mine ≡ [] = ap (λ (p : PinView). p.mine) step ∙ empty in record {
      place = ap (λ (p : PinView). p.place + 1) step ∙ (here ∙ sym own);
      slip = ap (λ (p : PinView). p.slips) step;
      at = rw (ap start_in step ∙ start_free pin free) (is ∙ ap idle (sym own));
      start = start_none later (ap (λ (p : PinView). p.settled) step ∙ free);
      book = rw (none, mine) (book_nothing s.work.job);
    }

pub view_opened : (s : JobSession) (job : ℕ) (log : List JournalUnit) (pin later : PinView) (units : List JournalUnit) → s ≡ idle job → later ≡ record pin { slips = 1; seen = log } → pin.settled ≡ false → pin.mine ≡ [] → log ≡ units → shown s later ≡ held (idle job) None [] [] units
view_opened s job log pin later units is step free empty same =
    let start = ap start_in step ∙ start_free pin free in
    let receipts = ap receipts_in (ap (λ (p : PinView). p.mine) step ∙ empty) ∙ receipts_nothing in
    let others = ap others_in (ap (λ (p : PinView). p.mine) step ∙ empty) ∙ others_nothing in
    let seen = ap (λ (p : PinView). p.seen) step ∙ same in
    λ i. held (is i) (start i) (receipts i) (others i) (seen i)
