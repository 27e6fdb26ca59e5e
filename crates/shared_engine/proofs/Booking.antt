-- A session with one unit more.
use Rattle.std.proofs.Common.{◌≡◌, ℕ, ◌+◌, ◌<◌, Bool, List, [], ◌∷◌, ◌++◌, map, length, length-append, true, false, refl, sym, ap, ◌∙◌, subst, arith}
use Rattle.std.specs.Prelude.{Option, not}
use Rattle.std.specs.List.{All, filter}
use Rattle.std.proofs.lemmas.List.Elements.{All-nil, All-head, All-tail, All-push, All-weaker, All-filter, filter-append}
use Rattle.std.proofs.lemmas.List.{append-nil, map-append}
use Rattle.std.proofs.lemmas.Option.{slice_get_within}
use mathlib.Core.Bool.{cond}
use Rattle.journal.specs.declared.unit.Unit.{Unit as JournalUnit}
use Rattle.journal.specs.Kept.{Claim, job_of}
use Rattle.job_core.specs.Common.{Common, HasAdded}
use Rattle.pin_board.specs.Slips.{IsInJournal, AreInJournal, IsNext}
use Rattle.shared_engine.specs.Receipts.{claim, has_receipt, RisesFrom, gives, gives_none, number_of, receipts_in, others_in, IsBook}

rises_push : (n : ℕ) (xs : List Claim) (y : Claim) → RisesFrom n xs → n < y.number → All (λ (c : Claim). c.number < y.number) xs → RisesFrom n (xs ++ y ∷ [])
rises_push n [] y r l a = (l, tt)
rises_push n (x ∷ xs) y r l a =
    (r.0, rises_push x.number xs y r.1 (All-head (λ (c : Claim). c.number < y.number) x xs a) (All-tail (λ (c : Claim). c.number < y.number) x xs a))

below_next : (log : List JournalUnit) (mine : List Claim) (n : ℕ) → n ≡ length log + 1 → AreInJournal log mine → All (λ (c : Claim). c.number < n) mine
below_next log mine n e s = All-weaker (IsInJournal log) (λ (c : Claim). c.number < n) (λ c a. let w = slice_get_within log a.0 c.unit a.2 in let q = a.1 in omega arith) mine s.each

-- of what is in the journal, what has receipts is
pub in_journal_receipts : (log : List JournalUnit) (mine : List Claim) → AreInJournal log mine → AreInJournal log (receipts_in mine)
unfolding receipts_in
in_journal_receipts log mine s = record { each = All-filter gives (IsInJournal log) mine s.each }

pub receipts_push : (mine : List Claim) (c : Claim) → has_receipt c.unit ≡ true → receipts_in (mine ++ c ∷ []) ≡ receipts_in mine ++ c ∷ []
unfolding receipts_in
receipts_push mine c has = filter-append gives mine (c ∷ []) ∙ ap (λ (b : Bool). filter gives mine ++ cond b (c ∷ []) []) has

receipts_quiet : (mine : List Claim) (c : Claim) → has_receipt c.unit ≡ false → receipts_in (mine ++ c ∷ []) ≡ receipts_in mine
unfolding receipts_in
receipts_quiet mine c has = filter-append gives mine (c ∷ []) ∙ (ap (λ (b : Bool). filter gives mine ++ cond b (c ∷ []) []) has ∙ append-nil (filter gives mine))

pub in_journal_others : (log : List JournalUnit) (mine : List Claim) → AreInJournal log mine → AreInJournal log (others_in mine)
unfolding others_in
in_journal_others log mine s = record { each = All-filter gives_none (IsInJournal log) mine s.each }

others_push : (mine : List Claim) (c : Claim) → has_receipt c.unit ≡ false → others_in (mine ++ c ∷ []) ≡ others_in mine ++ c ∷ []
unfolding others_in
others_push mine c has = filter-append gives_none mine (c ∷ []) ∙ ap (λ (b : Bool). filter gives_none mine ++ cond (not b) (c ∷ []) []) has

pub others_quiet : (mine : List Claim) (c : Claim) → has_receipt c.unit ≡ true → others_in (mine ++ c ∷ []) ≡ others_in mine
unfolding others_in
others_quiet mine c has = filter-append gives_none mine (c ∷ []) ∙ (ap (λ (b : Bool). filter gives_none mine ++ cond (not b) (c ∷ []) []) has ∙ append-nil (filter gives_none mine))

pub others_nothing : others_in [] ≡ []
unfolding others_in
others_nothing = refl

pub receipts_nothing : receipts_in [] ≡ []
unfolding receipts_in
receipts_nothing = refl

pub book_nothing : (job : ℕ) → IsBook job [] []
unfolding receipts_in
book_nothing job = record { numbers_are = refl; own = All-nil (λ (c : Claim). job_of c.unit ≡ job); rising = tt }

pub book_push : (job : ℕ) (ns : List ℕ) (mine : List Claim) (log : List JournalUnit) (c : Claim) → IsBook job ns mine → AreInJournal log mine → IsNext log c → has_receipt c.unit ≡ true → job_of c.unit ≡ job → IsBook job (ns ++ c.number ∷ []) (mine ++ c ∷ [])
book_push job ns mine log c b s next has own =
    let n = next.number in record {
      numbers_are = ap (map number_of) (receipts_push mine c has) ∙ (map-append number_of (receipts_in mine) (c ∷ []) ∙ ap (λ (l : List ℕ). l ++ c.number ∷ []) b.numbers_are);
      own = All-push (λ (p : Claim). job_of p.unit ≡ job) mine c b.own own;
      rising = subst (RisesFrom 0) (sym (receipts_push mine c has)) (rises_push 0 (receipts_in mine) c b.rising (omega arith) (below_next log (receipts_in mine) c.number n (in_journal_receipts log mine s)));
    }

book_quiet : (job : ℕ) (ns : List ℕ) (mine : List Claim) (c : Claim) → IsBook job ns mine → has_receipt c.unit ≡ false → job_of c.unit ≡ job → IsBook job ns (mine ++ c ∷ [])
book_quiet job ns mine c b has own = record {
  numbers_are = ap (map number_of) (receipts_quiet mine c has) ∙ b.numbers_are;
  own = All-push (λ (p : Claim). job_of p.unit ≡ job) mine c b.own own;
  rising = subst (RisesFrom 0) (sym (receipts_quiet mine c has)) b.rising;
}

-- ---- what the core has added

-- the receipt names the unit that comes next
pub next_of : (u : JournalUnit) (told : Claim) (oldest : Option ℕ) (old new : Common) (log : List JournalUnit) → log ≡ old.units → HasAdded u told oldest old new → IsNext log told
next_of u told oldest old new log same h = record {
  number = ap (λ (c : Claim). c.number) h.receipt ∙ (ap length h.units ∙ (length-append old.units (u ∷ []) ∙ ap (λ (l : List JournalUnit). length l + 1) (sym same)));
  job = ap (λ (c : Claim). c.job) h.receipt ∙ ap job_of (sym (ap (λ (c : Claim). c.unit) h.receipt));
}

claim_of : (u : JournalUnit) (told : Claim) (oldest : Option ℕ) (old new : Common) → HasAdded u told oldest old new → told ≡ claim (length old.units + 1) u
claim_of u told oldest old new h = h.receipt ∙ ap (λ (n : ℕ). claim n u) (ap length h.units ∙ length-append old.units (u ∷ []))

-- a unit that gives a receipt
pub booked_next : (u : JournalUnit) (told : Claim) (oldest : Option ℕ) (old new : Common) (log : List JournalUnit) (job : ℕ) (ns more : List ℕ) (mine longer : List Claim) → IsBook job ns mine → log ≡ old.units → HasAdded u told oldest old new → AreInJournal log mine
    → longer ≡ mine ++ told ∷ [] → more ≡ ns ++ told.number ∷ [] → has_receipt u ≡ true → job_of u ≡ job → IsBook job more longer
booked_next u told oldest old new log job ns more mine longer b same h s l m has own =
    let unit : told.unit ≡ u = ap (λ (c : Claim). c.unit) h.receipt in
    rw (l, m) (book_push job ns mine log told b s (next_of u told oldest old new log same h) (ap has_receipt unit ∙ has) (ap job_of unit ∙ own))

pub received : (u : JournalUnit) (told : Claim) (oldest : Option ℕ) (old new : Common) (mine longer : List Claim) → HasAdded u told oldest old new → longer ≡ mine ++ told ∷ [] → has_receipt u ≡ true → receipts_in longer ≡ receipts_in mine ++ claim (length old.units + 1) u ∷ []
received u told oldest old new mine longer h l has =
    let unit : told.unit ≡ u = ap (λ (c : Claim). c.unit) h.receipt in
    ap receipts_in l ∙ (receipts_push mine told (ap has_receipt unit ∙ has) ∙ ap (λ (c : Claim). receipts_in mine ++ c ∷ []) (claim_of u told oldest old new h))

pub others_same : (u : JournalUnit) (told : Claim) (oldest : Option ℕ) (old new : Common) (mine longer : List Claim) → HasAdded u told oldest old new → longer ≡ mine ++ told ∷ [] → has_receipt u ≡ true → others_in longer ≡ others_in mine
others_same u told oldest old new mine longer h l has =
    let unit : told.unit ≡ u = ap (λ (c : Claim). c.unit) h.receipt in
    ap others_in l ∙ others_quiet mine told (ap has_receipt unit ∙ has)

-- a unit that gives none
pub booked_quiet : (u : JournalUnit) (told : Claim) (oldest : Option ℕ) (old new : Common) (job : ℕ) (ns : List ℕ) (mine longer : List Claim) → IsBook job ns mine → HasAdded u told oldest old new → longer ≡ mine ++ told ∷ [] → has_receipt u ≡ false → job_of u ≡ job
    → IsBook job ns longer
booked_quiet u told oldest old new job ns mine longer b h l has own =
    let unit : told.unit ≡ u = ap (λ (c : Claim). c.unit) h.receipt in
    rw l (book_quiet job ns mine told b (ap has_receipt unit ∙ has) (ap job_of unit ∙ own))

pub others_more : (u : JournalUnit) (told : Claim) (oldest : Option ℕ) (old new : Common) (mine longer : List Claim) → HasAdded u told oldest old new → longer ≡ mine ++ told ∷ [] → has_receipt u ≡ false → others_in longer ≡ others_in mine ++ claim (length new.units) u ∷ []
others_more u told oldest old new mine longer h l has =
    let unit : told.unit ≡ u = ap (λ (c : Claim). c.unit) h.receipt in
    ap others_in l ∙ (others_push mine told (ap has_receipt unit ∙ has) ∙ ap (λ (c : Claim). others_in mine ++ c ∷ []) h.receipt)

pub received_none : (u : JournalUnit) (told : Claim) (oldest : Option ℕ) (old new : Common) (mine longer : List Claim) → HasAdded u told oldest old new → longer ≡ mine ++ told ∷ [] → has_receipt u ≡ false → receipts_in longer ≡ receipts_in mine
received_none u told oldest old new mine longer h l has =
    let unit : told.unit ≡ u = ap (λ (c : Claim). c.unit) h.receipt in
    ap receipts_in l ∙ receipts_quiet mine told (ap has_receipt unit ∙ has)
